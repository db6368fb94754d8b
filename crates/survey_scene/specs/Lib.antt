pub mod Ready
pub mod Surveys
pub mod Facts
pub mod Readings
