pub mod Light
pub mod Cases
pub mod Words
pub mod Tally
