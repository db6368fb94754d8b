pub mod Promised
pub mod Once
