pub mod Refused
pub mod Rules
