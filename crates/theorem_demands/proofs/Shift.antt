pub mod Same
pub mod Proof
