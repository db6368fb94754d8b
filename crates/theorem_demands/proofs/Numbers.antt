pub mod Given
pub mod Proof
