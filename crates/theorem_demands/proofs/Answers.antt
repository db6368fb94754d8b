pub mod Tests
pub mod Proof
