pub mod Before
pub mod Proof
