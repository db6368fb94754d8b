pub mod Proof
