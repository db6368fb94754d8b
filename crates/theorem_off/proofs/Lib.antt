pub mod Grounds
pub mod DenotedProof
