pub mod Packed
pub mod PackedProof
