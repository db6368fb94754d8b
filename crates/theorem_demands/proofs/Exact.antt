pub mod Listing
pub mod Pairs
pub mod Mask
pub mod Verdict
pub mod Proof
