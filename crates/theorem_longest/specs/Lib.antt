pub mod Longest
pub mod Parted
pub mod LongestProof
