pub mod OnesTerms
pub mod Sizes
pub mod Bits
pub mod Whole
pub mod Weighted
pub mod Rules
