-- Text and Put are what a reader must believe; the rest are laws about them.
pub mod Text
pub mod Put
pub mod Decimal
pub mod Back
pub mod Size
pub mod Loops
