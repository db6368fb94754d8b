pub mod Bounds
pub mod Said
