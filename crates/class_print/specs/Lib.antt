pub mod Sheet
pub mod Numbered
pub mod Fits
