pub mod Solid
pub mod Fitted
pub mod Grown
pub mod Fields
pub mod ReadOf
pub mod Bytes
