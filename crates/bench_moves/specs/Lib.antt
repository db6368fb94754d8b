pub mod Bench
pub mod Laws
