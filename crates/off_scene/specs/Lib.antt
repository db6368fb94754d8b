pub mod Made
pub mod Counts
pub mod Laws
pub mod Exact
