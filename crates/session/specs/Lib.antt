pub mod Session
pub mod Laws
pub mod Moved
pub mod Turned
pub mod Kept
pub mod Changes
pub mod Saved
pub mod Place
