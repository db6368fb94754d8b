pub mod Sorted
pub mod Planes
pub mod Sizes
pub mod Scene
pub mod Clean
pub mod Answers
