pub mod Block
pub mod Scenes
pub mod Header
pub mod Reading
pub mod Parts
