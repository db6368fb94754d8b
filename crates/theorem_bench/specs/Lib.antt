pub mod Fixture
pub mod Effect
pub mod Lecturer
pub mod Opening
pub mod Kept
pub mod Apart
