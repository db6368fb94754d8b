pub mod Mapped
pub mod Image
pub mod Columns
pub mod Tests
pub mod Ready
pub mod Filling
