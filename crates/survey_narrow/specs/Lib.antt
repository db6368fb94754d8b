pub mod Separated
pub mod Marks
pub mod Cover
pub mod Union
pub mod Narrow
pub mod Lent
pub mod Sides
pub mod Narrowing
