pub mod Edges
pub mod Inside
pub mod Proof
