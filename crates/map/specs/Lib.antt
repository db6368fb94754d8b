-- Line and Asked are what a reader must believe; the rest are laws about them.
pub mod Line
pub mod Asked
pub mod Laws
