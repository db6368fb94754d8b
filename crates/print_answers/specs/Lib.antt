-- Said and Lent are what a reader must believe; Laws are laws about them.
pub mod Said
pub mod Lent
pub mod Laws
