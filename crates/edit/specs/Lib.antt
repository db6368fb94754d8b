-- Operations and Steps are what a reader must believe; the rest are laws about them.
pub mod Operations
pub mod Steps
pub mod Laws
pub mod Written
