pub mod Items
pub mod Numbers
pub mod Lines
pub mod Laws
