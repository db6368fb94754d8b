-- Word is what a reader must believe; the rest are laws about it.
pub mod Word
pub mod Laws
