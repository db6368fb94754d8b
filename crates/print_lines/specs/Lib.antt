-- Lines, Rows and Report are what a reader must believe; the rest are laws about them.
pub mod Lines
pub mod Rows
pub mod Parts
pub mod Report
pub mod Laws
