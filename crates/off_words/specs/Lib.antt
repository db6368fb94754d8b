-- Faults, Spots, Shown, Stands and Records are what a reader must believe.
pub mod Spots
pub mod Shown
pub mod Stands
pub mod Records
pub mod Faults
