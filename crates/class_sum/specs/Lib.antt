pub mod Merged
pub mod Laws
pub mod Lines
pub mod Sheets
pub mod SheetsProof
