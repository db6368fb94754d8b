pub mod Totals
pub mod Branches
pub mod Leads
