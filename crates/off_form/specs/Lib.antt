pub mod Form
pub mod Head
