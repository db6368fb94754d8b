pub mod Survey
pub mod Laws
pub mod Inside
