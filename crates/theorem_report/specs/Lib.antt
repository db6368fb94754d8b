-- What a report says is found again in its text.
pub mod Again
