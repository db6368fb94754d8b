pub mod Judge
pub mod Laws
pub mod Cases
pub mod Tests
pub mod Words
pub mod Alone
pub mod Passed
