pub mod FitsRoom
