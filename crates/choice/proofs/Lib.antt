pub mod Exits
pub mod Promises
