pub mod Endpoint
pub mod Promises
pub mod Word
