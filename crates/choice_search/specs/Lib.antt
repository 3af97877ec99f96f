pub mod Order
pub mod Promises
pub mod Room
pub mod Search
