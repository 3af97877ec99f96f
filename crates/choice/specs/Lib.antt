pub mod Choose
pub mod Promises
