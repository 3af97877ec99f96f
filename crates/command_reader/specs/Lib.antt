pub mod Promises
pub mod Read
