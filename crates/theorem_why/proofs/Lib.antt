mod Owner
pub mod Promises
mod Said
