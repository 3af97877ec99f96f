pub mod Laws
mod Promises
