pub mod Fields
pub mod Flags
pub mod Laws
pub mod Promises
