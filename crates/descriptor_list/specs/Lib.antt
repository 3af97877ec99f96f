pub mod Companions
pub mod Lookup
pub mod Promises
pub mod Valid
