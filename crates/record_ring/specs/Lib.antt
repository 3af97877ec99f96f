pub mod Promises
pub mod Rings
pub mod Store
pub mod Struck
