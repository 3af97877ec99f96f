pub mod Blocks
pub mod Fields
pub mod Flags
pub mod Promises
pub mod FieldWrite
