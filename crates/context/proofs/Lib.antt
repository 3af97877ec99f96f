pub mod Added
pub mod Before
pub mod Control
pub mod Entries
pub mod Laws
pub mod Parts
pub mod Promises
pub mod Steps
