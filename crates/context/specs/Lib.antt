pub mod Before
pub mod Place
pub mod Promises
pub mod Steps
