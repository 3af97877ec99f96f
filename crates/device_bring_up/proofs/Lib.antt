pub mod Accepted
pub mod Before
pub mod Checks
pub mod Laws
mod Steps
