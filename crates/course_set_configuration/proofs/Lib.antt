pub mod Contexts
pub mod Laws
pub mod Controlled
mod Exits
pub mod Steps
