pub mod Contexts
pub mod Laws
pub mod Lists
mod Steps
