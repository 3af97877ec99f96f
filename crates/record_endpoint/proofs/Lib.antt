pub mod Clean
mod Fit
pub mod Laws
mod Steps
