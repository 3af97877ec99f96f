mod Behind
mod Chains
pub mod Companions
pub mod Examples
mod Joins
pub mod Laws
mod Marks
pub mod Next
mod Steps
pub mod Passed
