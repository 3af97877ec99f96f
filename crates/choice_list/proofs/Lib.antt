mod Examples
pub mod Exits
pub mod Few
pub mod Filled
pub mod Grouped
pub mod Lift
pub mod Listed
mod Longest
pub mod Masks
pub mod Members
pub mod Once
pub mod Words
