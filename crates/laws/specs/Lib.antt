pub mod Bounds
pub mod Distinct
