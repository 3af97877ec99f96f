pub mod Companions
pub mod Contexts
pub mod Intervals
