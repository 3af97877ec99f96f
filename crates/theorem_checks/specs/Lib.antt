pub mod Checks
pub mod Descriptors
pub mod Hubs
pub mod Record
pub mod Unclaimed
pub mod Values
