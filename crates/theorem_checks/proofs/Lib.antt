pub mod Checks
pub mod Companions
pub mod Descriptors
mod Endpoints
pub mod Hubs
mod Numbers
pub mod Record
pub mod Unclaimed
mod Settings
pub mod Values
