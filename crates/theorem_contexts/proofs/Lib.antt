pub mod BringUp
pub mod Claim
pub mod Companions
pub mod Ended
pub mod HubUpdate
pub mod Intervals
pub mod Release
pub mod SetConfiguration
