mod BringUp
mod Calls
mod Claim
mod ClaimStep
mod Configured
mod Disconnect
mod Doubts
mod Held
pub mod Never
mod Others
mod Outer
mod Release
mod SetConfiguration
mod Watch
