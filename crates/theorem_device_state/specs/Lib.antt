pub mod DeviceState
pub mod Theorem
