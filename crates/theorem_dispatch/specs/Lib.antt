pub mod Desk
pub mod Doubt
pub mod Isolation
pub mod Turns
