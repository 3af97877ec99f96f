pub mod Accepted
pub mod Changes
pub mod Commands
pub mod Handles
pub mod Possible
pub mod Quarantine
pub mod Undone
pub mod Words
