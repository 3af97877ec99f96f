pub mod Candidate
pub mod Choice
pub mod Chosen
pub mod Examples
pub mod Promises
pub mod Tried
