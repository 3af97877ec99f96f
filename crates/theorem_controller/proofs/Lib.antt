pub mod Done
pub mod Followed
pub mod Laws
pub mod Sent
