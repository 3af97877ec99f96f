pub mod Commands
pub mod Driven
mod Partly
mod Pairs
mod Phases
pub mod Placed
pub mod Unread
