pub mod Ask
pub mod Checks
mod Choose
mod Doubt
pub mod Library
pub mod Unclaimed
mod Why
