pub mod Ask
pub mod Checks
pub mod Choose
pub mod Doubt
pub mod Library
pub mod Unclaimed
pub mod Why
