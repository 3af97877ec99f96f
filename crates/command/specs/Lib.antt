pub mod Command
pub mod Course
pub mod Sweep
