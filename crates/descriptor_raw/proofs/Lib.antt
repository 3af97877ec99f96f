mod Back
mod Before
mod Cameras
mod Companion
mod Examples
pub mod Made
mod Promises
pub mod Unmarked
pub mod Valid
mod Written
mod Yielded
