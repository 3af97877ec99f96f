pub mod Ends
mod Steps
