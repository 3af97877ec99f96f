pub mod Answer
pub mod Check
pub mod Answered
