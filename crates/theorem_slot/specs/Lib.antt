pub mod Answers
pub mod Call
pub mod Groups
pub mod Plain
pub mod Rings
pub mod Theorem
pub mod Unplugging
