mod Answers
pub mod Promises
