pub mod Held
pub mod Match
pub mod Room
pub mod Words
