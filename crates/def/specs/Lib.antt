pub mod Packed
pub mod Speed
