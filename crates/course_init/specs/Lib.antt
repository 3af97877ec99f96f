pub mod Init
pub mod Parts
pub mod Reading
