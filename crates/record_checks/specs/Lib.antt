pub mod Draw
pub mod Lengths
pub mod Rings
pub mod Sound
pub mod Store
pub mod Think
