pub mod Before
pub mod Bits
pub mod Convert
pub mod Examples
pub mod Form
pub mod Held
pub mod Promises
