pub mod Each
pub mod End
pub mod Arrays
