pub mod Contexts
pub mod Doubted
pub mod Laws
pub mod Controlled
