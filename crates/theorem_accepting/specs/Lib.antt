pub mod Accepting
pub mod Asks
pub mod Exponent
