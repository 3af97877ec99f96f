pub mod Cases
pub mod Faults
pub mod Wrong
