pub mod Bits
pub mod Cases
pub mod Computed
pub mod Distinct
pub mod Stores
pub mod Tests
pub mod Variants
