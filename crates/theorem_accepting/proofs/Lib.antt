pub mod Accepting
pub mod Back
pub mod Asks
pub mod BringUp
pub mod Checked
pub mod Exponent
pub mod Runs
pub mod Value
