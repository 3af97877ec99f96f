pub mod Before
pub mod BringUp
