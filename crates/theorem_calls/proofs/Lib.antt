pub mod Active
mod Called
pub mod Control
mod Courses
pub mod Failed
pub mod Framed
pub mod Listed
pub mod Logged
pub mod Quarantine
pub mod Spelled
pub mod Stays
mod Steadily
mod Tallied
mod Undoing
mod Walked
