pub mod Count
pub mod Fair
pub mod First
pub mod Found
pub mod Laws
pub mod Marks
pub mod Promises
pub mod Seen
