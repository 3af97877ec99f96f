pub mod Chain
pub mod HubWord
pub mod Route
pub mod Sockets
pub mod ThinkTime
pub mod Translator
pub mod Way
