pub mod Disconnect
