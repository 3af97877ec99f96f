pub mod SetConfiguration
