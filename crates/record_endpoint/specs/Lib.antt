pub mod EndpointMap
pub mod Endpoint
pub mod Order
