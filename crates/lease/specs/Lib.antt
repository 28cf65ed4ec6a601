pub mod LinkValue
pub mod LeaseLends
