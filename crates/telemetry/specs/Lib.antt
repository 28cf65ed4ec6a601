pub mod Levels
pub mod MetricsText
