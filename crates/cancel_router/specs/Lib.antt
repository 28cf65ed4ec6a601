pub mod Refusals
pub mod Route
