pub mod CancelEnds
pub mod OpenConnections
pub mod UnservedEnds
