pub mod Calls
pub mod Writing
pub mod Carrying
pub mod Finishing
