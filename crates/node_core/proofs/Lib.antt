pub mod Slots
pub mod Links
pub mod Clients
mod Rows
