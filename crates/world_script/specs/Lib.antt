pub mod Words
pub mod EventLine
pub mod Peers
pub mod Script
pub mod Outcome
pub mod Reads
