pub mod Times
pub mod Rings
