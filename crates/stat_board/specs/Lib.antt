pub mod Places
pub mod Refusals
pub mod Rows
pub mod Counts
pub mod Seats
pub mod SeatOf
