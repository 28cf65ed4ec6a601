pub mod Refusals
pub mod OpenTickets
pub mod HoldStates
