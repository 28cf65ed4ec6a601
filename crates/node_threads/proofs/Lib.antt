pub mod Told
pub mod Balancing
pub mod CarryingLemmas
pub mod LeaseLemmas
pub mod ServingLemmas
pub mod ConsoleLemmas
pub mod ConnectionLemmas
pub mod PlaceLemmas
