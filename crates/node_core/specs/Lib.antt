pub mod Refusals
pub mod View
pub mod ViewOf
pub mod NodeStep
