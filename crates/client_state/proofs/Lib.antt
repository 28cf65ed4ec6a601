pub mod MessageLemmas
pub mod TextLemmas
pub mod RequestLemmas
