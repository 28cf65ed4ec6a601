pub mod StatusLemmas
pub mod HearingLemmas
pub mod SetLemmas
