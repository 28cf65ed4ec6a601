pub mod CallLemmas
pub mod WritingLemmas
pub mod CarryingLemmas
