pub mod CutLemmas
pub mod FlowLemmas
pub mod StoreLemmas
pub mod TextLemmas
