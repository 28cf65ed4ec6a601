pub mod BodyLemmas
pub mod HeadLemmas
pub mod StageLemmas
pub mod ValueLemmas
pub mod MessageLemmas
pub mod WatchLemmas
pub mod FirstErrorLemmas
