pub mod KeyLemmas
pub mod AnyKeyLemmas
