pub mod PeerLemmas
pub mod LineLemmas
