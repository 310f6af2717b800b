pub mod RunLemmas
pub mod FateLemmas
