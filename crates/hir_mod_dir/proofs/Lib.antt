pub mod PathTextLemmas
pub mod PlaceLemmas
