pub mod Wider
pub mod FilterLemmas
