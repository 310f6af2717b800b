pub mod DigitLemmas
pub mod FileLemmas
pub mod PathLemmas
mod NumberLemmas
mod AtomLemmas
mod CfgLemmas
