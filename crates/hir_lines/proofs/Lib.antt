pub mod CutLemmas
pub mod PartLemmas
