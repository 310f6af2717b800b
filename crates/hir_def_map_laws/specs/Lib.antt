pub mod Paths
pub mod Building
pub mod ReadLaw
pub mod SlotChanges
