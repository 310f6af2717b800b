pub mod Query
pub mod Slots
