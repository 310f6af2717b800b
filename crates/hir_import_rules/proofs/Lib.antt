pub mod Lent
pub mod Targets
