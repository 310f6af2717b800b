-- worlds
pub mod Depending
pub mod Joined
pub mod Recorded
pub mod Naming
pub mod Falling
pub mod Entries
pub mod FallingSteps
pub mod Removed
