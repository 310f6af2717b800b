pub mod Resuming
pub mod Meeting
pub mod Watching
pub mod UpToDate
pub mod MetUpToDate
pub mod Queued
pub mod GivingUp
