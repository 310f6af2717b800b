pub mod Progress
pub mod Closing
