pub mod Queue
pub mod Moves
pub mod Watching
pub mod Waking
pub mod Settling
pub mod Types
