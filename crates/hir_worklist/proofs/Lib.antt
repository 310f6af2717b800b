pub mod Idle
pub mod Settled
pub mod Waking
pub mod Watched
pub mod Passes
pub mod Woken
