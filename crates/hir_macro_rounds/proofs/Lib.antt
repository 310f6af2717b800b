pub mod Meets
pub mod Turning
