pub mod Reserved
pub mod Picked
pub mod Place
pub mod Places
pub mod Kept
