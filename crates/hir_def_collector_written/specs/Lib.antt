pub mod Walked
pub mod Declared
