pub mod Macros
pub mod Node
pub mod Laws
pub mod Types
