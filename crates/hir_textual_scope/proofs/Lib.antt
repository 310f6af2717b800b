pub mod NameOrder
pub mod MoreMacros
pub mod NamedMacros
pub mod Positions
pub mod NewMacro
mod ByName
