pub mod PerNs
pub mod Imports
pub mod ModuleTree
pub mod Visibility
pub mod Types
