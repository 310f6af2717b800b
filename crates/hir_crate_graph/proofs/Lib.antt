pub mod CrateLists
mod Rows
pub mod Closure
pub mod Prefixes
