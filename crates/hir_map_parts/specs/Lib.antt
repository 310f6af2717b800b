pub mod State
pub mod Origins
pub mod Macros
pub mod Diagnostics
pub mod Reads
pub mod References
pub mod Equality
pub mod Inner
