pub mod Codes
pub mod LocalHash
pub mod MacroEquality
