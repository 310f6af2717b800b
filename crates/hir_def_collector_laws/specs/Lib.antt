-- ---- where imports are written, and what they bring
pub mod Written
pub mod Imports
pub mod Globs
-- ---- where calls and definitions are written
pub mod Calls
pub mod Declares
pub mod Expansions
pub mod Modules
-- ---- of what is told
pub mod Diagnostics
-- ---- what a run comes to
pub mod Whole
pub mod Sources
pub mod BlockKeys
