-- ---- what is read and written
pub mod Keys
pub mod ByModule
pub mod View
-- ---- what globs do
pub mod Moves
pub mod Rules
-- ---- where they rest
pub mod Waves
-- ---- words of private code
pub mod Inner
pub mod Types
