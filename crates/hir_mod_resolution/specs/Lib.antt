-- ---- words of private code
pub mod Walking
pub mod Types
