-- ---- words of private code
pub mod Turns
