-- ---- words of private code
pub mod Visiting
