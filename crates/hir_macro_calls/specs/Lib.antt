-- ---- words of private code
pub mod Due
