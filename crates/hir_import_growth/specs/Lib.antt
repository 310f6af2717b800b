-- ---- what is known of globs as their map grows
pub mod Binding
pub mod Growth
-- ---- words of private code
pub mod ViewLaws
