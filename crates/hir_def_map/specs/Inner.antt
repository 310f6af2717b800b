-- ---- what private code answers
pub mod Dependents
pub mod Recorded
