-- ---- laws that the code's own types name
pub mod PartLaws
