-- ---- laws that the code's own types name
pub mod AncestorLaws
pub mod OverlayLaws
-- ---- what private code answers
pub mod ModulesMap
pub mod LentScopes
pub mod Branches
pub mod ReferenceLists
-- ---- how maps are compared, hashed and stored
pub mod Codes
