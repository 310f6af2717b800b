-- ---- where imports stand
pub mod Scopes
-- ---- what may happen before they are taken up again
pub mod Rounds
pub mod Sound
-- ---- words of private code
pub mod KeyLists
pub mod Inner
pub mod Types
