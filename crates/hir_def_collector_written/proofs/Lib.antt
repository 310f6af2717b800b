-- ---- what is walked
pub mod Walks
pub mod Became
pub mod Walked
pub mod Uses
-- ---- what is declared
pub mod Declares
pub mod OwnItems
pub mod OwnScopes
pub mod OwnBindings
pub mod OwnRules
pub mod OwnEnded
