pub mod Repeats
pub mod Shown
pub mod Walked
pub mod Bodies
pub mod Sides
pub mod Associated
pub mod AttributeLemmas
pub mod Walks
pub mod SideIndexLemmas
pub mod TreeKeys
mod SameAttributes
