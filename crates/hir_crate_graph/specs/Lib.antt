-- sets of crates
pub mod CrateSet
-- what a crate depends on
pub mod Dependencies
-- what the code answers
pub mod Graph
-- what holds of every graph
pub mod Laws
-- words of private code
pub mod Bits
