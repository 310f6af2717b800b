-- what a tree's source is, as a plain value
pub mod SourcePlaces
-- what a value's number leaves of the others
pub mod Interning
-- what the numbers mean
pub mod Tables
-- what holds of tables that grow
pub mod Laws
