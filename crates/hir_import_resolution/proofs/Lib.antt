-- what look-ups find
pub mod Lists
pub mod Found
pub mod KeyLists
-- what is due of an import
pub mod Due
pub mod Recorded
-- steps along globs
pub mod Writes
pub mod Along
-- what a push changes
pub mod Bound
-- what lasts
pub mod Placed
-- what a resolver does
pub mod Spread
pub mod TakenImports
-- what is queued
pub mod Waking
pub mod PathReads
pub mod Settled
pub mod Trying
pub mod Counting
pub mod Running
pub mod Passes
pub mod Restarting
pub mod Starting
-- what is queued before a round
pub mod Growing
pub mod GlobsLasting
pub mod PlacedNames
-- what is sound
pub mod Soundness
