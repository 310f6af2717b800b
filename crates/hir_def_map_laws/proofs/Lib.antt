pub mod Agreement
pub mod SeenSegments
pub mod Steps
pub mod Holders
-- what a path reads
pub mod SameAbove
pub mod Changed
pub mod Growing
pub mod InScopes
pub mod ReadOutside
pub mod ReadLaw
pub mod EnumsApart
pub mod EnumsGrow
pub mod Whole
pub mod Updates
pub mod Apart
pub mod SlotChanges
pub mod SlotLists
