-- ---- names and what they are bound to
pub mod Entries
pub mod Slots
pub mod Probe
pub mod SlotWalk
pub use Rattle.hir_scope_item.specs.Bindings
pub mod Globs
pub mod Table
pub mod Laws
-- ---- walks in order
pub mod Merge
-- ---- words of private code
pub mod Inner
pub mod Types
