-- The types of the crate, under their names.
pub use Rattle.hir_scope_item.specs.declared.item.Candidate.{Candidate}
pub use Rattle.hir_scope_item.specs.declared.item.Item.{Item}
pub use Rattle.hir_scope_item.specs.declared.item.Push.{Push}
