-- The types of the crate, under their names.
pub use Rattle.hir_glob_imports.specs.declared.edge.Bound.{Bound}
pub use Rattle.hir_glob_imports.specs.declared.edge.Brought.{Brought}
pub use Rattle.hir_glob_imports.specs.declared.edge.Edge.{Edge}
pub use Rattle.hir_glob_imports.specs.declared.edge.Key.{Key}
pub use Rattle.hir_glob_imports.specs.declared.edge.Slot.{Slot}
pub use Rattle.hir_glob_imports.specs.declared.edge.Target.{Target}
pub use Rattle.hir_glob_imports.specs.declared.edge.Update.{Update}
pub use Rattle.hir_glob_imports.specs.declared.index.EdgesByModule.{EdgesByModule}
pub use Rattle.hir_glob_imports.specs.declared.step.GlobError.{GlobError}
