-- The types of the crate, under their names.
pub use Rattle.hir_use_tree.specs.declared.imports.Import.{Import}
pub use Rattle.hir_use_tree.specs.declared.imports.ImportKind.{ImportKind}
pub use Rattle.hir_use_tree.specs.declared.imports.ImportKind.TheVariants as import_kinds
pub use Rattle.hir_use_tree.specs.declared.imports.ImportAlias.{ImportAlias}
pub use Rattle.hir_use_tree.specs.declared.imports.ImportAlias.TheVariants as import_aliases
pub use Rattle.hir_use_tree.specs.declared.use_tree.UseTree.{UseTree as WrittenTree}
pub use Rattle.hir_use_tree.specs.declared.joined_path.JoinedPath.{JoinedPath}
