-- The types of the crate, under their names.
pub use Rattle.hir_per_ns.specs.declared.imports.GlobId.{GlobId}
pub use Rattle.hir_per_ns.specs.declared.imports.ImportId.{ImportId}
pub use Rattle.hir_per_ns.specs.declared.imports.ImportOrDef.{ImportOrDef}
pub use Rattle.hir_per_ns.specs.declared.imports.ImportOrExternCrate.{ImportOrExternCrate}
pub use Rattle.hir_per_ns.specs.declared.imports.ImportOrGlob.{ImportOrGlob}
pub use Rattle.hir_per_ns.specs.declared.item_in_ns.ItemInNs.{ItemInNs}
pub use Rattle.hir_per_ns.specs.declared.per_ns.Namespace.{Namespace}
pub use Rattle.hir_per_ns.specs.declared.per_ns.PerNs.{PerNs}
pub use Rattle.hir_per_ns.specs.declared.visibility.Visibility.{Visibility}
