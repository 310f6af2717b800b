-- The types of the crate, under their names.
pub use Rattle.hir_map_parts.specs.declared.add_module_error.AddModuleError.{AddModuleError}
pub use Rattle.hir_map_parts.specs.declared.block_info.BlockInfo.{BlockInfo}
pub use Rattle.hir_def_map_rules.specs.declared.declaration.Declaration.{Declaration}
pub use Rattle.hir_map_parts.specs.declared.derive_helpers.DeriveHelper.{DeriveHelper}
pub use Rattle.hir_map_parts.specs.declared.diagnostics.DefDiagnostic.{DefDiagnostic}
pub use Rattle.hir_map_parts.specs.declared.enum_variants.EnumVariant.{EnumVariant}
pub use Rattle.hir_map_parts.specs.declared.origin.ModuleOrigin.{ModuleOrigin}
pub use Rattle.hir_def_map_rules.specs.declared.path_result.ReachedFixedPoint.{ReachedFixedPoint}
pub use Rattle.hir_def_map_rules.specs.declared.path_result.ResolvePathResult.{ResolvePathResult}
pub use Rattle.hir_def_map_rules.specs.declared.reference.Reference.{Reference}
