-- The types of the crate, under their names.
pub use Rattle.hir_mod_resolution.specs.declared.modules.Inside.{Inside}
pub use Rattle.hir_mod_resolution.specs.declared.mod_resolution.FoundFile.{FoundFile}
pub use Rattle.hir_mod_resolution.specs.declared.mod_resolution.LookedFile.{LookedFile}
