-- The types of the crate, under their names.
pub use Rattle.hir_textual_scope.specs.declared.textual_scope.TextualMacro.{TextualMacro}
