-- What does the code make of an edited source? No public clause speaks of this.
use Rattle.std.specs.Prelude.{◌≡◌}
use Rattle.hir_session_state.specs.HirIds.declared.ids.Crate.{Crate}
use Rattle.hir_session_invalidation.specs.declared.invalidate.Change.{Change}
use Rattle.hir_session_invalidation.specs.declared.invalidate.Changes.{Changes}
use Rattle.hir_session_state.specs.Inputs.{InputsValue}
use Rattle.hir_session_state.specs.SourceEdits.{SourceEditValue, place_of, source_by}
use Rattle.hir_session_state.specs.SourceTable.{source_at, tree_under}
use Rattle.hir_session_sources.specs.SourceTrees.{CrateTrees, AreTreesOf}

-- so the source changes under a crate
pub record IsChange (inputs : InputsValue) (edit : SourceEditValue) (krate : Crate) (change : Change) : Type 0 where
  pub before : change.before.value ≡ tree_under inputs.crates krate.0 (place_of edit) (source_at inputs.sources (place_of edit))
  pub after : change.after.value ≡ tree_under inputs.crates krate.0 (place_of edit) (source_by edit)

-- these are what the source has under crates after the edit
abbrev pub HasTreesOf : InputsValue → SourceEditValue → CrateTrees → Type 0
HasTreesOf inputs edit trees = AreTreesOf inputs.crates (place_of edit) (source_by edit) trees

-- and these before it, beside those
pub record AreChanges (inputs : InputsValue) (edit : SourceEditValue) (changes : Changes) : Type 0 where
  pub before : AreTreesOf inputs.crates (place_of edit) (source_at inputs.sources (place_of edit)) changes.before
  pub after : HasTreesOf inputs edit changes.after
