-- What do the names that are told of a module stand on?
use Rattle.std.specs.Prelude.{◌≡◌, ℕ, List, [], ◌∷◌, Some, is_some}
use Rattle.hir_session_state.specs.HirBase.Place.{PlaceValue}
use Rattle.hir_session_state.specs.HirIds.declared.ids.ModuleId.{ModuleId}
use Rattle.hir_session_state.specs.HirScope.Scope.{ScopeValue}
use Rattle.hir_session_state.specs.HirScope.Scope.Entries.{entries_of}
use Rattle.hir_session_state.specs.HirPerNs.declared.per_ns.PerNs.{PerNs}
use Rattle.hir_session_state.specs.HirDefMapRules.Overlay.{overlay}
use Rattle.hir_session_state.specs.HirDefMapRules.State.{scope_at}
use Rattle.hir_session_state.specs.HirMessages.declared.names.BoundName.{BoundName}
use Rattle.hir_session_state.specs.SessionState.{SessionState, Resolution, module_of, read_of}
use Rattle.hir_session_answers.specs.AnswersStand.{StandsAt}
use Rattle.hir_session_answers.specs.Names.{names_in}

-- a name is told, with a source item in each namespace in which it stands for something
pub record IsTold (entry : List ℕ × PerNs) (told : BoundName) : Type 0 where
  pub name : told.name ≡ Some entry.0
  pub types : is_some told.types ≡ is_some entry.1.types
  pub values : is_some told.values ≡ is_some entry.1.values
  pub macros : is_some told.macros ≡ is_some entry.1.macros

-- each of these names is told, one after another and before all else
abbrev pub AreTold : List (List ℕ × PerNs) → List BoundName → Type 0
AreTold [] told = Unit {0}
AreTold (entry ∷ entries) [] = ⊥
AreTold (entry ∷ entries) (first ∷ told) = IsTold entry first × AreTold entries told

-- what is told is the scope of the place's module, in a resolution in which a derivation from the present sources ends, beside the finished maps on which
-- it stands
pub record NamesStand (s : SessionState) (place : PlaceValue) (told : List BoundName) : Type 0 where
  pub asked_from : ModuleId
  pub named : module_of s place ≡ Some asked_from
  pub found : Resolution
  pub stands : StandsAt s asked_from.map found
  pub scope : ScopeValue
  pub has : scope_at found.map asked_from.index ≡ Some scope
  -- no name is left out, nor what it stands for
  pub whole : AreTold (entries_of scope) told
  pub is : told ≡ names_in s.tables (overlay (read_of s asked_from.map) found.map) scope
