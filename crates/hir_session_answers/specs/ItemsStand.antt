-- What do the items of a trait or an impl stand on?
use Rattle.std.specs.Prelude.{◌≡◌, ℕ, slice_get, Some, None}
use Rattle.hir_session_state.specs.HirBase.ModPath.{Path}
use Rattle.hir_session_state.specs.HirBase.Place.{PlaceValue}
use Rattle.hir_session_state.specs.HirIds.declared.ids.ImplId.{ImplId}
use Rattle.hir_session_state.specs.HirIds.declared.ids.ModuleId.{ModuleId}
use Rattle.hir_session_state.specs.HirIds.declared.ids.TraitId.{TraitId}
use Rattle.hir_session_state.specs.HirDefMapRules.Overlay.{overlay}
use Rattle.hir_session_state.specs.HirDefMapRules.Scoping.{resolution_of}
use Rattle.hir_session_state.specs.HirMessages.declared.command.Shadow.TheVariants as shadow
use Rattle.hir_session_state.specs.HirMessages.declared.items.Items.{Items}
use Rattle.hir_session_state.specs.SessionState.{SessionState, Resolution, module_of, read_of}
use Rattle.hir_session_answers.specs.Answers.{asking_of}
use Rattle.hir_session_answers.specs.AnswersStand.{StandsAt}
use Rattle.hir_session_answers.specs.AssocItems.{ListsImpl, ListsTrait, impls_of, trait_named}

-- what is told is what a trait holds by the present sources, which the path means from the place's module; both that module and the trait lie in maps in
-- which derivations from the present sources end
pub record TraitStands (s : SessionState) (place : PlaceValue) (path : Path) (told : Items) (t : SessionState) : Type 0 where
  pub asked_from : ModuleId
  pub named : module_of s place ≡ Some asked_from
  pub found : Resolution
  pub stands : StandsAt s asked_from.map found
  pub id : TraitId
  pub is : trait_named (resolution_of (overlay (read_of s asked_from.map) found.map) (asking_of found.local shadow.Other None) asked_from path) ≡ Some id
  pub own : Resolution
  pub around : StandsAt s id.loc.container.map own
  pub lists : ListsTrait s id told t

-- what is told is what the impl of a number in the place's module holds by the present sources
pub record ImplStands (s : SessionState) (place : PlaceValue) (number : ℕ) (told : Items) (t : SessionState) : Type 0 where
  pub asked_from : ModuleId
  pub named : module_of s place ≡ Some asked_from
  pub found : Resolution
  pub stands : StandsAt s asked_from.map found
  pub id : ImplId
  pub is : slice_get (impls_of found.map asked_from.index) number ≡ Some id
  pub own : Resolution
  pub around : StandsAt s id.loc.container.map own
  pub lists : ListsImpl s id told t
