-- The maps are those that are read in the impl's map; calls get numbers, and a session stays sound as tables grow.
use Rattle.std.proofs.Common.{◌≡◌, ◌∙◌, ap, sym, subst, refl, false, List}
use Rattle.hir_session_state.specs.HirIds.declared.ast_id.AstKind.TheVariants as kind
use Rattle.hir_session_state.specs.HirIds.declared.ids.ItemContainerId.TheVariants as container
use Rattle.hir_session_state.specs.HirDefMapRules.Overlay.{Maps, overlay}
use Rattle.hir_assoc_items.specs.AssocItems.{items_written, listing_of}
use Rattle.hir_session_state.specs.Due.{Grows}
use Rattle.hir_session_state.specs.Crates.{CrateValue, transitive_in}
use Rattle.hir_session_state.specs.Kept.{resolution_of}
use Rattle.hir_session_state.specs.SessionState.{SessionState, is_marked, state_of, workspace_of}
use Rattle.hir_session_state.proofs.Asking.{held_grown, kept_meant}
use Rattle.hir_session_state.proofs.Resolving.{grown_of, grown_sound}
use Rattle.hir_session_state.proofs.Truth.{on_ok}
use Rattle.hir_session_answers.proofs.LowerLaws.{answers_stand, asked_keys_have_meaning, looks_stand}
use Rattle.hir_session_answers.proofs.Stand.{same_read}
use Rattle.hir_session_core.proofs.Awaiting.{known_grown}
use Rattle.hir_session_core.proofs.Due.{grows_not}
use Rattle.hir_session_core.proofs.Items.{flattened, kept_within, never_unknown, passed}
use Rattle.hir_session_core.proofs.session.Session.list_impl.Goals as goal

pub found_of-found-requires : goal.found_of-found-requires
found_of-found-requires c = record { kept = subst (λ (s : SessionState). is_marked s c.args.id.loc.container.map ≡ false) (sym c.self.view_is) c.requires.kept }

pub behind-requires : goal.behind-requires
behind-requires c = record {
  within =
      let inside = state_of c.self.inside.inputs c.self.inside.tables c.self.inside.kept in
      let off = subst (λ (s : SessionState). is_marked s c.args.id.loc.container.map ≡ false) (sym c.self.view_is) c.requires.kept in
      rw c.crates.ensures.value (kept_within inside c.self.invariant.0 c.args.id.loc.container.map off);
}

pub invariant_of-self : goal.invariant_of-self
invariant_of-self c = (
  rw c.list_impl.ensures.same (grown_sound looks_stand asked_keys_have_meaning answers_stand _ _ c.list_impl.ensures.kept c.list_impl.ensures.placed
      c.self.invariant.0),
  held_grown _ _ _ c.self.invariant.1 _ c.list_impl.ensures.kept (kept_meant asked_keys_have_meaning _ c.self.invariant.0),
  rw c.list_impl.ensures.same (known_grown (state_of c.self.inside.inputs c.self.inside.tables c.self.inside.kept) c.list_impl.new.tables c.self.inside.pending
      c.self.invariant.0 c.list_impl.ensures.kept c.self.invariant.2),
)

pub returns-clause-grown : goal.returns-clause-grown
returns-clause-grown c =
    rw c.list_impl.ensures.same (grown_of looks_stand asked_keys_have_meaning answers_stand _ _ c.list_impl.ensures.kept c.list_impl.ensures.placed _
    c.self.view_is c.self.invariant.0)

pub returns-clause-flattened : goal.returns-clause-flattened
returns-clause-flattened c =
    let inside = state_of c.self.inside.inputs c.self.inside.tables c.self.inside.kept in
    let found = resolution_of c.found_of-found.result in
    let transitive = c.deref.ensures ∙ c.in_ok-crates.ensures.value
    ∙ ap (λ (cs : List CrateValue). transitive_in cs c.args.id.loc.container.map.krate.0) c.crates.ensures.value in
    let maps = c.maps_beside-maps.ensures.value ∙ ap (λ (ms : Maps). overlay ms found.map) (same_read transitive refl refl) in
    rw c.list_impl.ensures.same (on_ok c.list_impl.result
    (λ list flat. flattened inside c.args.self.now c.self.view_is c.args.id.loc.container.map found c.found_of-found.ensures.value _ maps c.list_impl.new.tables
    (container.ImplId c.args.id) c.args.id.loc kind.Impl (listing_of list.items.items list.calls.items list.diagnostics) flat)
    c.list_impl.ensures.flattened)

pub returns-clause-many : goal.returns-clause-many
returns-clause-many c = λ many.
    let inside = state_of c.self.inside.inputs c.self.inside.tables c.self.inside.kept in
    let found = resolution_of c.found_of-found.result in
    let transitive = c.deref.ensures ∙ c.in_ok-crates.ensures.value
    ∙ ap (λ (cs : List CrateValue). transitive_in cs c.args.id.loc.container.map.krate.0) c.crates.ensures.value in
    let maps = c.maps_beside-maps.ensures.value ∙ ap (λ (ms : Maps). overlay ms found.map) (same_read transitive refl refl) in
    rw c.list_impl.ensures.same
    (passed inside c.args.self.now c.self.view_is c.args.id.loc.container.map found c.found_of-found.ensures.value _ maps c.list_impl.new.tables
    (container.ImplId c.args.id) c.args.id.loc kind.Impl
    (c.list_impl.ensures.many many))

pub returns-clause-known : goal.returns-clause-known
returns-clause-known c = λ unknown.
    let inside = state_of c.self.inside.inputs c.self.inside.tables c.self.inside.kept in
    let found = resolution_of c.found_of-found.result in
    let transitive = c.deref.ensures ∙ c.in_ok-crates.ensures.value
    ∙ ap (λ (cs : List CrateValue). transitive_in cs c.args.id.loc.container.map.krate.0) c.crates.ensures.value in
    let maps = c.maps_beside-maps.ensures.value ∙ ap (λ (ms : Maps). overlay ms found.map) (same_read transitive refl refl) in
    never_unknown inside c.args.self.now c.self.view_is c.args.id.loc.container.map found c.found_of-found.ensures.value _ maps c.self.invariant.0
    c.list_impl.new.tables c.list_impl.ensures.kept (container.ImplId c.args.id) (items_written inside.tables (workspace_of inside) c.args.id.loc kind.Impl)
    (c.list_impl.ensures.unknown unknown)

pub returns-in_err-crates-clause-grown : goal.returns-in_err-crates-clause-grown
returns-in_err-crates-clause-grown c = subst (λ (s : SessionState). Grows s s) c.self.view_is (grows_not _ c.self.invariant.0)
