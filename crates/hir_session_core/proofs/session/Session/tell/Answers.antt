-- The maps are those that are read in the map.
use Rattle.std.proofs.Common.{◌≡◌, ◌∙◌, ap, sym, subst, refl, false, List}
use Rattle.hir_session_state.specs.HirNameres.DefMaps.{maps_of}
use Rattle.hir_session_state.specs.HirDefMapRules.Overlay.{Maps, overlay}
use Rattle.hir_assoc_items.specs.AssocItems.{listing_of}
use Rattle.hir_session_state.specs.Crates.{CrateValue, transitive_in}
use Rattle.hir_session_state.specs.Kept.{resolution_of}
use Rattle.hir_session_state.specs.SessionState.{SessionState, is_marked, state_of}
use Rattle.hir_session_state.proofs.Truth.{on_ok}
use Rattle.hir_session_answers.specs.AssocItems.{items_told}
use Rattle.hir_session_answers.proofs.Stand.{same_read}
use Rattle.hir_session_core.proofs.Items.{kept_within, tells}
use Rattle.hir_session_core.proofs.session.Session.tell.Goals as goal

pub found_of-found-requires : goal.found_of-found-requires
found_of-found-requires c = record { kept = subst (λ (s : SessionState). is_marked s c.args.map ≡ false) (sym c.self.view_is) c.requires.kept }

pub behind-requires : goal.behind-requires
behind-requires c = record {
  within =
      let inside = state_of c.self.inside.inputs c.self.inside.tables c.self.inside.kept in
      let off = subst (λ (s : SessionState). is_marked s c.args.map ≡ false) (sym c.self.view_is) c.requires.kept in
      rw c.crates.ensures.value (kept_within inside c.self.invariant.0 c.args.map off);
}

pub returns : goal.returns
returns c =
    let inside = state_of c.self.inside.inputs c.self.inside.tables c.self.inside.kept in
    let found = resolution_of c.found_of-found.result in
    let list = c.args.list.now in
    let transitive = c.deref.ensures ∙ c.in_ok-crates.ensures.value
    ∙ ap (λ (cs : List CrateValue). transitive_in cs c.args.map.krate.0) c.crates.ensures.value in
    let maps = c.maps_beside-maps.ensures.value ∙ ap (λ (ms : Maps). overlay ms found.map) (same_read transitive refl refl) in
    record {
      told = on_ok c.items_at.result
          (λ told are. tells inside c.args.self.now c.self.view_is c.args.map found c.found_of-found.ensures.value _ maps
          (listing_of list.items.items list.calls.items list.diagnostics) told
          (are ∙ (λ i. items_told c.self.inside.tables (maps_of c.maps_beside-maps.result)
          (listing_of (c.as_slice.ensures.value i) (c.as_slice-2.ensures.value i) list.diagnostics))))
          c.items_at.ensures.value;
    }
