-- What is kept of the map, the maps that it reads and the module are those of the definitions.
use Rattle.std.proofs.Common.{◌≡◌, ◌∙◌, ap, sym, subst, refl, List, Option, Some}
use Rattle.hir_session_state.specs.HirIds.declared.ids.ModuleId.{ModuleId}
use Rattle.hir_session_state.specs.HirDefMapRules.Overlay.{Maps, overlay}
use Rattle.hir_session_answers.specs.AssocItems.{trait_asked, trait_kept}
use Rattle.hir_session_state.specs.Crates.{CrateValue, config_in, transitive_in}
use Rattle.hir_session_state.specs.Kept.{resolution_of}
use Rattle.hir_session_state.specs.SessionState.{SessionState, module_of, state_of}
use Rattle.hir_session_state.specs.Standing.{module_by}
use Rattle.hir_session_answers.proofs.Stand.{constant, same_read}
use Rattle.hir_session_core.proofs.Items.{trait_over}
use Rattle.hir_session_core.proofs.session.Session.trait_kept.Goals as goal

pub returns : goal.returns
returns c =
    let inside = state_of c.self.inside.inputs c.self.inside.tables c.self.inside.kept in
    let at = c.in-Some.at in
    let found = resolution_of c.in-Some-get.found in
    let kept = sym c.in-Some-get.ensures.value in
    let named = subst (λ (s : SessionState). module_of s c.args.place.now ≡ Some at) (sym c.self.view_is)
    (sym (c.in-Some.ensures.value ∙ ap module_by c.standing.ensures.value)) in
    let transitive = c.deref.ensures ∙ constant (config_in c.crates.result.now at.map.krate) c.in-Some-transitive_dependencies.ensures.value
    ∙ ap (λ (cs : List CrateValue). transitive_in cs at.map.krate.0) c.crates.ensures.value in
    let maps = c.maps_beside-maps.ensures.value ∙ ap (λ (ms : Maps). overlay ms found.map) (same_read transitive refl refl) in
    let over = ap (λ (m : Option ModuleId). trait_asked inside m c.args.path.now) named ∙ trait_over inside at c.args.path.now found kept _ maps
    c.trait_at.result c.trait_at.ensures.value in
    record {
      value = c.kept_trait.ensures.value ∙ sym (subst (λ (s : SessionState). trait_asked s (module_of s c.args.place.now) c.args.path.now
          ≡ trait_kept s.kept c.trait_at.result) c.self.view_is over);
    }
