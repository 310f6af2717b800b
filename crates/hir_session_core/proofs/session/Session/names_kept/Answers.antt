-- What is kept of the map, the maps that it reads, the module and its scope are those of the definitions; in a sound session what is told stands.
use Rattle.std.proofs.Common.{◌≡◌, ◌∙◌, ap, sym, subst, refl, List, Ok, Some}
use Rattle.hir_session_state.specs.HirDefMapRules.Overlay.{Maps, overlay}
use Rattle.hir_session_state.specs.HirMessages.declared.names.BoundName.{BoundName}
use Rattle.hir_session_answers.specs.Names.{names_kept}
use Rattle.hir_session_state.specs.Crates.{CrateValue, config_in, transitive_in}
use Rattle.hir_session_state.specs.Kept.{resolution_of}
use Rattle.hir_session_state.specs.SessionState.{SessionState, IsSound, module_of, state_of}
use Rattle.hir_session_state.specs.Standing.{module_by}
use Rattle.hir_session_answers.proofs.LeftOut.{read_kept}
use Rattle.hir_session_answers.proofs.LowerLaws.{runs_bind}
use Rattle.hir_session_answers.proofs.Naming.{names_given, names_of-current, names_stand}
use Rattle.hir_session_answers.proofs.Stand.{constant, same_read}
use Rattle.hir_session_core.proofs.session.Session.names_kept.Goals as goal

pub returns-clause-told : goal.returns-clause-told
returns-clause-told c =
    let inside = state_of c.self.inside.inputs c.self.inside.tables c.self.inside.kept in
    let at = c.in-Some.at in
    let found = resolution_of c.in-Some-get.found in
    let kept = sym c.in-Some-get.ensures.value in
    let named = subst (λ (s : SessionState). module_of s c.args.place.now ≡ Some at) (sym c.self.view_is)
    (sym (c.in-Some.ensures.value ∙ ap module_by c.standing.ensures.value)) in
    let transitive = c.deref.ensures ∙ constant (config_in c.crates.result.now at.map.krate) c.in-Some-transitive_dependencies.ensures.value
    ∙ ap (λ (cs : List CrateValue). transitive_in cs at.map.krate.0) c.crates.ensures.value in
    let over : names_kept c.args.self.now c.args.place.now ≡ Ok c.in_ok-told.told.items =
    subst (λ (s : SessionState). names_kept s c.args.place.now ≡ Ok c.in_ok-told.told.items) c.self.view_is
    (names_given inside c.args.place.now at found _ c.in-Some-scope.scope.now c.in_ok-told.told.items named kept
    (c.new-maps.ensures.value ∙ ap (λ (ms : Maps). overlay ms c.in-Some-get.found.map.now)
    (c.among-read.ensures.value ∙ same_read transitive refl c.world.ensures.value ∙ sym (read_kept inside at.map found kept)))
    (sym c.in-Some-scope.ensures.value)
    c.in_ok-told.ensures.value) in
    over ∙ ap (λ (told : List BoundName). Ok told) (sym c.new.ensures.value)

pub returns-clause-stand : goal.returns-clause-stand
returns-clause-stand c = λ current.
    names_stand runs_bind c.args.self.now c.args.place.now _
    (subst (λ (s : SessionState). IsSound s) c.self.view_is c.self.invariant.0)
    (names_of-current c.args.self.now c.args.place.now current (returns-clause-told c))
