-- What is kept of the map and the module are those of the definitions.
use Rattle.std.proofs.Common.{◌≡◌, ◌∙◌, ap, sym, subst, Option, Some}
use Rattle.hir_session_state.specs.HirIds.declared.ids.ImplId.{ImplId}
use Rattle.hir_session_state.specs.HirIds.declared.ids.ModuleId.{ModuleId}
use Rattle.hir_session_answers.specs.AssocItems.{impl_asked, impl_from, impl_kept}
use Rattle.hir_session_state.specs.SessionState.{SessionState, Resolution, module_of, state_of}
use Rattle.hir_session_state.specs.Standing.{module_by}
use Rattle.hir_session_core.proofs.session.Session.impl_kept.Goals as goal

pub returns : goal.returns
returns c =
    let inside = state_of c.self.inside.inputs c.self.inside.tables c.self.inside.kept in
    let at = c.in-Some.at in
    let named = subst (λ (s : SessionState). module_of s c.args.place.now ≡ Some at) (sym c.self.view_is)
    (sym (c.in-Some.ensures.value ∙ ap module_by c.standing.ensures.value)) in
    let over = ap (λ (m : Option ModuleId). impl_asked inside m c.args.number) named
    ∙ ap (λ (o : Option Resolution). impl_from inside.kept o at c.args.number) (sym c.in-Some-get.ensures.value)
    ∙ ap (λ (o : Option ImplId). impl_kept inside.kept o) (sym c.impl_at.ensures.value) in
    record {
      value = c.kept_impl.ensures.value ∙ sym
          (subst (λ (s : SessionState). impl_asked s (module_of s c.args.place.now) c.args.number ≡ impl_kept s.kept c.impl_at.result) c.self.view_is over);
    }
