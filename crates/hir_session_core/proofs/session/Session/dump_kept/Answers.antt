-- The map in which the module lies is shown.
use Rattle.std.proofs.Common.{◌∙◌, ap, sym, ℕ, List, Ok}
use Rattle.hir_session_state.specs.HirDefMapRules.Dump.{dump_of}
use Rattle.hir_session_state.specs.HirDefMapRules.Overlay.{Maps, overlay}
use Rattle.hir_session_answers.specs.Dumps.{dump_around, dump_from}
use Rattle.hir_session_state.specs.SessionState.{SessionState, finished_of, kept_of}
use Rattle.hir_session_state.specs.Standing.{module_by}
use Rattle.hir_session_core.proofs.session.Session.dump_kept.Goals as goal

pub returns-clause-text : goal.returns-clause-text
returns-clause-text c =
    let s = c.args.self.now in
    let named = sym (c.in-Some.ensures.value ∙ ap module_by c.standing.ensures.value) in
    let kept = sym (c.in-Some-get.ensures.value ∙ ap (λ (t : SessionState). kept_of t c.in-Some.at.map) c.self.view_is) in
    let finished = c.world.ensures.value ∙ ap (λ (t : SessionState). finished_of t) c.self.view_is in
    ap (dump_around s) named
    ∙ ap (dump_from (finished_of s)) kept
    ∙ ap (λ (text : List ℕ). Ok text) (sym (c.in_ok-text.ensures.ok
    ∙ ap (λ (maps : Maps). dump_of (overlay maps c.in-Some-get.found.map.now) c.in-Some-get.found.map.now.id) finished))
