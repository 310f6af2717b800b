-- In a sound session each diagnostic that is kept has a source.
use Rattle.std.proofs.Common.{◌∙◌, ap, rules, sym, subst}
use Rattle.hir_session_state.specs.Crates.{id_of}
use Rattle.hir_session_state.specs.Kept.{kept_in, resolution_of}
use Rattle.hir_session_state.specs.SessionState.{SessionState, IsSound, state_of}
use Rattle.hir_session_answers.proofs.LeftOut.{read_kept}
use Rattle.hir_session_answers.proofs.LowerLaws.{runs_bind}
use Rattle.hir_session_answers.proofs.Told.{tell}
use Rattle.hir_session_core.proofs.session.Session.diagnostics.Goals as goal

pub returns-clause-told : goal.returns-clause-told
returns-clause-told c =
    let read = read_kept (state_of c.self.inside.inputs c.self.inside.tables c.self.inside.kept) (id_of c.args.krate.0) (resolution_of c.in-Some-get.found)
    (ap (kept_in c.self.inside.kept) (sym c.of_crate.ensures.value) ∙ sym c.in-Some-get.ensures.value) in
    search (rules, read)

pub returns-clause-stand : goal.returns-clause-stand
returns-clause-stand c =
    tell runs_bind c.args.self.now c.args.krate _ (subst (λ (s : SessionState). IsSound s) c.self.view_is c.self.invariant.0) (returns-clause-told c)
