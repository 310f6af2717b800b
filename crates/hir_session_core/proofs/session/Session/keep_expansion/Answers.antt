-- It was found which runs asked for something that is altered, and nothing is kept of what depends on those.
use Rattle.std.proofs.Common.{refl, Some}
use Rattle.hir_session_state.specs.HirTables.SourcePlaces.{expansion_value}
use Rattle.hir_session_sources.specs.EditValues.{entry_value}
use Rattle.hir_session_state.specs.SessionState.{state_of}
use Rattle.hir_session_state.specs.SourceEdits.{edited, of_expansion}
use Rattle.hir_session_core.proofs.Awaiting.{known_forgot}
use Rattle.hir_session_core.proofs.Sound.{edited_sound, edited_becomes}
use Rattle.hir_session_core.proofs.session.Session.keep_expansion.Goals as goal

pub invariant_of-self : goal.invariant_of-self
invariant_of-self c = rw c.in_err-set_expansion.ensures.err c.self.invariant

pub invariant_of-self-2 : goal.invariant_of-self-2
invariant_of-self-2 c =
    let old = state_of c.self.inside.inputs c.self.inside.tables c.self.inside.kept in
    let new = record old { sources = edited old.sources (of_expansion (expansion_value c.args.key) (Some (entry_value c.args.entry))); kept = c.forget.new.kept }
    in (
      rw c.in_ok-set_expansion.ensures.ok (edited_sound _ (of_expansion (expansion_value c.args.key) (Some (entry_value c.args.entry))) _ _ c.self.invariant.0
          (c.in_ok-hits.ensures.hit _ c.self.invariant.1) c.forget.ensures.forgotten),
      c.forget.ensures.exact,
      rw c.in_ok-set_expansion.ensures.ok (known_forgot old new c.self.inside.pending c.forget.new.pending refl refl c.forget.ensures.pending
          c.self.invariant.2),
    )

pub returns-clause-ok : goal.returns-clause-ok
returns-clause-ok c =
    rw c.in_ok-set_expansion.ensures.ok (edited_becomes _ (of_expansion (expansion_value c.args.key) (Some (entry_value c.args.entry))) _ _ _ c.self.view_is
    c.self.invariant.0 (c.in_ok-hits.ensures.hit _ c.self.invariant.1) c.forget.ensures.forgotten)
