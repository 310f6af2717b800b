-- It was found which runs asked for something that is altered, and nothing is kept of what depends on those.
use Rattle.std.proofs.Common.{None, sym, subst}
use Rattle.hir_session_state.specs.SessionState.{state_of}
use Rattle.hir_session_state.specs.SourceEdits.{of_block}
use Rattle.hir_session_core.specs.Progress.{AreKnownPending, Known}
use Rattle.hir_session_core.proofs.Awaiting.{known_removed, none_known}
use Rattle.hir_session_core.proofs.Sound.{edited_sound, edited_becomes}
use Rattle.hir_session_core.proofs.session.Session.drop_block.Goals as goal

pub invariant_of-self : goal.invariant_of-self
invariant_of-self c = rw c.in_err-remove_block.ensures.err c.self.invariant

-- it is known which blocks wait but for those of the places that fell
pub await_fallen-requires : goal.await_fallen-requires
await_fallen-requires c =
    let old = state_of c.self.inside.inputs c.self.inside.tables c.self.inside.kept in
    record {
      but = rw c.in_ok-remove_block.ensures.ok (known_removed old c.args.block.now c.forget_listing-fell.new.kept c.take-known.result
          c.settle.new.pending c.forget_listing-fell.result c.in_ok-one.one c.in_ok-one.ensures.value c.forget_listing-fell.ensures.fell
          c.forget_listing-fell.ensures.forgotten.fewer c.settle.ensures.settled
          (subst (λ (p : Known). AreKnownPending old p) (sym c.take-known.ensures.value) c.self.invariant.2));
    }

pub invariant_of-self-2 : goal.invariant_of-self-2
invariant_of-self-2 c = (
  rw c.in_ok-remove_block.ensures.ok (edited_sound _ (of_block c.args.block.now None) _ _ c.self.invariant.0 (c.in_ok-hits.ensures.hit _ c.self.invariant.1)
      c.forget_listing-fell.ensures.forgotten),
  c.forget_listing-fell.ensures.exact,
  none_known _ _ c.take-known.ensures.after,
)

pub returns-clause-ok : goal.returns-clause-ok
returns-clause-ok c =
    rw c.await_fallen.ensures.same (rw c.in_ok-remove_block.ensures.ok (edited_becomes _ (of_block c.args.block.now None) _ _ _ c.self.view_is
    c.self.invariant.0 (c.in_ok-hits.ensures.hit _ c.self.invariant.1)
    c.forget_listing-fell.ensures.forgotten))
