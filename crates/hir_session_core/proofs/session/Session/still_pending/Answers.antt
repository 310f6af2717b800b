-- Each in turn is put among those that wait, or passed over.
use Rattle.std.proofs.Common.{List, refl, rules, subst}
use Rattle.hir_session_state.proofs.Truth.{clash}
use Rattle.hir_session_core.specs.declared.session.pending.PendingBlock.{PendingBlock}
use Rattle.hir_session_core.proofs.Awaiting.{AreSifted, sifted-end, sifted-more, sifted-start}
use Rattle.hir_session_core.proofs.session.Session.still_pending.Goals as goal

pub next-init : goal.next-init
next-init c = sifted-start _ _ _ (search rules) c.requires.all

pub next-preserved : goal.next-preserved
next-preserved c =
    sifted-more c.args.self.now c.in-Some.block c.pop_first.new.self.keys c.next.left.keys
    (subst (λ (keys : List PendingBlock). AreSifted c.args.self.now keys c.next.left.keys) c.in-Some.ensures.removal c.next.invariant)
    c.sift.new.left.keys c.in_ok-sift.ensures.ok

pub returns : goal.returns
returns c = record {
  pending = sifted-end c.args.self.now c.next.pending.keys c.next.left.keys (λ some. clash (c.in_default.ensures.variant.1 some) refl)
      c.next.invariant;
}
