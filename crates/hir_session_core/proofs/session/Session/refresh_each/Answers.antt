-- Each pending block in turn isn't due, or is the next that is.
use Rattle.std.proofs.Common.{map, sym, subst, List, [], Bor}
use Rattle.hir_session_state.proofs.HirScope.Rewrites.{on_err}
use Rattle.hir_session_state.specs.Changes.{RefreshesPartly}
use Rattle.hir_session_state.specs.SessionState.{SessionState}
use Rattle.hir_session_core.specs.Progress.{HasAllPending, HasResolved}
use Rattle.hir_session_core.specs.declared.session.pending.PendingBlock.{PendingBlock}
use Rattle.hir_session_core.proofs.Due.{passed_on}
use Rattle.hir_session_core.proofs.Waiting.{IsInTurn, in_turn-start, in_turn-more, in_turn-partly, in_turn-end, in_turn-shown, in_turn-stuck}
use Rattle.hir_session_core.proofs.session.Session.refresh_each.Goals as goal

abbrev shown : Bor PendingBlock → PendingBlock
shown p = p.now

pub loop-block-init : goal.loop-block-init
loop-block-init g c =
    subst (λ (ks : List PendingBlock). IsInTurn c.args.self.now c.args.done.now.items ks [] ks c.args.self.now c.args.done.now.items)
    (sym c.into_iter-block-iterator.ensures.into_iter_gives.0)
    (in_turn-start c.args.self.now c.args.done.now.items c.args.pending.now.keys c.requires.sound c.requires.all c.requires.crates
    c.into_iter-block-iterator.ensures.into_iter_gives.4)

pub refresh_block-requires : goal.refresh_block-requires
refresh_block-requires g c = record { crates = c.loop-block.invariant.current }

pub loop-block-preserved : goal.loop-block-preserved
loop-block-preserved g c =
    in_turn-shown shown c.args.self.now c.args.done.now.items c.loop-block.yielded c.in-Some.block c.into_iter-block-iterator.result c.next.new.self _
    (in_turn-more c.args.self.now c.args.done.now.items c.into_iter-block-iterator.result (map shown c.loop-block.yielded) c.next.new.self c.in-Some.block.now
    c.loop-block.self c.loop-block.done.items
    (subst (λ (rest : List PendingBlock). IsInTurn c.args.self.now c.args.done.now.items c.into_iter-block-iterator.result (map shown c.loop-block.yielded) rest
    c.loop-block.self
    c.loop-block.done.items) c.in-Some.ensures.steps c.loop-block.invariant) _ _ c.in_ok-refresh_block.ensures.ok)

pub returns-clause-so_far : goal.returns-clause-so_far
returns-clause-so_far g c = c.loop-block.invariant.so_far

pub returns-clause-current : goal.returns-clause-current
returns-clause-current g c = c.loop-block.invariant.current

pub returns-clause-none_due : goal.returns-clause-none_due
returns-clause-none_due g c =
    in_turn-end c.args.self.now c.args.done.now.items c.into_iter-block-iterator.result (map shown c.loop-block.yielded) c.loop-block.self
    c.loop-block.done.items
    (subst (λ (rest : List PendingBlock). IsInTurn c.args.self.now c.args.done.now.items c.into_iter-block-iterator.result (map shown c.loop-block.yielded) rest
    c.loop-block.self
    c.loop-block.done.items) c.in-None.ensures.steps.0 c.loop-block.invariant)

pub returns-in_err-refresh_block-clause-err : goal.returns-in_err-refresh_block-clause-err
returns-in_err-refresh_block-clause-err g c =
    let partly : (from : SessionState) → HasResolved from c.args.done.now.items c.args.self.now → RefreshesPartly from c.refresh_block.new.self =
    in_turn-partly c.args.self.now c.args.done.now.items c.into_iter-block-iterator.result (map shown c.loop-block.yielded) c.loop-block.block-iterator
    c.loop-block.self c.loop-block.done.items
    c.loop-block.invariant c.refresh_block.new.self c.in_err-refresh_block.ensures.err in
    on_err _ partly

pub returns-in_err-refresh_block-clause-many : goal.returns-in_err-refresh_block-clause-many
returns-in_err-refresh_block-clause-many g c = λ many.
    let is = c.refresh_block.ensures.many (passed_on _ _ _ _ c.in_err-refresh_block.was c.from_residual.ensures.1 many) in
    in_turn-stuck c.args.self.now c.args.done.now.items c.into_iter-block-iterator.result (map shown c.loop-block.yielded) c.next.new.self c.in-Some.block.now
    c.loop-block.self c.loop-block.done.items
    (subst (λ (rest : List PendingBlock). IsInTurn c.args.self.now c.args.done.now.items c.into_iter-block-iterator.result (map shown c.loop-block.yielded) rest
    c.loop-block.self
    c.loop-block.done.items) c.in-Some.ensures.steps c.loop-block.invariant) c.refresh_block.new.self is.0 is.1 is.2 c.in_err-refresh_block.ensures.err is.3

pub returns-clause-all : goal.returns-clause-all
returns-clause-all g c =
    subst (λ (ks : List PendingBlock). HasAllPending c.loop-block.self ks) c.into_iter-block-iterator.ensures.into_iter_gives.0 c.loop-block.invariant.all
