use Rattle.std.proofs.Common.{map}
use Rattle.hir_session_core.proofs.Waiting.{IsInTurn}
use Rattle.hir_session_core.proofs.session.Session.refresh_each.Given as goal

abbrev pub invariant-loop-block : goal.invariant-loop-block
invariant-loop-block g l =
    IsInTurn l.initial.self l.initial.done.items l.initial.block-iterator (map (λ p. p.now) l.yielded) l.block-iterator l.self l.done.items
