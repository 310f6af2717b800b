use Rattle.std.proofs.Common.{Bool, inl, rules, subst, sym, refl}
use Rattle.hir_collector_state.specs.HirCollectorRules.Moves.{Walks, WalksTooFar}
use Rattle.hir_collector_state.specs.HirCollectorRules.Steps.{closing, none}
use Rattle.hir_collector_macros.proofs.Closing.{closed, closed_far}
use Rattle.hir_collector_state.proofs.Noted.{noted_follow, noted_itself}
use Rattle.hir_collector_macros.proofs.macros.close.Goals as goal
use Rattle.hir_collector_state.specs.HirCollectorRules.State.{core_in}

pub returns-then-not-macro_use-clause-ok : goal.returns-then-not-macro_use-clause-ok
returns-then-not-macro_use-clause-ok c = λ env finished.
    subst (λ (b : Bool). Walks env finished (core_in c.args.run.now) (core_in c.args.run.now) (closing b c.args.parent c.args.child))
    (sym c.if-not-macro_use.true) (record { steps = λ rest. none })

pub returns-in_err-tick-clause-many : goal.returns-in_err-tick-clause-many
returns-in_err-tick-clause-many c = λ many env finished.
    subst (λ (b : Bool). WalksTooFar env finished (core_in c.args.run.now) (closing b c.args.parent c.args.child)) (sym c.if-not-macro_use.false)
    (closed_far c.args.parent c.args.child (core_in c.args.run.now)
    (inl (search (rules, many, c.in_err-tick.ensures.many, c.from_residual-in_err-tick.ensures, c.in_ok-take_textual.ensures.ok))))

pub returns-clause-ok : goal.returns-clause-ok
returns-clause-ok c = λ env finished.
    subst (λ (b : Bool). Walks env finished (core_in c.args.run.now) (core_in c.tick.new.self) (closing b c.args.parent c.args.child))
    (sym c.if-not-macro_use.false)
    (closed c.args.parent c.args.child (core_in c.args.run.now) (core_in c.tick.new.self) (rw (c.in_ok-tick.ensures.ok, c.in_ok-take_textual.ensures.ok) refl))

pub returns-clause-noted : goal.returns-clause-noted
returns-clause-noted c = noted_follow c.in_ok-take_textual.ensures.noted c.in_ok-tick.ensures.noted

pub returns-then-not-macro_use-clause-noted : goal.returns-then-not-macro_use-clause-noted
returns-then-not-macro_use-clause-noted c = noted_itself c.args.run.now
