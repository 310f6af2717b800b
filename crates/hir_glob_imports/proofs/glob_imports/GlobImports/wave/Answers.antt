-- Steps are taken, each in a slot that is reported, until nothing is pending.
use Rattle.std.proofs.Common.{rules}
use Rattle.hir_glob_imports.specs.Rules.{none_in}
use Rattle.hir_glob_imports.specs.Waves.{state_of}
use Rattle.hir_glob_imports.proofs.Advancing.{spent_after, steps_of, steps_same, steps_step}
use Rattle.hir_glob_imports.proofs.Resting.{waved}
use Rattle.hir_glob_imports.proofs.glob_imports.GlobImports.wave.Goals as goal

pub steps-init : goal.steps-init
steps-init g c = record { steps = none_in; listed = λ s h. h; kept = λ old. old; small = c.requires.small }

pub returns-in_err-advance-clause-many : goal.returns-in_err-advance-clause-many
returns-in_err-advance-clause-many g c = λ h.
    spent_after g.N.Names.table (state_of c.args.names.now c.args.self.now c.args.count.now) (state_of c.steps.names c.steps.self c.steps.count)
    (steps_of g.N.Names.table c.steps.changes.items (state_of c.args.names.now c.args.self.now c.args.count.now)
    (state_of c.steps.names c.steps.self c.steps.count)
    c.steps.invariant.steps)
    (c.in_err-advance.ensures.many (search rules))

pub steps-preserved : goal.steps-preserved
steps-preserved g c = record {
  steps =
      steps_step g.N.Names.table c.steps.changes.items c.advance.new.changes.items (state_of c.args.names.now c.args.self.now c.args.count.now)
      (state_of c.steps.names c.steps.self c.steps.count) (state_of c.advance.new.names c.advance.new.self c.advance.new.count)
      c.steps.invariant.steps c.in_ok-advance.ensures.looks.reported (c.in_ok-advance.ensures.looks.step c.if-branch.true);
  listed = λ s h. c.in_ok-advance.ensures.looks.reported s (c.steps.invariant.listed s h);
  kept = λ old. c.in_ok-advance.ensures.kept (c.steps.invariant.kept old);
  small = c.advance.ensures.small;
}

pub returns-clause-steps : goal.returns-clause-steps
returns-clause-steps g c =
    steps_same g.N.Names.table c.steps.changes.items c.advance.new.changes.items (state_of c.args.names.now c.args.self.now c.args.count.now)
    (state_of c.steps.names c.steps.self c.steps.count) (state_of c.advance.new.names c.advance.new.self c.advance.new.count)
    c.steps.invariant.steps c.in_ok-advance.ensures.looks.reported (c.in_ok-advance.ensures.looks.stays c.if-branch.false)

pub returns-clause-kept : goal.returns-clause-kept
returns-clause-kept g c = λ old. c.in_ok-advance.ensures.kept (c.steps.invariant.kept old)

pub returns-clause-waved : goal.returns-clause-waved
returns-clause-waved g c = λ old.
    waved (g.N.Names.table.view c.advance.new.names) c.advance.new.self (c.in_ok-advance.ensures.kept (c.steps.invariant.kept old))
    (c.in_ok-advance.ensures.rests c.if-branch.false)
