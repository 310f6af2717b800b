-- One after another is taken and tried.
use Rattle.std.proofs.Common.{◌∙◌, ap, refl, rules}
use Rattle.hir_worklist.specs.Queue.{Queue}
use Rattle.hir_import_rules.specs.Rules.{none}
use Rattle.hir_import_resolution.proofs.Passes.{closed_running, nothing_later, opened_running, spent_on, steps_on, taken_running}
use Rattle.hir_import_resolution.proofs.Running.{reports_from, reports_join, reports_nothing, reports_queued}
use Rattle.hir_import_resolution.proofs.resolver.Resolver.pass.Goals as goal

pub tries-init : goal.tries-init
tries-init c = record {
  running = opened_running c.args.self.now c.open.new.self c.requires.running c.requires.over c.open.ensures.value;
  finished = refl;
  apart = refl;
  steps = none;
  reports = λ apart. reports_nothing _ _ refl refl refl;
  moves = λ e. ap (λ (q : Queue). q.later) c.open.ensures.value;
}

pub try_import-requires : goal.try_import-requires
try_import-requires c = record { running = taken_running c.tries.self c.take.new.self c.in-Some.i c.tries.invariant.running c.in-Some.ensures.some }

pub tries-preserved : goal.tries-preserved
tries-preserved c = record {
  running = c.in_ok-try_import.ensures.running;
  finished = c.in_ok-try_import.ensures.finished ∙ c.tries.invariant.finished;
  apart = c.in_ok-try_import.ensures.apart ∙ c.tries.invariant.apart;
  steps = steps_on c.args.self.now c.tries.self c.try_import.new.self c.tries.invariant.finished c.tries.invariant.steps c.in_ok-try_import.ensures.steps;
  reports = λ apart.
      reports_join _ (record c.tries.self { worklist = c.take.new.self }) c.try_import.new.self
      (reports_queued _ c.tries.self c.take.new.self (c.tries.invariant.reports apart))
      (c.in_ok-try_import.ensures.reports (c.tries.invariant.apart ∙ apart));
  moves =
      nothing_later c.args.self.now c.tries.self c.try_import.new.self c.take.new.self c.in-Some.i c.tries.invariant.steps c.in_ok-try_import.ensures.steps
      c.tries.invariant.moves
      c.in-Some.ensures.some c.in_ok-try_import.ensures.moves;
}

pub returns-in_err-try_import-clause-many : goal.returns-in_err-try_import-clause-many
returns-in_err-try_import-clause-many c many =
    spent_on c.args.self.now c.tries.self c.tries.invariant.finished c.tries.invariant.steps (c.in_err-try_import.ensures.many (search rules))

pub returns-clause-reports : goal.returns-clause-reports
returns-clause-reports c =
    λ apart. reports_from c.args.self.now _ c.open.new.self (reports_queued _ c.tries.self c.take.new.self (c.tries.invariant.reports apart))

pub returns-clause-running : goal.returns-clause-running
returns-clause-running c = closed_running c.tries.self c.take.new.self c.tries.invariant.running c.in_default.ensures.none
