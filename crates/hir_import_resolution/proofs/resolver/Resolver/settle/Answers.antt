-- One pass after another, until nothing is queued.
use Rattle.std.proofs.Common.{◌∙◌, refl, rules}
use Rattle.hir_glob_imports.specs.declared.step.TheConstants.{MAX_STEPS}
use Rattle.hir_import_rules.specs.Rules.{none}
use Rattle.hir_import_resolution.proofs.Counting.{steps_count}
use Rattle.hir_import_resolution.proofs.Passes.{at_rest, fewer, rest_on, spent_on, steps_on}
use Rattle.hir_import_resolution.proofs.Running.{reports_join, reports_nothing}
use Rattle.hir_import_resolution.proofs.resolver.Resolver.settle.Goals as goal

pub passes-init : goal.passes-init
passes-init c = record {
  running = c.in_ok-wave.ensures.running;
  finished = refl;
  apart = refl;
  steps = none;
  over = c.in_ok-wave.ensures.pass.outside c.requires.over c.requires.outside;
  outside = c.in_ok-wave.ensures.pass.end ∙ c.requires.outside;
  reports = λ apart. reports_nothing c.wave.new.self c.wave.new.self refl refl refl;
}

pub passes-smaller : goal.passes-smaller
passes-smaller c =
    fewer MAX_STEPS c.passes.self.count c.pass.new.self.count c.passes.self.worklist.later c.pass.new.self.worklist.later
    (steps_count _ _ _ c.in_ok-pass.ensures.steps)
    c.in_ok-pass.ensures.running.begun.small
    (λ none. absurd (let settled = c.is_settled.ensures.queued c.passes.invariant.over none in let unsettled = c.passes-test.true in cc))
    c.in_ok-pass.ensures.moves

pub passes-preserved : goal.passes-preserved
passes-preserved c = record {
  running = c.in_ok-pass.ensures.running;
  finished = c.in_ok-pass.ensures.finished ∙ c.passes.invariant.finished;
  apart = c.in_ok-pass.ensures.apart ∙ c.passes.invariant.apart;
  steps = steps_on c.wave.new.self c.passes.self c.pass.new.self c.passes.invariant.finished c.passes.invariant.steps c.in_ok-pass.ensures.steps;
  over = c.in_ok-pass.ensures.over;
  outside = c.in_ok-pass.ensures.outside;
  reports =
      λ apart. reports_join c.wave.new.self c.passes.self c.pass.new.self (c.passes.invariant.reports apart)
      (c.in_ok-pass.ensures.reports (c.passes.invariant.apart ∙ apart));
}

pub returns-in_err-pass-clause-many : goal.returns-in_err-pass-clause-many
returns-in_err-pass-clause-many c many =
    spent_on c.args.self.now c.wave.new.self c.in_ok-wave.ensures.finished c.in_ok-wave.ensures.steps
    (spent_on c.wave.new.self c.passes.self c.passes.invariant.finished c.passes.invariant.steps (c.in_err-pass.ensures.many (search rules)))

pub returns-clause-rests : goal.returns-clause-rests
returns-clause-rests c =
    rest_on c.args.self.now c.passes.self (c.passes.invariant.finished ∙ c.in_ok-wave.ensures.finished)
    (at_rest c.passes.self c.passes.invariant.running c.passes.invariant.over (search (rules, c.passes-test.ensures.later)))

pub returns-clause-steps : goal.returns-clause-steps
returns-clause-steps c =
    steps_on c.args.self.now c.wave.new.self c.passes.self c.in_ok-wave.ensures.finished c.in_ok-wave.ensures.steps c.passes.invariant.steps

pub returns-clause-reports : goal.returns-clause-reports
returns-clause-reports c = λ apart.
    reports_join c.args.self.now c.wave.new.self c.passes.self (c.in_ok-wave.ensures.reports apart)
    (c.passes.invariant.reports (c.in_ok-wave.ensures.apart ∙ apart))

pub returns-clause-finished : goal.returns-clause-finished
returns-clause-finished c = c.passes.invariant.finished ∙ c.in_ok-wave.ensures.finished

pub returns-clause-apart : goal.returns-clause-apart
returns-clause-apart c = c.passes.invariant.apart ∙ c.in_ok-wave.ensures.apart
