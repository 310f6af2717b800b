-- Names go along globs, and what read them is woken.
use Rattle.std.proofs.Common.{◌∙◌, ap, subst, sym}
use Rattle.hir_worklist.specs.Queue.{Queue}
use Rattle.hir_import_resolution.specs.Types.{Resolver}
use Rattle.hir_worklist.specs.Waking.{IsSamePass}
use Rattle.hir_import_resolution.specs.Inner.State.{path_slots}
use Rattle.hir_import_resolution.proofs.Running.{reports_slots, running_waved}
use Rattle.hir_import_resolution.proofs.resolver.Resolver.wave.Goals as goal

pub returns-clause-running : goal.returns-clause-running
returns-clause-running c =
    running_waved c.args.self.now c.spread.new.self c.wake_changes.new.self (path_slots c.spread.new.self.changes.items) c.requires.begun
    c.in_ok-spread.ensures.is.changes c.in_ok-spread.ensures.is.taken
    (c.in_ok-spread.ensures.kept c.requires.begun.kept) (c.in_ok-spread.ensures.recorded c.requires.begun.recorded)
    (λ e. c.in_ok-spread.ensures.lasts c.requires.begun.kept (c.requires.begun.lasts (sym c.in_ok-spread.ensures.is.changes.lasting ∙ e)))
    c.spread.ensures.small c.in_ok-spread.ensures.pending
    c.in_ok-wake_changes.ensures.rest c.in_ok-wake_changes.ensures.woken c.in_ok-wake_changes.ensures.changes

pub returns-clause-reports : goal.returns-clause-reports
returns-clause-reports c = λ apart.
    reports_slots c.args.self.now c.spread.new.self c.wake_changes.new.self (path_slots c.spread.new.self.changes.items) c.in_ok-spread.ensures.is.changes
    (ap (λ (r : Resolver). r.scopes) c.in_ok-wake_changes.ensures.rest) (ap (λ (r : Resolver). r.local) c.in_ok-wake_changes.ensures.rest)
    (c.in_ok-wake_changes.ensures.reported (c.in_ok-spread.ensures.is.changes.apart ∙ apart))

pub returns-clause-apart : goal.returns-clause-apart
returns-clause-apart c = ap (λ (r : Resolver). r.apart) c.in_ok-wake_changes.ensures.rest ∙ c.in_ok-spread.ensures.is.changes.apart

pub returns-clause-pass : goal.returns-clause-pass
returns-clause-pass c =
    subst (λ (q : Queue). IsSamePass q c.wake_changes.new.self.worklist) c.in_ok-spread.ensures.is.changes.worklist c.in_ok-wake_changes.ensures.woken.pass
