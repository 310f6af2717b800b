use Rattle.std.proofs.Common.{ap, option_copied, rules}
use Rattle.hir_import_resolution.proofs.Waking.{wakes_named, wakes_none}
use Rattle.hir_worklist.proofs.Passes.{pass_woken}
use Rattle.hir_import_resolution.proofs.resolver.watch.wake_named.Goals as goal

pub returns-in_default-clause-woken : goal.returns-in_default-clause-woken
returns-in_default-clause-woken c = wakes_none c.args.at (option_copied c.args.name) c.args.worklist.now c.args.watchers.now (ap option_copied c.in_default.is)

pub returns-clause-woken : goal.returns-clause-woken
returns-clause-woken c =
    wakes_named c.args.at (option_copied c.args.name) c.in_ok-clone.field-0 c.args.worklist.now c.wake_all.new.worklist c.args.watchers.now c.wake_all.new.self
    (search (rules, c.in-Some.is, c.in_ok-clone.ensures)) c.in_ok-wake_all.ensures.ok c.in_ok-wake_all.ensures.forgets

pub returns-clause-pass : goal.returns-clause-pass
returns-clause-pass c = pass_woken c.args.worklist.now c.wake_all.new.worklist _ c.in_ok-wake_all.ensures.ok
