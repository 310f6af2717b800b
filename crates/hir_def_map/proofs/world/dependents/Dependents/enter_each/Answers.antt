-- Each id that is taken from what is left is entered.
use Rattle.std.proofs.Common.{rules}
use Rattle.hir_def_map.proofs.Entries.{entering-end, entering-others, entering-start, entering-step, others_same}
use Rattle.hir_def_map.proofs.world.dependents.Dependents.enter_each.Goals as goal

pub next-init : goal.next-init
next-init c = entering-start c.args.self.now c.args.named.now.keys c.iter-left.result c.args.id c.iter-left.ensures.rest

pub next-preserved : goal.next-preserved
next-preserved c =
    entering-step c.args.self.now c.next.self c.add.new.self c.args.named.now.keys c.next.left c.next-in-next.new.self c.args.id c.in-Some.on.now (search rules)
    c.next.invariant c.in_ok-add.ensures.ok

pub returns-in_err-add-clause-others : goal.returns-in_err-add-clause-others
returns-in_err-add-clause-others c =
    others_same c.args.self.now c.next.self c.add.new.self c.args.named.now.keys c.args.id
    (entering-others c.args.self.now c.next.self c.args.named.now.keys c.next.left c.args.id c.next.invariant) c.in_err-add.ensures.err

pub returns-clause-ok : goal.returns-clause-ok
returns-clause-ok c = entering-end c.args.self.now c.next.self c.args.named.now.keys c.next.left c.args.id (search rules) c.next.invariant

pub returns-clause-others : goal.returns-clause-others
returns-clause-others c = entering-others c.args.self.now c.next.self c.args.named.now.keys c.next.left c.args.id c.next.invariant
