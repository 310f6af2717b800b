-- Each id that is taken from what is left loses the map.
use Rattle.std.proofs.Common.{rules}
use Rattle.hir_def_map.proofs.Entries.{leaving-end, leaving-start, leaving-step}
use Rattle.hir_def_map.proofs.world.dependents.Dependents.leave.Goals as goal

pub next-init : goal.next-init
next-init c = leaving-start c.args.self.now c.args.named.now.keys c.iter-left.result c.args.id c.iter-left.ensures.rest

pub next-preserved : goal.next-preserved
next-preserved c =
    leaving-step c.args.self.now c.next.self c.remove.new.self c.args.named.now.keys c.next.left c.next-in-next.new.self c.args.id c.in-Some.on.now
    (search rules)
    c.next.invariant c.remove.ensures.left

pub returns : goal.returns
returns c = record { left = leaving-end c.args.self.now c.next.self c.args.named.now.keys c.next.left c.args.id (search rules) c.next.invariant }
