-- The edge before those that are pending is made so.
use Rattle.std.proofs.Common.{arith}
use Rattle.hir_glob_imports.proofs.Spreading.{each_more, listed_each, pushed_kept}
use Rattle.hir_glob_imports.proofs.pending.add_each.Goals as goal

pub next-preserved : goal.next-preserved
next-preserved c = record {
  in_range = omega arith;
  kept = λ j other h. pushed_kept c.next.pending.items c.push.new.self.items _ c.in_ok-push.ensures.items (j, other) (c.next.invariant.kept j other h);
  each =
      each_more c.next.pending.items c.push.new.self.items c.args.edges.now c.args.key.now c.in_ok-clone.field-0 c.next.left c.next-test.true
      c.in_ok-push.ensures.items c.in_ok-clone.ensures.value c.next.invariant.each;
}

pub returns-clause-each : goal.returns-clause-each
returns-clause-each c =
    listed_each c.next.pending.items c.args.edges.now c.args.key.now (λ i below. c.next.invariant.each i (omega (arith, c.next-test.false)) below)
