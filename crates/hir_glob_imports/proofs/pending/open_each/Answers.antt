-- The edge before those that are pending is made so.
use Rattle.std.proofs.Common.{arith}
use Rattle.hir_glob_imports.proofs.Reopening.{opened_more}
use Rattle.hir_glob_imports.proofs.pending.open_each.Goals as goal

pub next-preserved : goal.next-preserved
next-preserved g c = record {
  each =
      opened_more (g.N.Names.table.view c.args.names.now) c.next.pending.items c.add_keys.new.pending.items c.args.edges.now c.next.j c.in_ok-keys.keys.items
      c.next-test.true
      c.in_ok-keys.ensures.each c.in_ok-add_keys.ensures.kept c.in_ok-add_keys.ensures.each c.next.invariant.each;
}

pub returns : goal.returns
returns g c = record { each = λ k e key is shows. c.next.invariant.each k e key (omega (arith, c.next-test.false)) is shows }
