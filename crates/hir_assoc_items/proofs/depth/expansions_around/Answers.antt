use Rattle.std.proofs.Common.{arith, sym}
use Rattle.hir_assoc_items.proofs.Around.{one_around}
use Rattle.hir_assoc_items.proofs.depth.expansions_around.Goals as goal

pub outwards-preserved : goal.outwards-preserved
outwards-preserved c = record {
  all =
      let step = one_around c.outwards.left c.args.locations.now c.outwards.at c.outwards.within c.in-Some.node c.outwards-test.true
      (sym c.in-Some.ensures.value) in
      omega (arith, step, c.outwards.invariant.all);
  most = omega arith;
}
