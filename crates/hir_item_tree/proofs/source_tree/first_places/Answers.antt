use Rattle.std.proofs.Common.{sym, arith}
use Rattle.hir_item_tree.proofs.SideIndexLemmas.{place_in_front}
use Rattle.hir_item_tree.proofs.source_tree.first_places.Goals as goal

-- the entry's place comes in front of those that are there
pub loop-left-preserved : goal.loop-left-preserved
loop-left-preserved c = record {
  within = omega (arith, c.loop-left.invariant.within);
  places = place_in_front c.loop-left.places c.insert.new.self c.args.entries.now.items c.loop-left.left c.index.result.now
      (omega (arith, c.loop-left-test.true)) c.loop-left.invariant.within (sym c.index.ensures) c.loop-left.invariant.places c.in_ok-insert.ensures.updates.0;
}
