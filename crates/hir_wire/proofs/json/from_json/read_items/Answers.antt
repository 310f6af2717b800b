use Rattle.std.proofs.Common.{arith}
use Rattle.hir_wire.proofs.ReadingLemmas.{each_next}
use Rattle.hir_wire.proofs.json.from_json.read_items.Goals as goal

-- one more was read
pub loop-item-preserved : goal.loop-item-preserved
loop-item-preserved g c =
    each_next g.T.FromJson.seen g.T.FromJson.meaning c.args.items.now c.loop-item.item-index c.item-item.result _ _ c.read.result (omega arith) c.item-item.is
    c.loop-item.invariant
    c.read.ensures.value c.in_ok-add.ensures.memory c.in_ok-add.ensures.ok
