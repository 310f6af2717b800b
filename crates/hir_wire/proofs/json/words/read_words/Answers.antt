use Rattle.std.proofs.Common.{arith}
use Rattle.hir_wire.specs.Reading.{word_as}
use Rattle.hir_wire.proofs.ReadingLemmas.{each_next}
use Rattle.hir_wire.proofs.json.words.read_words.Goals as goal

-- one more was read
pub loop-item-preserved : goal.loop-item-preserved
loop-item-preserved g c =
    each_next (λ w. w) (word_as g.W.Word.of_word) c.args.items.now c.loop-item.item-index c.item-item.result _ _ c.read_word.result (omega arith) c.item-item.is
    c.loop-item.invariant
    c.read_word.ensures.value c.in_ok-add.ensures.memory c.in_ok-add.ensures.ok
