use Rattle.std.proofs.Common.{drop}
use Rattle.hir_wire.specs.Values.{items_view}
use Rattle.hir_wire.specs.Inner.Parts.{read_so_far}
use Rattle.hir_wire.specs.Reading.{each_of, word_as}
use Rattle.hir_wire.proofs.ReadingLemmas.{Follows}
use Rattle.hir_wire.proofs.json.words.read_words.Given as goal

-- the values so far, and those of what is left, are those of all
abbrev pub invariant-loop-item : goal.invariant-loop-item
invariant-loop-item g l =
    Follows (λ w. w) (each_of (word_as g.W.Word.of_word) (items_view l.items)) (each_of (word_as g.W.Word.of_word) (items_view (drop l.item-index l.items)))
    (read_so_far l.parts)
