use Rattle.std.proofs.Common.{◌≡◌, drop, map}
use Rattle.hir_ids.specs.Display.{is_one_of}
use Rattle.hir_ids.proofs.display.is_one_of.Given as goal

abbrev pub invariant-loop-word : goal.invariant-loop-word
invariant-loop-word l =
    is_one_of (map (λ word. word.now) (drop l.word-index l.words)) l.text ≡ is_one_of (map (λ word. word.now) l.words) l.text
