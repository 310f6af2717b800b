-- Each word is joined with the other row's, and past that row's end nothing changes.
use Rattle.std.proofs.Common.{Bool, ◌/◌, ◌||◌, length, inl, inr, sym, ap, ◌∙◌, arith}
use Rattle.std.proofs.lemmas.Bool.{cases_lt}
use Rattle.std.proofs.lemmas.List.{get_or_past}
use Rattle.hir_crate_graph.specs.Bits.{has_bit}
use Rattle.hir_crate_graph.proofs.CrateLists.{or_false}
use Rattle.hir_crate_graph.proofs.Rows.{has_bit-joined, has_bit-same_word, has_bit-zero_word}
use Rattle.hir_crate_graph.proofs.words.set_all.Goals as goal

pub returns : goal.returns
returns c = record {
  value = λ n. elim (cases_lt (n / 64) (length c.args.others.now)) [
    | inl within ↦ has_bit-joined c.args.words.now c.args.others.now c.loop-at.words n (c.loop-at.invariant.0 (n / 64) (omega arith))
    | inr past ↦
        has_bit-same_word c.loop-at.words c.args.words.now n (c.loop-at.invariant.1 (n / 64) (omega arith))
        ∙ sym (ap (λ (b : Bool). has_bit c.args.words.now n || b) (has_bit-zero_word c.args.others.now n (get_or_past c.args.others.now (n / 64) 0 past))
        ∙ or_false (has_bit c.args.words.now n))
  ];
}
