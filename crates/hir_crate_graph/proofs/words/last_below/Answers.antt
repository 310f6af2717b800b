-- A word of zeros is passed whole.
use Rattle.std.proofs.Common.{◌≡◌, ℕ, ◌-◌, ◌/◌, ◌%◌, inl, inr, ap, ◌∙◌, get_or, arith}
use Rattle.std.proofs.lemmas.Bool.{cases_lt}
use Rattle.hir_crate_graph.proofs.Rows.{zeros-passed}
use Rattle.hir_crate_graph.proofs.words.last_below.Goals as goal

pub next-preserved-then-words-at-eq0 : goal.next-preserved-then-words-at-eq0
next-preserved-then-words-at-eq0 c =
    let whole : c.next.at % 64 ≡ 0 = c.if-at-eq0.true in
    let begins : (c.next.at - 64) % 64 ≡ 0 = omega arith in
    let word : (c.next.at - 64) / 64 ≡ c.next.at / 64 - 1 = omega arith in (
      omega arith,
      λ n le lt. elim (cases_lt n c.next.at) [
        | inl before ↦ zeros-passed c.args.words.now (c.next.at - 64) n begins (ap (λ (m : ℕ). get_or c.args.words.now m 0) word ∙ c.if-words-at-eq0.true) le
            (omega arith)
        | inr past ↦ c.next.invariant.1 n past lt
      ],
    )
