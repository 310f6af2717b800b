-- A word of zeros is passed whole.
use Rattle.std.proofs.Common.{inl, inr, arith}
use Rattle.std.proofs.lemmas.Bool.{cases_lt}
use Rattle.hir_crate_graph.proofs.Rows.{zeros-passed}
use Rattle.hir_crate_graph.proofs.words.first_from.Goals as goal

pub next-preserved-then-words-at-eq0 : goal.next-preserved-then-words-at-eq0
next-preserved-then-words-at-eq0 c = (
  omega arith,
  λ n le lt. elim (cases_lt n c.next.at) [
    | inl before ↦ c.next.invariant.1 n le before
    | inr past ↦ zeros-passed c.args.words.now c.next.at n c.if-at-eq0.true c.if-words-at-eq0.true past lt
  ],
)
