-- A word of zeros more has no bit more.
use Rattle.std.proofs.Common.{ℕ, List, ap, ◌∙◌, arith}
use Rattle.hir_crate_graph.specs.Bits.{has_bit}
use Rattle.hir_crate_graph.proofs.Rows.{has_bit-push_zero}
use Rattle.hir_crate_graph.proofs.words.lengthen.Goals as goal

pub grow-preserved : goal.grow-preserved
grow-preserved c = (
  λ n. ap (λ (ws : List ℕ). has_bit ws n) c.in_ok-push.ensures.items ∙ has_bit-push_zero c.grow.words.items n ∙ c.grow.invariant.0 n,
  λ most a b. omega (arith, c.in_ok-push.ensures.len),
)
