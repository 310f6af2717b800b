use Rattle.std.proofs.Common.{ℕ, List, ap, sym, ◌∙◌}
use Rattle.hir_crate_graph.specs.Bits.{has_bit}
use Rattle.hir_crate_graph.proofs.Rows.{has-members}
use Rattle.hir_crate_graph.proofs.crate_set.CrateSet.contains.Goals as goal

pub returns : goal.returns
returns c = rw (← c.self.view_is) (record {
  value = c.has_bit.ensures.value ∙ ap (λ (ws : List ℕ). has_bit ws c.args.krate.0) c.as_slice.ensures.value
      ∙ sym (has-members c.self.inside.words.items c.args.krate);
})
