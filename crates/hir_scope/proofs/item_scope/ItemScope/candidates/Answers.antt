use Rattle.hir_scope.proofs.item_scope.ItemScope.candidates.Goals as goal

-- what is bound there is what the scope's lists have, and the glob table was read
pub returns : goal.returns
returns c = record {
  value = rw (← c.globs.view_is, ← c.type_candidate-types.ensures.value, ← c.value_candidate-values.ensures.value, ← c.macro_candidate-macros.ensures.value)
      (λ i. record {
        types = c.taken.ensures.value c.args.self.now.types (λ j. (c.get-bound.ensures.value j).types) i;
        values = c.taken-2.ensures.value c.args.self.now.values (λ j. (c.get-bound.ensures.value j).values) i;
        macros = c.taken-3.ensures.value c.args.self.now.macros (λ j. (c.get-bound.ensures.value j).macros) i;
      });
}
