use Rattle.hir_textual_scope.specs.Node.{macros_under}
use Rattle.hir_textual_scope.proofs.ByName.{leading_by_name, named_in_order}
use Rattle.hir_textual_scope.proofs.textual_scope.TextualScope.macros_of.Goals as goal

pub count_before-requires : goal.count_before-requires
count_before-requires c = record { in_order = named_in_order (macros_under c.self.inside.named) (macros_under c.self.inside.defined) c.self.invariant }

pub returns : goal.returns
returns c = record {
  value = rw (← c.self.view_is)
      (leading_by_name (macros_under c.self.inside.named) (macros_under c.self.inside.defined) c.args.name.now c.count_before.result c.self.invariant
      c.count_before.ensures.value);
}
