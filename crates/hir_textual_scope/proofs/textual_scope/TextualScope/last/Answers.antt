use Rattle.std.proofs.Common.{◌∙◌}
use Rattle.hir_textual_scope.specs.Node.{macros_under}
use Rattle.hir_textual_scope.proofs.ByName.{last_by_name, named_in_order}
use Rattle.hir_textual_scope.proofs.textual_scope.TextualScope.last.Goals as goal

pub last_of-requires : goal.last_of-requires
last_of-requires c = record { in_order = named_in_order (macros_under c.self.inside.named) (macros_under c.self.inside.defined) c.self.invariant }

pub returns : goal.returns
returns c = record {
  value =
      rw (← c.self.view_is) (c.last_of.ensures.value ∙ last_by_name (macros_under c.self.inside.named) (macros_under c.self.inside.defined) c.args.name.now
      c.self.invariant);
}
