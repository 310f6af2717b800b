use Rattle.std.proofs.Common.{◌∙◌, ap}
use Rattle.hir_textual_scope.specs.Types.{TextualMacro}
use Rattle.hir_textual_scope.specs.Node.{macros_under, with_named}
use Rattle.hir_textual_scope.proofs.ByName.{named_in_order, one_more_named}
use Rattle.hir_textual_scope.proofs.textual_scope.TextualScope.define.Goals as goal

pub with_named-requires : goal.with_named-requires
with_named-requires c = record { in_order = named_in_order (macros_under c.self.inside.named) (macros_under c.self.inside.defined) c.self.invariant }

pub invariant_of-self : goal.invariant_of-self
invariant_of-self c =
    let named = macros_under c.self.inside.named in
    let defined = macros_under c.self.inside.defined in
    let made = c.in_ok-named.ensures.ok ∙ ap (λ (m : TextualMacro). with_named named m.name m.makro) c.in_ok-clone.ensures.value in
    one_more_named named defined _ _ (record { name = c.args.name; makro = c.args.makro }) c.self.invariant made c.in_ok-defined.ensures.ok
