use Rattle.std.proofs.Common.{◌≡◌, drop, length}
use Rattle.std.specs.Cmp.Lexicographic.{pointwise}
use Rattle.hir_textual_scope.specs.contracts.textual_scope.TextualMacroPartialEq.TheImpl as macro_impl
use Rattle.hir_textual_scope.specs.Node.{macros_under}
use Rattle.hir_textual_scope.proofs.node.same.Given as goal

-- the macros from here on decide
abbrev pub invariant-loop-i : goal.invariant-loop-i
invariant-loop-i l = record {
  long : length (macros_under l.tree) ≡ length (macros_under l.other);
  rest : pointwise macro_impl.ghosts.eq (drop l.i (macros_under l.tree)) (drop l.i (macros_under l.other))
      ≡ pointwise macro_impl.ghosts.eq (macros_under l.tree) (macros_under l.other);
}
