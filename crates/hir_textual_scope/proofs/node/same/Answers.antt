use Rattle.std.proofs.Common.{◌≡◌, ◌<◌, ◌∙◌, true, false, length, sym, arith}
use Rattle.hir_textual_scope.specs.contracts.textual_scope.TextualMacroPartialEq.TheImpl as macro_impl
use Rattle.hir_textual_scope.specs.Node.{macros_under}
use Rattle.hir_textual_scope.proofs.Positions.{behind_decides, differs_here}
use Rattle.hir_textual_scope.proofs.node.same.Goals as goal

pub returns-then-not-same_at : goal.returns-then-not-same_at
returns-then-not-same_at c =
    let ms = macros_under c.args.tree.now in
    let ns = macros_under c.args.other.now in
    let within : c.loop-i.i < length ms = omega (arith, c.len-count.ensures.value) in
    let differs : c.same_at.result ≡ false = grind arith in
    record {
      value = sym (differs_here macro_impl.ghosts.eq ms ns c.loop-i.invariant.long c.loop-i.i within (sym c.same_at.ensures.value ∙ differs)
          c.loop-i.invariant.rest);
    }

pub loop-i-preserved : goal.loop-i-preserved
loop-i-preserved c =
    let ms = macros_under c.args.tree.now in
    let ns = macros_under c.args.other.now in
    let within : c.loop-i.i < length ms = omega (arith, c.len-count.ensures.value) in
    let same : c.same_at.result ≡ true = grind arith in
    record {
      long = c.loop-i.invariant.long;
      rest = behind_decides macro_impl.ghosts.eq ms ns c.loop-i.invariant.long c.loop-i.i within (sym c.same_at.ensures.value ∙ same) c.loop-i.invariant.rest;
    }
