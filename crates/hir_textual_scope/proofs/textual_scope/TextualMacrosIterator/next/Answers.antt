use Rattle.std.proofs.Common.{arith, add-one}
use Rattle.hir_textual_scope.specs.Node.{macros_under}
use Rattle.hir_textual_scope.proofs.Positions.{yields_at}
use Rattle.hir_textual_scope.proofs.textual_scope.TextualMacrosIterator.next.Goals as goal

pub returns-clause-steps : goal.returns-clause-steps
returns-clause-steps c =
    let ms = macros_under c.self.inside.root.now in
    let first = yields_at ms c.self.inside.next c.get-found.result (omega (arith, c.len-len.ensures.value)) c.get-found.ensures.value in
    rw (← c.self.view_is, add-one) first
