use Rattle.std.proofs.Common.{◌≡◌, ◌+◌, ◌∷◌, ◌∙◌, ap, arith, drop, length, rules, sym}
use Rattle.hir_textual_scope.specs.Node.{leading, macros_under}
use Rattle.hir_textual_scope.proofs.ByName.{ends_there, gives_next}
use Rattle.hir_textual_scope.proofs.textual_scope.MacrosOfIterator.next.Goals as goal

pub returns-then-eq-clause-steps : goal.returns-then-eq-clause-steps
returns-then-eq-clause-steps c =
    let ms = macros_under c.self.inside.root.now in
    let name = c.self.inside.name.now in
    sym c.self.view_is ∙ gives_next name ms c.self.inside.next c.in_ok-entry.entry.now c.in_ok-entry.ensures.value (cc)

pub returns-then-eq-clause-goes : goal.returns-then-eq-clause-goes
returns-then-eq-clause-goes c =
    let ms = macros_under c.self.inside.root.now in
    let name = c.self.inside.name.now in
    let gives : c.args.self.now ≡ c.in_ok-entry.entry.now.makro ∷ leading name (drop (c.self.inside.next + 1) ms) = sym c.self.view_is
    ∙ gives_next name ms c.self.inside.next c.in_ok-entry.entry.now c.in_ok-entry.ensures.value (cc) in
    let longer = ap length gives in
    record { on = λ finite. (search rules, search rules, omega arith); keeps = search rules; rests = search rules }

pub returns-else-eq-clause-steps : goal.returns-else-eq-clause-steps
returns-else-eq-clause-steps c =
    let ms = macros_under c.self.inside.root.now in
    let name = c.self.inside.name.now in
    let none = sym c.self.view_is ∙ ends_there name ms c.self.inside.next c.in_ok-entry.entry.now c.in_ok-entry.ensures.value (cc) in
    (none, none)
