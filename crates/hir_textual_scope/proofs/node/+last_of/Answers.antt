use Rattle.std.proofs.Common.{◌≡◌, ◌∷◌, ◌++◌, length-append, arith, sym, ap, subst, ◌∙◌, length}
use Rattle.hir_textual_scope.specs.Node.{IsInOrder, macros_under}
use Rattle.hir_textual_scope.proofs.NameOrder.{IsInOrder-left, IsInOrder-right}
use Rattle.hir_textual_scope.proofs.NamedMacros.{last_on_left, last_on_right, last_from_middle}
use Rattle.hir_textual_scope.proofs.node.+last_of.Goals as goal

pub last_of-requires : goal.last_of-requires
last_of-requires t c =
    let n = c.node.inside in
    let e : macros_under c.args.tree.now ≡ macros_under n.left ++ n.entry ∷ macros_under n.right = grind arith in (
      omega (arith, ap length e, length-append (macros_under n.left) (n.entry ∷ macros_under n.right)),
      IsInOrder-left (macros_under n.left) (n.entry ∷ macros_under n.right) (subst IsInOrder e c.requires.in_order),
    )

pub last_of-requires-in-Equal : goal.last_of-requires-in-Equal
last_of-requires-in-Equal t c =
    let n = c.node.inside in
    let e : macros_under c.args.tree.now ≡ macros_under n.left ++ n.entry ∷ macros_under n.right = grind arith in (
      omega (arith, ap length e, length-append (macros_under n.left) (n.entry ∷ macros_under n.right)),
      IsInOrder-right (macros_under n.left) n.entry (macros_under n.right) (subst IsInOrder e c.requires.in_order),
    )

pub last_of-requires-in-Greater : goal.last_of-requires-in-Greater
last_of-requires-in-Greater t c =
    let n = c.node.inside in
    let e : macros_under c.args.tree.now ≡ macros_under n.left ++ n.entry ∷ macros_under n.right = grind arith in (
      omega (arith, ap length e, length-append (macros_under n.left) (n.entry ∷ macros_under n.right)),
      IsInOrder-right (macros_under n.left) n.entry (macros_under n.right) (subst IsInOrder e c.requires.in_order),
    )

pub returns-in-Less : goal.returns-in-Less
returns-in-Less t c =
    let n = c.node.inside in
    let e : macros_under c.args.tree.now ≡ macros_under n.left ++ n.entry ∷ macros_under n.right = grind arith in
    record { value = last_on_left _ _ n.entry (macros_under n.right) _ _ e c.requires.in_order (sym c.cmp.ensures ∙ c.in-Less.is) c.last_of.ensures.value }

pub returns-in-Equal : goal.returns-in-Equal
returns-in-Equal t c =
    let n = c.node.inside in
    let e : macros_under c.args.tree.now ≡ macros_under n.left ++ n.entry ∷ macros_under n.right = grind arith in
    record { value = last_from_middle _ _ n.entry (macros_under n.right) _ _ e (sym c.cmp.ensures ∙ c.in-Equal.is) (grind arith) }

pub returns-in-Greater : goal.returns-in-Greater
returns-in-Greater t c =
    let n = c.node.inside in
    let e : macros_under c.args.tree.now ≡ macros_under n.left ++ n.entry ∷ macros_under n.right = grind arith in
    record {
      value = last_on_right _ (macros_under n.left) n.entry _ _ _ e c.requires.in_order (sym c.cmp.ensures ∙ c.in-Greater.is)
          c.last_of-in-Greater.ensures.value;
    }
