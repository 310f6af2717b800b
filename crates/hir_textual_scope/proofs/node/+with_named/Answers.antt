use Rattle.std.proofs.Common.{◌≡◌, true, false, List, ◌∷◌, ◌++◌, length-append, arith, ap, subst, length, IfOk}
use Rattle.hir_textual_scope.specs.Types.{TextualMacro}
use Rattle.hir_textual_scope.specs.Node.{is_before, IsInOrder, macros_under}
use Rattle.hir_textual_scope.proofs.NameOrder.{IsInOrder-left, IsInOrder-right}
use Rattle.hir_textual_scope.proofs.MoreMacros.{taken_on_left, taken_on_right}
use Rattle.hir_textual_scope.proofs.node.+with_named.Goals as goal

pub with_named-requires : goal.with_named-requires
with_named-requires t c =
    let n = c.node.inside in
    let e : macros_under c.args.tree.now ≡ macros_under n.left ++ n.entry ∷ macros_under n.right = grind arith in (
      omega (arith, ap length e, length-append (macros_under n.left) (n.entry ∷ macros_under n.right)),
      IsInOrder-left (macros_under n.left) (n.entry ∷ macros_under n.right) (subst IsInOrder e c.requires.in_order),
    )

pub with_named-requires-else-lt : goal.with_named-requires-else-lt
with_named-requires-else-lt t c =
    let n = c.node.inside in
    let e : macros_under c.args.tree.now ≡ macros_under n.left ++ n.entry ∷ macros_under n.right = grind arith in (
      omega (arith, ap length e, length-append (macros_under n.left) (n.entry ∷ macros_under n.right)),
      IsInOrder-right (macros_under n.left) n.entry (macros_under n.right) (subst IsInOrder e c.requires.in_order),
    )

pub returns-in_ok-share : goal.returns-in_ok-share
returns-in_ok-share t c =
    let n = c.node.inside in
    let e : macros_under c.args.tree.now ≡ macros_under n.left ++ n.entry ∷ macros_under n.right = grind arith in
    let before : is_before c.args.new.name n.entry.name ≡ true = cc in
    let all = taken_on_left _ _ n.entry (macros_under n.right) c.args.new.name c.args.new.makro _ c.in_ok-clone.field-0 _ e before c.in_ok-left.ensures.ok
    c.in_ok-clone.ensures.value c.in_ok-share.ensures.ok in
    record { ok = subst (λ (xs : List TextualMacro). IfOk c.balanced.result (λ node. node.value ≡ xs)) all c.balanced.ensures.ok }

pub returns-in_ok-clone-2 : goal.returns-in_ok-clone-2
returns-in_ok-clone-2 t c =
    let n = c.node.inside in
    let e : macros_under c.args.tree.now ≡ macros_under n.left ++ n.entry ∷ macros_under n.right = grind arith in
    let not_before : is_before c.args.new.name n.entry.name ≡ false = cc in
    let all = taken_on_right _ (macros_under n.left) n.entry _ c.args.new.name c.args.new.makro _ c.in_ok-clone-2.field-0 _ e not_before c.requires.in_order
    c.in_ok-share-2.ensures.ok c.in_ok-clone-2.ensures.value c.in_ok-right.ensures.ok in
    record { ok = subst (λ (xs : List TextualMacro). IfOk c.balanced-else-lt.result (λ node. node.value ≡ xs)) all c.balanced-else-lt.ensures.ok }
