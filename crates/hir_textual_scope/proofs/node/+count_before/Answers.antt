use Rattle.std.proofs.Common.{◌≡◌, ◌+◌, ◌≤◌, ◌∷◌, ◌++◌, true, false, length-append, arith, sym, ap, subst, ◌∙◌, length}
use Rattle.hir_textual_scope.specs.Node.{count_before, is_before, macros_under, IsInOrder}
use Rattle.hir_textual_scope.proofs.ByName.{count_left, count_right, count_within}
use Rattle.hir_textual_scope.proofs.NameOrder.{IsInOrder-left, IsInOrder-right}
use Rattle.hir_textual_scope.proofs.node.+count_before.Goals as goal

pub count_before-requires : goal.count_before-requires
count_before-requires t c =
    let n = c.node.inside in
    let e : macros_under c.args.tree.now ≡ macros_under n.left ++ n.entry ∷ macros_under n.right = grind arith in (
      omega (arith, ap length e, length-append (macros_under n.left) (n.entry ∷ macros_under n.right)),
      IsInOrder-right (macros_under n.left) n.entry (macros_under n.right) (subst IsInOrder e c.requires.in_order),
    )

pub count_before-requires-else-lt : goal.count_before-requires-else-lt
count_before-requires-else-lt t c =
    let n = c.node.inside in
    let e : macros_under c.args.tree.now ≡ macros_under n.left ++ n.entry ∷ macros_under n.right = grind arith in (
      omega (arith, ap length e, length-append (macros_under n.left) (n.entry ∷ macros_under n.right)),
      IsInOrder-left (macros_under n.left) (n.entry ∷ macros_under n.right) (subst IsInOrder e c.requires.in_order),
    )

pub overflow_sub-before : goal.overflow_sub-before
overflow_sub-before t c =
    let n = c.node.inside in
    omega (arith, c.node.invariant, c.len.ensures.value, length-append (macros_under n.left) (n.entry ∷ macros_under n.right))

pub overflow_add-result : goal.overflow_add-result
overflow_add-result t c =
    let n = c.node.inside in
    omega (
      arith,
      c.node.invariant,
      c.len.ensures.value,
      c.count_before.ensures.value,
      length-append (macros_under n.left) (n.entry ∷ macros_under n.right),
      count_within (macros_under n.right) c.args.name.now,
    )

pub returns-then-lt : goal.returns-then-lt
returns-then-lt t c =
    let n = c.node.inside in
    let e : macros_under c.args.tree.now ≡ macros_under n.left ++ n.entry ∷ macros_under n.right = grind arith in
    let before : is_before n.entry.name c.args.name.now ≡ true = cc in
    let all = count_right (macros_under n.left) n.entry (macros_under n.right) c.args.name.now (subst IsInOrder e c.requires.in_order) before in
    record {
      value = omega (
        arith,
        c.node.invariant,
        c.len.ensures.value,
        c.count_before.ensures.value,
        length-append (macros_under n.left) (n.entry ∷ macros_under n.right),
        ap (λ ms. count_before ms c.args.name.now) e,
        all,
      );
    }

pub returns-else-lt : goal.returns-else-lt
returns-else-lt t c =
    let n = c.node.inside in
    let e : macros_under c.args.tree.now ≡ macros_under n.left ++ n.entry ∷ macros_under n.right = grind arith in
    let not_before : is_before n.entry.name c.args.name.now ≡ false = cc in
    let all = count_left (macros_under n.left) n.entry (macros_under n.right) c.args.name.now (subst IsInOrder e c.requires.in_order) not_before in
    record { value = c.count_before-else-lt.ensures.value ∙ sym all ∙ sym (ap (λ ms. count_before ms c.args.name.now) e) }
