use Rattle.std.proofs.Common.{◌≡◌, ◌∙◌, ap, ◌++◌, ◌-◌, length, reverse, arith}
use Rattle.std.specs.List.{insert}
use Rattle.hir_scope_table.proofs.GapLists.{inserted_behind}
use Rattle.hir_scope_table.proofs.gap_list.insert_into.Goals as goal

pub returns-in_ok-insert-2-clause-ok : goal.returns-in_ok-insert-2-clause-ok
returns-in_ok-insert-2-clause-ok g c =
    let xs = c.args.front.now.items in
    let ys = c.args.back.now.items in
    let place : c.len.result - (c.args.at - c.len-before.result) ≡ length ys - (c.args.at - length xs) = omega arith in
    ap (λ zs. xs ++ reverse zs) c.in_ok-insert-2.ensures.items
    ∙ ap (λ n. xs ++ reverse (insert ys n c.args.element)) place
    ∙ inserted_behind xs ys c.args.at c.args.element (omega arith) (omega (arith, c.requires.within))
