use Rattle.std.proofs.Common.{◌≡◌, ◌∙◌, ap, subst, sym, List, ◌++◌, ◌+◌, ◌-◌, ◌<◌, length, reverse, arith}
use Rattle.std.proofs.lemmas.List.{length-append, length-reverse}
use Rattle.std.specs.List.{remove}
use Rattle.hir_scope_table.proofs.GapLists.{removed_behind}
use Rattle.hir_scope_table.proofs.gap_list.GapList.remove.Goals as goal

pub returns-else-at-before : goal.returns-else-at-before
returns-else-at-before g c =
    let xs = c.self.inside.front.items in
    let ys = c.self.inside.back.items in
    let there : c.args.at < length (xs ++ reverse ys) = subst (λ zs. c.args.at < length zs) (sym c.self.view_is) c.requires.there in
    let both = length-append xs (reverse ys) in
    let turned = length-reverse ys in
    let place : c.len.result - 1 - (c.args.at - c.len-before.result) ≡ length ys - 1 - (c.args.at - length xs) = omega arith in
    rw (← c.self.view_is) (record {
      value =
          ap (λ zs. xs ++ reverse zs) c.remove-else-at-before.ensures.items
          ∙ ap (λ n. xs ++ reverse (remove ys n)) place
          ∙ removed_behind xs ys c.args.at (omega arith) (omega (arith, there, both, turned));
    })
