-- Lists of different lengths are not the same.
use Rattle.std.proofs.Common.{rules, arith}
use Rattle.hir_item_tree.proofs.SameAttributes.{length_of_alike}
use Rattle.hir_item_tree.proofs.same_attrs.+same.Goals as goal

pub same_raw_list-returns-then-len : goal.same_raw_list-returns-then-len
same_raw_list-returns-then-len t c = record {
  exact = (
    λ never. search rules,
    λ alike. let lengths = length_of_alike c.args.a.now.items c.args.b.now.items alike in search (rules, arith),
  );
}
