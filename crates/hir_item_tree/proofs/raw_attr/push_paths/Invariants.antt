use Rattle.std.proofs.Common.{◌≡◌, ◌++◌, take}
use Rattle.hir_item_tree.proofs.raw_attr.push_paths.Given as goal

-- those so far are there
abbrev pub invariant-loop-path : goal.invariant-loop-path
invariant-loop-path l = l.out.items ≡ l.initial.out.items ++ take l.path-index l.more
