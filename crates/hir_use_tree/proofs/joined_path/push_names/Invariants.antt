use Rattle.std.proofs.Common.{◌≡◌, ◌++◌, take}
use Rattle.hir_use_tree.proofs.joined_path.push_names.Given as goal

-- those so far are there
abbrev pub invariant-loop-name : goal.invariant-loop-name
invariant-loop-name l = l.out.items ≡ l.initial.out.items ++ take l.name-index l.more
