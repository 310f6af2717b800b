-- What is pushed and what is to be pushed is the same list.
use Rattle.std.proofs.Common.{◌≡◌, ◌++◌, length, map, reverse}
use Rattle.hir_def_map_rules.specs.Inner.Branches.{branch_below}
use Rattle.hir_nameres.proofs.nameres.dump.push_children.Given as goal

abbrev pub invariant-children : goal.invariant-children
invariant-children l =
    l.left.items ++ reverse (map (branch_below l.path l.depth) l.children)
    ≡ l.initial.left.items ++ reverse (map (branch_below l.path l.depth) l.initial.children)

abbrev pub decreases-children : goal.decreases-children
decreases-children l = length l.children
