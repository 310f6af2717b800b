use Rattle.std.proofs.Common.{◌≡◌, drop}
use Rattle.std.specs.List.{list_any}
use Rattle.hir_item_tree.specs.Limits.{is_long}
use Rattle.hir_item_tree.proofs.check.long_paths.any_long.Given as goal

-- there is a long path exactly where those that are left have one
abbrev pub invariant-loop-path : goal.invariant-loop-path
invariant-loop-path l = list_any is_long (drop l.path-index l.paths) ≡ list_any is_long l.paths
