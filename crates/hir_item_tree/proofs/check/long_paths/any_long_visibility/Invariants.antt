use Rattle.std.proofs.Common.{◌≡◌, drop}
use Rattle.std.specs.List.{list_any}
use Rattle.hir_item_tree.specs.Limits.{has_long_visibility}
use Rattle.hir_item_tree.proofs.check.long_paths.any_long_visibility.Given as goal

-- there is a long path exactly where those that are left have one
abbrev pub invariant-loop-visibility : goal.invariant-loop-visibility
invariant-loop-visibility l = list_any has_long_visibility (drop l.visibility-index l.visibilities) ≡ list_any has_long_visibility l.visibilities
