use Rattle.std.proofs.Common.{◌≡◌, take}
use Rattle.std.specs.List.{filter_map}
use Rattle.hir_session_answers.specs.AssocItems.{named_source}
use Rattle.hir_session_answers.proofs.assoc_items.all_named.Given as goal

-- the items so far
abbrev pub invariant-loop-item : goal.invariant-loop-item
invariant-loop-item l = l.told.items ≡ filter_map (named_source l.tables) (take l.item-index l.items)
