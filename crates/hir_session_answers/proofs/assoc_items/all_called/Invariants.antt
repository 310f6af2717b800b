use Rattle.std.proofs.Common.{◌≡◌, take}
use Rattle.std.specs.List.{filter_map}
use Rattle.hir_session_answers.specs.AssocItems.{called_source}
use Rattle.hir_session_answers.proofs.assoc_items.all_called.Given as goal

-- the calls so far
abbrev pub invariant-loop-call : goal.invariant-loop-call
invariant-loop-call l = l.told.items ≡ filter_map (called_source l.tables) (take l.call-index l.calls)
