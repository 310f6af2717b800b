-- Each by itself.
use Rattle.hir_def_map_laws.proofs.SlotLists.{follow, nothing, one_change, unread}
use Rattle.hir_def_map_laws.proofs.changes_keep_to_their_slots.Goals as goal

pub returns : goal.returns
returns c = record { nothing = nothing; one = one_change; several = follow; unread = unread }
