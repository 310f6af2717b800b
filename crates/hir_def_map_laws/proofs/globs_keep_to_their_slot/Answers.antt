-- Each by itself.
use Rattle.hir_def_map_laws.proofs.SlotLists.{traits_kept, updates}
use Rattle.hir_def_map_laws.proofs.globs_keep_to_their_slot.Goals as goal

pub returns : goal.returns
returns c = record { updates = updates; traits = traits_kept }
