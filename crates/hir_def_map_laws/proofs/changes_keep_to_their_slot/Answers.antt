-- Each change by itself.
use Rattle.hir_def_map_laws.proofs.SlotChanges.{changes-crate, changes-enum, changes-listed, changes-macro_use, changes-made, changes-pushed, other_slots}
use Rattle.hir_def_map_laws.proofs.SlotLists.{textual_macros}
use Rattle.hir_def_map_laws.proofs.changes_keep_to_their_slot.Goals as goal

pub returns : goal.returns
returns c = record {
  others = other_slots;
  pushed = changes-pushed;
  listed = changes-listed;
  made = changes-made;
  enums = changes-enum;
  macro_uses = changes-macro_use;
  crates = changes-crate;
  textual_macros = textual_macros;
}
