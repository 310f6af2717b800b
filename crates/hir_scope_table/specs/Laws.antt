-- What holds of the pushes of a name?
use Rattle.std.specs.Prelude.{◌≡◌, Bool, List, ◌++◌, Option, fold}
use Rattle.std.specs.declared.cmp.Ordering.{Ordering}
use Rattle.hir_scope_item.specs.declared.item.Candidate.{Candidate}
use Rattle.hir_scope_item.specs.declared.item.Push.{Push}
use Rattle.hir_scope_table.specs.Entries.{value_at}
use Rattle.hir_scope_table.specs.Table.{last_recorded, written_records}
use Rattle.hir_scope_item.specs.Bindings.{first_of, Slot, slot_after_push, history_of, prevailing}

-- pushes that come one after another to a slot leave what prevails among what stood there and the pushes
abbrev pub ExplicitPrevails : {D I : Type 0} → (V : Type 0) → (D → D → Bool) → (I → I → Bool) → Type 0
ExplicitPrevails {D} {I} V same_def same_import = (slot : Slot D V I) (pushes : List (Push D V I))
    → (fold (slot_after_push same_def same_import) slot pushes).bound ≡ prevailing same_def same_import (history_of slot ++ pushes)

-- after several candidates that were taken, the record of an import is what it reached at the last of them
-- that it made, or else what it was
abbrev pub LastRecordStays : {I : Type 0} → (D V T : Type 0) → (I → I → Ordering) → Type 0
LastRecordStays {I} D V T cmp =
    (records : List (I × T)) (candidates : List (Option (Candidate D V I T))) (import : I)
    → value_at cmp (fold (λ rs candidate. written_records cmp candidate rs) records candidates) import
    ≡ first_of (last_recorded cmp candidates import) (value_at cmp records import)
