-- What does a table of one namespace hold, and what comes of a candidate?
use Rattle.std.specs.Prelude.{◌≡◌, ◌≢◌, ℕ, Bool, false, List, [], ◌∷◌, ◌++◌, fold, Option, None, Some, cond, option_map, option_to_list}
use Rattle.std.specs.Ordering.{is_eq, nat_cmp}
use Rattle.std.specs.Cmp.Lexicographic.{slice_cmp}
use Rattle.std.specs.BTreeMap.{is_at}
use Rattle.std.specs.Map.{set_value, remove_entry}
use Rattle.std.specs.declared.cmp.Ordering.{Ordering}
use Rattle.hir_scope_item.specs.declared.item.Item.{Item}
use Rattle.hir_scope_item.specs.declared.item.Push.{Push}
use Rattle.hir_scope_item.specs.declared.item.Candidate.{Candidate}
use Rattle.hir_scope_item.specs.Bindings.{Slot, first_of, takes, slot_after_push, history_of, prevailing, with_item_visibility, with_item_definition}
use Rattle.hir_scope_table.specs.Entries.{item_at, value_at, with_some_entry}
use Rattle.hir_scope_table.specs.Globs.{Place, has_place, with_place, without_place}

-- what names stand for in one namespace
abbrev pub Bindings : Type 0 → Type 0 → Type 0 → Type 0
Bindings D V I = List (List ℕ × Item D V I)

-- ---- which candidate is taken

-- the slot of a name in a module
abbrev pub slot_at : {D V I : Type 0} → Bindings D V I → List Place → Place → Slot D V I
slot_at items globs place = record { bound = item_at items place.1; globbed = has_place globs place }

-- the candidate, if its push changes the slot
abbrev pub taken : {D V I T : Type 0} → (D → D → Bool) → (I → I → Bool)
    → Bindings D V I → List Place → Place → Option (Candidate D V I T) → Option (Candidate D V I T)
taken same_def same_import items globs place None = None
taken same_def same_import items globs place (Some candidate) =
    cond (takes same_def same_import (has_place globs place) (item_at items place.1) candidate.push)
    (Some candidate) None

-- ---- what comes of a taken candidate, if there is one

-- what it binds to a name
abbrev pub item_entry : {D V I T : Type 0} → List ℕ → Option (Candidate D V I T) → Option (List ℕ × Item D V I)
item_entry name None = None
item_entry name (Some candidate) = Some (name, candidate.push.item)

-- what it binds
abbrev pub pushed_item : {D V I T : Type 0} → Option (Candidate D V I T) → Option (Item D V I)
pushed_item candidate = option_map (λ (o : Candidate _ _ _ _). o.push.item) candidate

-- what is recorded of its import
abbrev pub record_entry : {D V I T : Type 0} → Option (Candidate D V I T) → Option (I × T)
record_entry None = None
record_entry (Some candidate) = option_map (λ i. (i, candidate.source)) candidate.push.item.import

-- whether it is a glob's
abbrev pub is_globs : {D V I T : Type 0} → Option (Candidate D V I T) → Bool
is_globs None = false
is_globs (Some candidate) = candidate.push.is_glob

-- the items with what it binds
abbrev pub written_items : {D V I T : Type 0} → List ℕ → Option (Candidate D V I T) → Bindings D V I → Bindings D V I
written_items name candidate items = with_some_entry (slice_cmp nat_cmp) items (item_entry name candidate)

-- the names that globs brought: with the name if a glob brings it, and else without
abbrev pub written_places : {D V I T : Type 0} → Place → Option (Candidate D V I T) → List Place → List Place
written_places place None globs = globs
written_places place (Some candidate) globs =
    cond candidate.push.is_glob (with_place globs place) (without_place globs place)

-- what imports reached, with what its import did
abbrev pub written_records : {D V I T : Type 0} → (I → I → Ordering) → Option (Candidate D V I T)
    → List (I × T) → List (I × T)
written_records cmp candidate records = with_some_entry cmp records (record_entry candidate)

-- ---- what a push makes of a slot

-- a slot after a candidate, if there is one
abbrev pub slot_after_candidate : {D V I T : Type 0} → (D → D → Bool) → (I → I → Bool)
    → Option (Candidate D V I T) → Slot D V I → Slot D V I
slot_after_candidate same_def same_import None slot = slot
slot_after_candidate same_def same_import (Some candidate) slot =
    slot_after_push same_def same_import slot candidate.push

-- the push of a candidate, if there is one
abbrev pub pushes_of : {D V I T : Type 0} → Option (Candidate D V I T) → List (Push D V I)
pushes_of candidate = option_to_list (option_map (λ (o : Candidate _ _ _ _). o.push) candidate)

-- a slot that pushes made out of what stood there before, as an update or a removal left it, and that
-- takes one more candidate, holds what prevails among that, those pushes and the candidate
abbrev pub Prevails : {D V I T : Type 0} → (D → D → Bool) → (I → I → Bool)
    → Option (Candidate D V I T) → Slot D V I → Slot D V I → Type 0
Prevails {D} {V} {I} same_def same_import candidate old new = (cut : Slot D V I) (pushes : List (Push D V I))
    → old ≡ fold (slot_after_push same_def same_import) cut pushes
    → new.bound ≡ prevailing same_def same_import (history_of cut ++ (pushes ++ pushes_of candidate))

-- the slot of a name of a module takes the candidate, and the slots of the module's other names stay
pub record PushesSlot {D V I T : Type 0} (same_def : D → D → Bool) (same_import : I → I → Bool)
    (place : Place) (candidate : Option (Candidate D V I T)) (old new : Place → Slot D V I) : Type 0 where
  pub bound : new place ≡ slot_after_candidate same_def same_import candidate (old place)
  pub others : (name : List ℕ) → name ≢ place.1 → new (place.0, name) ≡ old (place.0, name)
  pub prevails : Prevails same_def same_import candidate (old place) (new place)

-- ---- what a push records of its import

-- what is reached, if this import is the one that reaches it
abbrev pub reached_through : {I T : Type 0} → (I → I → Ordering) → I → Option I → T
    → Option T
reached_through cmp import None source = None
reached_through cmp import (Some by) source = cond (is_eq (cmp by import)) (Some source) None

-- what a candidate, if there is one, records of an import
abbrev pub recorded : {D V I T : Type 0} → (I → I → Ordering) → Option (Candidate D V I T) → I
    → Option T
recorded cmp None import = None
recorded cmp (Some candidate) import = reached_through cmp import candidate.push.item.import candidate.source

-- what the last of several candidates that says anything of an import records of it
abbrev pub last_recorded : {D V I T : Type 0} → (I → I → Ordering) → List (Option (Candidate D V I T)) → I
    → Option T
last_recorded cmp [] import = None
last_recorded cmp (candidate ∷ candidates) import =
    first_of (last_recorded cmp candidates import) (recorded cmp candidate import)

-- the record of the import that makes a candidate is what it reached, and the other records stay
abbrev pub Records : {D V I T : Type 0} → (I → I → Ordering) → Option (Candidate D V I T)
    → List (I × T) → List (I × T) → Type 0
Records {D} {V} {I} cmp candidate old new = (import : I)
    → value_at cmp new import ≡ first_of (recorded cmp candidate import) (value_at cmp old import)

-- ---- updates and removals

-- the items, once one that a name stands for is written anew
abbrev pub rewritten : {D V I : Type 0} → (Item D V I → Item D V I) → List (List ℕ × Item D V I) → List ℕ → Option (Item D V I) → List (List ℕ × Item D V I)
rewritten new items name None = items
rewritten new items name (Some item) = set_value (is_at (slice_cmp nat_cmp name)) items (new item)

-- the items, where one that a name stands for has another visibility
abbrev pub with_visibility : {D V I : Type 0} → List (List ℕ × Item D V I) → List ℕ → V → List (List ℕ × Item D V I)
with_visibility items name vis = rewritten (with_item_visibility vis) items name (item_at items name)

-- the items, where the name stands for another definition, with another visibility and the import as it was
abbrev pub with_definition : {D V I : Type 0} → List (List ℕ × Item D V I) → List ℕ → D → V → List (List ℕ × Item D V I)
with_definition items name def vis = rewritten (with_item_definition def vis) items name (item_at items name)

-- whether an item is this definition
abbrev pub is_definition : {D V I : Type 0} → (D → D → Bool) → D → Option (Item D V I) → Bool
is_definition same_def def None = false
is_definition same_def def (Some item) = same_def item.def def

-- the items, without that of a name if it is this definition
abbrev pub without_definition : {D V I : Type 0} → (D → D → Bool) → Bindings D V I → List ℕ → D → Bindings D V I
without_definition same_def items name def = cond (is_definition same_def def (item_at items name)) (remove_entry (is_at (slice_cmp nat_cmp name)) items) items
