-- What does a push make of a name in one namespace, and what prevails among pushes?
use Rattle.std.specs.Prelude.{Bool, true, false, ◌&&◌, ◌||◌, not, Option, None, Some, cond, List, [], ◌∷◌, filter, option_map, option_to_list}
use Rattle.hir_scope_item.specs.declared.item.Item.{Item}
use Rattle.hir_scope_item.specs.declared.item.Push.{Push}

-- the first, or else the second
abbrev pub first_of : {A : Type 0} → Option A → Option A → Option A
first_of None b = b
first_of (Some a) b = Some a

-- both name an import, and the same one
abbrev pub is_same_import : {I : Type 0} → (I → I → Bool) → Option I → Option I → Bool
is_same_import same None b = false
is_same_import same (Some a) None = false
is_same_import same (Some a) (Some b) = same a b

-- whether a push resolves the import of a bound item again, to another definition
abbrev pub is_reresolved_by : {D V I : Type 0} → (D → D → Bool) → (I → I → Bool) → Item D V I → Item D V I → Bool
is_reresolved_by same_def same_import bound push = is_same_import same_import bound.import push.import && not (same_def bound.def push.def)

-- whether a push changes what a namespace holds
abbrev pub changes_slot : {D V I : Type 0} → (D → D → Bool) → (I → I → Bool) → Option (Item D V I) → Option (Item D V I) → Bool
changes_slot same_def same_import bound None = false
changes_slot same_def same_import None (Some push) = true
changes_slot same_def same_import (Some b) (Some push) = is_reresolved_by same_def same_import b push

-- what a namespace holds after a push
abbrev pub slot_after : {D V I : Type 0} → (D → D → Bool) → (I → I → Bool) → Option (Item D V I) → Option (Item D V I) → Option (Item D V I)
slot_after same_def same_import bound push = cond (changes_slot same_def same_import bound push) push bound

-- ---- a slot: a name in one namespace of a module

-- what is bound there, and whether the glob table has the name
pub record Slot (D V I : Type 0) : Type 0 where
  pub bound : Option (Item D V I)
  pub globbed : Bool

-- whether a push changes a slot: an empty one always, and else an explicit push where a glob brought what is there, or where its import bound it and now reaches another definition
abbrev pub takes : {D V I : Type 0} → (D → D → Bool) → (I → I → Bool) → Bool → Option (Item D V I) → Push D V I → Bool
takes same_def same_import globbed None push = true
takes same_def same_import globbed (Some bound) push = not push.is_glob && (globbed || is_reresolved_by same_def same_import bound push.item)

-- a slot after a push
abbrev pub slot_after_push : {D V I : Type 0} → (D → D → Bool) → (I → I → Bool) → Slot D V I → Push D V I → Slot D V I
slot_after_push same_def same_import slot push =
    cond (takes same_def same_import slot.globbed slot.bound push) (record { bound = Some push.item; globbed = push.is_glob }) slot

-- an item with another visibility
abbrev pub with_item_visibility : {D V I : Type 0} → V → Item D V I → Item D V I
with_item_visibility vis item = record { def = item.def; vis = vis; import = item.import }

-- an item with another definition and another visibility; its import stays
abbrev pub with_item_definition : {D V I : Type 0} → D → V → Item D V I → Item D V I
with_item_definition def vis item = record { def = def; vis = vis; import = item.import }

-- what stands in a slot, as the one push from which its history goes on
abbrev pub history_of : {D V I : Type 0} → Slot D V I → List (Push D V I)
history_of slot = option_to_list (option_map (λ (i : Item _ _ _). record { item = i; is_glob = slot.globbed }) slot.bound)

-- ---- what prevails among the pushes of a slot

-- the pushes from the first explicit one on
abbrev pub from_explicit : {D V I : Type 0} → List (Push D V I) → List (Push D V I)
from_explicit [] = []
from_explicit (p ∷ ps) = cond p.is_glob (from_explicit ps) (p ∷ ps)

-- whether an import pushes, and no glob
abbrev pub is_by_import : {D V I : Type 0} → (I → I → Bool) → Option I → Push D V I → Bool
is_by_import same_import import push = not push.is_glob && is_same_import same_import import push.item.import

-- the items that begin a run of equal definitions, after one that began a run before them
abbrev pub run_starts : {D V I : Type 0} → (D → D → Bool) → Item D V I → List (Push D V I) → List (Item D V I)
run_starts same_def before [] = []
run_starts same_def before (p ∷ ps) = cond (same_def before.def p.item.def) (run_starts same_def p.item ps) (p.item ∷ run_starts same_def p.item ps)

-- the last of a list, or else the item before it
abbrev pub last_or : {A : Type 0} → A → List A → A
last_or x [] = x
last_or x (y ∷ ys) = last_or y ys

-- of the pushes from an explicit one on: that one, and where an import made it, of that import's pushes the one that begins the last run of equal definitions
abbrev pub explicit_binding : {D V I : Type 0} → (D → D → Bool) → (I → I → Bool) → List (Push D V I) → Option (Item D V I)
explicit_binding same_def same_import [] = None
explicit_binding same_def same_import (p ∷ ps) =
    Some (last_or p.item (run_starts same_def p.item (filter (is_by_import same_import p.item.import) ps)))

-- the first push of a list
abbrev pub first_item : {D V I : Type 0} → List (Push D V I) → Option (Item D V I)
first_item [] = None
first_item (p ∷ ps) = Some p.item

-- what a slot holds after pushes: the first explicit one prevails, which its import alone may correct, and without one the first glob's
abbrev pub prevailing : {D V I : Type 0} → (D → D → Bool) → (I → I → Bool) → List (Push D V I) → Option (Item D V I)
prevailing same_def same_import pushes = first_of (explicit_binding same_def same_import (from_explicit pushes)) (first_item pushes)
