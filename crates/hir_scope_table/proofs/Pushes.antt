-- A candidate that is taken writes the slot of its name, and no other, and the record of its import.
use Rattle.std.proofs.Common.{◌≡◌, ◌≢◌, ◌∙◌, ap, sym, refl, ℕ, true, false, Bool, not, ◌&&◌, ◌||◌, List, [], ◌∷◌, Option, None, Some, is_some, cond, fold}
use mathlib.Core.Bool.{true≢false}
use Rattle.std.specs.declared.cmp.Ordering.{Ordering}
use Rattle.std.specs.declared.cmp.Ordering.TheVariants.{Less, Equal, Greater}
use Rattle.std.specs.Cmp.{IsTotalOrder, IsEquivalence}
use Rattle.std.specs.Ordering.{nat_cmp, is_eq, ordering_then}
use Rattle.std.specs.Cmp.Lexicographic.{slice_cmp}
use Rattle.std.specs.List.Sorted.{IsStrictlySortedBy}
use Rattle.std.proofs.lemmas.Cmp.{tied_itself, nat_list_cmp_total}
use Rattle.std.proofs.lemmas.Map.Lookups.{exact_bytes}
use Rattle.hir_ids.specs.contracts.ids.ModuleIdOrd.TheImpl as module_id
use Rattle.hir_scope_table.specs.Types.{Candidate, Item, Push}
use Rattle.hir_scope_item.specs.Bindings.{Slot, first_of, is_same_import, takes}
use Rattle.hir_scope_table.specs.Entries.{item_at, value_at, with_entry}
use Rattle.hir_scope_table.specs.Globs.{Place, place_cmp, has_place, with_place, without_place}
use Rattle.hir_scope_table.specs.Table.{Bindings, slot_at, taken, written_items, written_places, written_records, slot_after_candidate, PushesSlot}
use Rattle.hir_scope_table.specs.Table.{reached_through, recorded, last_recorded, Records}
use Rattle.hir_scope_table.proofs.Prevails.{candidate_prevails}
use Rattle.hir_scope_table.proofs.Lookups.{lookup-with_entry, has_value-with_key, has_value-remove_key}

not_equal : (o : Ordering) → (o ≢ Equal) → is_eq o ≡ false
not_equal Less ne = refl
not_equal Equal ne = absurd (ne refl)
not_equal Greater ne = refl

-- a name isn't found at another
pub name-apart : (x y : List ℕ) → y ≢ x → is_eq (slice_cmp nat_cmp x y) ≡ false
name-apart x y ne = not_equal (slice_cmp nat_cmp x y) (λ e. ne (sym (exact_bytes x y e)))

then_apart : (o p : Ordering) → is_eq p ≡ false → is_eq (ordering_then o p) ≡ false
then_apart Less p e = refl
then_apart Equal p e = e
then_apart Greater p e = refl

-- nor a place
place-apart : (x : Place) (y : List ℕ) → y ≢ x.1 → is_eq (place_cmp x (x.0, y)) ≡ false
place-apart x y ne = then_apart (module_id.ghosts.cmp x.0 x.0) (slice_cmp nat_cmp x.1 y) (name-apart x.1 y ne)

module _ {D V I : Type 0} (same_def : D → D → Bool) (same_import : I → I → Bool) (total : IsTotalOrder place_cmp)
    (items : List (List ℕ × Item D V I)) (globs : List Place) (sorted : IsStrictlySortedBy place_cmp globs) (place : Place) where
  -- what a taken candidate leaves at a name of the module
  bound_at : {T : Type 0} (o : Candidate D V I T) (name : List ℕ) (b : Bool) → is_eq (slice_cmp nat_cmp place.1 name) ≡ b
      → item_at (with_entry (slice_cmp nat_cmp) items place.1 o.push.item) name ≡ cond b (Some o.push.item) (item_at items name)
  bound_at o name b e = lookup-with_entry (slice_cmp nat_cmp) nat_list_cmp_total items place.1 o.push.item name
      ∙ ap (λ (x : Bool). cond x (Some o.push.item) (item_at items name)) e

  globbed_at : (g : Bool) (name : List ℕ) (b : Bool) → is_eq (place_cmp place (place.0, name)) ≡ b
      → has_place (cond g (with_place globs place) (without_place globs place)) (place.0, name) ≡ cond b g (has_place globs (place.0, name))
  globbed_at true name b e = has_value-with_key place_cmp total globs place (place.0, name)
      ∙ ap (λ (x : Bool). cond x true (has_place globs (place.0, name))) e
  globbed_at false name b e = has_value-remove_key place_cmp total globs place (place.0, name) sorted
      ∙ ap (λ (x : Bool). cond x false (has_place globs (place.0, name))) e

  taken_here : {T : Type 0} (o : Candidate D V I T) (b : Bool)
      → slot_at (written_items place.1 (cond b (Some o) None) items) (written_places place (cond b (Some o) None) globs) place
      ≡ cond b (record { bound = Some o.push.item; globbed = o.push.is_glob }) (slot_at items globs place)
  taken_here o false = refl
  taken_here o true =
      let item : item_at (with_entry (slice_cmp nat_cmp) items place.1 o.push.item) place.1 ≡ Some o.push.item =
      bound_at o place.1 true (ap is_eq (tied_itself nat_list_cmp_total place.1)) in
      let mark : has_place (cond o.push.is_glob (with_place globs place) (without_place globs place)) place ≡ o.push.is_glob =
      globbed_at o.push.is_glob place.1 true (ap is_eq (tied_itself total place)) in
      λ i. record { bound = item i; globbed = mark i }

  taken_there : {T : Type 0} (o : Candidate D V I T) (b : Bool) (name : List ℕ) → name ≢ place.1
      → slot_at (written_items place.1 (cond b (Some o) None) items) (written_places place (cond b (Some o) None) globs) (place.0, name)
      ≡ slot_at items globs (place.0, name)
  taken_there o false name ne = refl
  taken_there o true name ne =
      let item : item_at (with_entry (slice_cmp nat_cmp) items place.1 o.push.item) name ≡ item_at items name = bound_at o name false
      (name-apart place.1 name ne) in
      let mark : has_place (cond o.push.is_glob (with_place globs place) (without_place globs place)) (place.0, name) ≡ has_place globs (place.0, name) =
      globbed_at o.push.is_glob name false (place-apart place name ne) in
      λ i. record { bound = item i; globbed = mark i }

  written_here : {T : Type 0} (candidate : Option (Candidate D V I T))
      → slot_at (written_items place.1 (taken same_def same_import items globs place candidate) items)
      (written_places place (taken same_def same_import items globs place candidate) globs) place
      ≡ slot_after_candidate same_def same_import candidate (slot_at items globs place)
  written_here None = refl
  written_here (Some o) = taken_here o (takes same_def same_import (has_place globs place) (item_at items place.1) o.push)

  written_there : {T : Type 0} (candidate : Option (Candidate D V I T)) (name : List ℕ) → name ≢ place.1
      → slot_at (written_items place.1 (taken same_def same_import items globs place candidate) items)
      (written_places place (taken same_def same_import items globs place candidate) globs) (place.0, name)
      ≡ slot_at items globs (place.0, name)
  written_there None name ne = refl
  written_there (Some o) name ne = taken_there o (takes same_def same_import (has_place globs place) (item_at items place.1) o.push) name ne

  -- so a candidate, if it is taken, writes the slot of its name
  pub candidate_pushes : {T : Type 0} → IsEquivalence same_def → IsEquivalence same_import → (candidate : Option (Candidate D V I T))
      → PushesSlot same_def same_import place candidate (slot_at items globs)
      (slot_at (written_items place.1 (taken same_def same_import items globs place candidate) items)
      (written_places place (taken same_def same_import items globs place candidate) globs))
  candidate_pushes defs imports candidate = record {
    bound = written_here candidate;
    others = written_there candidate;
    prevails = candidate_prevails same_def same_import defs imports candidate (slot_at items globs place)
        (slot_at (written_items place.1 (taken same_def same_import items globs place candidate) items)
        (written_places place (taken same_def same_import items globs place candidate) globs) place)
        (written_here candidate);
  }

-- ---- what is recorded

first_of-assoc : {A : Type 0} (x y z : Option A) → first_of x (first_of y z) ≡ first_of (first_of x y) z
first_of-assoc None y z = refl
first_of-assoc (Some a) y z = refl

module _ {D V I T : Type 0} (cmp : I → I → Ordering) (total : IsTotalOrder cmp) where
  -- a candidate writes the record of its import
  pub candidate_records : (candidate : Option (Candidate D V I T)) (records : List (I × T)) → Records cmp candidate records
      (written_records cmp candidate records)
  candidate_records None records import = refl
  candidate_records (Some candidate) records import = go candidate.push.item.import
    where
      written : (by : I) (b : Bool) → cond b (Some candidate.source) (value_at cmp records import) ≡ first_of (cond b (Some candidate.source) None)
          (value_at cmp records import)
      written by true = refl
      written by false = refl

      go : (by : Option I)
          → value_at cmp (written_records cmp (Some (record candidate { push = record candidate.push { item = record candidate.push.item { import = by } } }))
          records) import
          ≡ first_of (reached_through cmp import by candidate.source) (value_at cmp records import)
      go None = refl
      go (Some by) = lookup-with_entry cmp total records by candidate.source import ∙ written by (is_eq (cmp by import))

  -- so several leave what the last of them recorded
  pub last_record : (candidates : List (Option (Candidate D V I T))) (records : List (I × T)) (import : I)
      → value_at cmp (fold (λ (rs : List (I × T)) (candidate : Option (Candidate D V I T)). written_records cmp candidate rs) records candidates) import
      ≡ first_of (last_recorded cmp candidates import) (value_at cmp records import)
  last_record [] records import = refl
  last_record (candidate ∷ candidates) records import =
      last_record candidates (written_records cmp candidate records) import
      ∙ (ap (first_of (last_recorded cmp candidates import)) (candidate_records candidate records import)
      ∙ first_of-assoc (last_recorded cmp candidates import) (recorded cmp candidate import) (value_at cmp records import))

-- ---- a slot that takes a push isn't what it was

-- an explicit push leaves another slot where a glob brought what is there, or where it is resolved again
clash : {G : Type 0} (glob globbed by same : Bool) → (not glob && (globbed || (by && not same))) ≡ true → glob ≡ globbed → same ≡ true → G
clash true globbed by same e at is = absurd (true≢false (sym e))
clash false true by same e at is = absurd (true≢false (sym at))
clash false false true true e at is = absurd (true≢false (sym e))
clash false false true false e at is = absurd (true≢false (sym is))
clash false false false same e at is = absurd (true≢false (sym e))

module _ {D V I : Type 0} (same_def : D → D → Bool) (same_import : I → I → Bool) (laws : IsEquivalence same_def) where
  -- the definition of a slot, against another
  abbrev is_def : D → Option (Item D V I) → Bool
  is_def def None = false
  is_def def (Some item) = same_def def item.def

  -- what a push leaves
  abbrev written : Push D V I → Slot D V I
  written push = record { bound = Some push.item; globbed = push.is_glob }

  taken_apart : {G : Type 0} (push : Push D V I) (bound : Option (Item D V I)) (globbed : Bool) → takes same_def same_import globbed bound push ≡ true
      → written push ≡ record { bound = bound; globbed = globbed } → G
  taken_apart push None globbed e same = absurd (true≢false (ap (λ (s : Slot D V I). is_some s.bound) same))
  taken_apart push (Some b) globbed e same =
      let at : push.is_glob ≡ globbed = ap (λ (s : Slot D V I). s.globbed) same in
      let is : same_def b.def push.item.def ≡ true = ap (λ (s : Slot D V I). is_def b.def s.bound) same ∙ laws.refl b.def in
      clash push.is_glob globbed (is_same_import same_import b.import push.item.import) (same_def b.def push.item.def) e at is

  -- so a candidate that is taken leaves another slot
  pub moved : {G T : Type 0} (items : Bindings D V I) (globs : List Place) (place : Place) (candidate : Option (Candidate D V I T))
      → is_some (taken same_def same_import items globs place candidate) ≡ true
      → slot_after_candidate same_def same_import candidate (slot_at items globs place) ≡ slot_at items globs place → G
  moved items globs place None e same = absurd (true≢false (sym e))
  moved {G} items globs place (Some o) e same = go (takes same_def same_import (has_place globs place) (item_at items place.1) o.push) refl e same
    where
      go : (b : Bool) → takes same_def same_import (has_place globs place) (item_at items place.1) o.push ≡ b
          → is_some (cond b (Some o) None) ≡ true → cond b (written o.push) (slot_at items globs place) ≡ slot_at items globs place → G
      go true is e same = taken_apart o.push (item_at items place.1) (has_place globs place) is same
      go false is e same = absurd (true≢false (sym e))
