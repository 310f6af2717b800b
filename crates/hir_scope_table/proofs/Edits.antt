-- What an edit of the entries of a scope makes of each namespace, and that the entries stay as they are to be kept.
use Rattle.std.proofs.Common.{◌≡◌, ◌∙◌, ap, sym, subst, refl, ℕ, zero, suc, ◌<◌, length, get_or, arith, Result, Ok, Err, OnOk, true, false, Bool, not, ◌||◌}
use Rattle.std.proofs.Common.{List, [], ◌∷◌, Option, None, Some, cond, option_map, unwrap_or}
use mathlib.Core.Bool.{true≢false}
use Rattle.std.specs.Option.{is_some}
use Rattle.std.specs.Ordering.{nat_cmp}
use Rattle.std.specs.Cmp.Lexicographic.{slice_cmp}
use Rattle.std.specs.BTreeMap.{is_at, insert_entry}
use Rattle.std.specs.BTreeSet.{insert_key}
use Rattle.std.specs.List.{list_any, insert, remove, slice_get, slice_set}
use Rattle.std.specs.List.Sorted.{IsStrictlySortedBy}
use Rattle.std.specs.Map.{keys_of, lookup, set_value, remove_entry}
use Rattle.std.proofs.lemmas.Cmp.{nat_list_cmp_total}
use Rattle.std.proofs.lemmas.Map.Lookups.{exact_bytes}
use Rattle.hir_scope_item.specs.Bindings.{first_of}
use Rattle.hir_scope_table.specs.Entries.{any_value, item_at, with_some_entry}
use Rattle.hir_scope_table.specs.Slots.{Slots, NamedSlots, in_slot, is_vacant, keys_where, named, types_in, values_in, macros_in, unresolved_in}
use Rattle.hir_scope_table.specs.Inner.Kept.{edited, marked, no_slots, over, slots_at, with_type, with_value, with_macro, without_value, without_value_of}
use Rattle.hir_scope_table.specs.Inner.Place.{BelongsAt, IsKept}
use Rattle.hir_scope_table.proofs.AnyValue.{any_value-insert_entry, any_value-remove_entry}
use Rattle.hir_scope_table.proofs.Places.{there_is, where_found, where_missing, insert_at_place, set_at_place, remove_at_place, lookup_at_place}
use Rattle.hir_scope_table.proofs.Places.{nothing_at_place}
use Rattle.hir_scope_table.proofs.Slots.{slot_of, put_slot, mark, lookup-in_slot, in_slot-insert, in_slot-remove, in_slot-sorted, put_back, overwritten}
use Rattle.hir_scope_table.proofs.Slots.{not_written, with_entry-insert, insert-sorted, remove-sorted, keys_of-insert, keys_where-mark, list_any-keys}

-- ---- vacant slots

is_some-mapped : {X : Type 0} (x : X) (o : Option X) → is_some (option_map (λ _. x) o) ≡ is_some o
is_some-mapped x None = refl
is_some-mapped x (Some y) = refl

module _ {T V M : Type 0} where
  says_of : (test : Slots T V M → Bool) (es : NamedSlots T V M) (k : List ℕ) (s : Slots T V M) → any_value test es ≡ false → item_at es k ≡ Some s → test s
      ≡ false
  says_of test [] k s h f = absurd (true≢false (sym (ap is_some f)))
  says_of test (e ∷ es) k s h f = go (is_at (slice_cmp nat_cmp k) e.0) (test e.1) refl h f (says_of test es k s)
    where
      same : (o : Option (Slots T V M)) → Option (Slots T V M) → Slots T V M
      same None d = e.1
      same (Some x) d = x

      go : (b v : Bool) → test e.1 ≡ v → (v || any_value test es) ≡ false → cond b (Some e.1) (item_at es k) ≡ Some s
          → (any_value test es ≡ false → item_at es k ≡ Some s → test s ≡ false) → test s ≡ false
      go b true is n g rest = absurd (true≢false n)
      go true false is n g rest = ap (λ (o : Option (Slots T V M)). test (same o None)) (sym g) ∙ is
      go false false is n g rest = rest n g

  pub some_given : (t : Option T) (v : Option V) (m : Option M) (s : Slots T V M) → (is_some t || (is_some v || is_some m)) ≡ true → is_vacant (over t v m s)
      ≡ false
  some_given (Some t) v m s h = refl
  some_given None (Some v) m s h = by_types s.types
    where
      by_types : (o : Option T) → not (is_some o || true) ≡ false
      by_types None = refl
      by_types (Some x) = refl
  some_given None None (Some m) s h = by_slots s.types s.values
    where
      by_slots : (o : Option T) (p : Option V) → not (is_some o || (is_some p || true)) ≡ false
      by_slots None None = refl
      by_slots None (Some y) = refl
      by_slots (Some x) p = refl
  some_given None None None s h = absurd (true≢false (sym h))

  pub marked_says : (s : Slots T V M) → is_vacant (marked s) ≡ false
  marked_says s = go s.types s.values s.macros
    where
      go : (o : Option T) (p : Option V) (q : Option M) → not (is_some o || (is_some p || (is_some q || true))) ≡ false
      go None None None = refl
      go None None (Some z) = refl
      go None (Some y) q = refl
      go (Some x) p q = refl

  pub typed_says : (t : T) (s : Slots T V M) → is_vacant s ≡ false → is_vacant (with_type t s) ≡ false
  typed_says t s h = ap (λ b. not (b || (is_some s.values || (is_some s.macros || s.unresolved)))) (is_some-mapped t s.types) ∙ h

  pub valued_says : (v : V) (s : Slots T V M) → is_vacant s ≡ false → is_vacant (with_value v s) ≡ false
  valued_says v s h = ap (λ b. not (is_some s.types || (b || (is_some s.macros || s.unresolved)))) (is_some-mapped v s.values) ∙ h

  pub macroed_says : (m : M) (s : Slots T V M) → is_vacant s ≡ false → is_vacant (with_macro m s) ≡ false
  macroed_says m s h = ap (λ b. not (is_some s.types || (is_some s.values || (b || s.unresolved)))) (is_some-mapped m s.macros) ∙ h

-- ---- entries that are kept

get-read : {X : Type 0} (xs : List X) (i : ℕ) (x : X) → i < length xs → x ≡ get_or xs i x → slice_get xs i ≡ Some x
get-read [] i x l is = absurd (omega arith)
get-read (y ∷ ys) zero x l is = ap Some (sym is)
get-read (y ∷ ys) (suc i) x l is = get-read ys i x (omega arith) is

-- what holds of a list holds of the one that an `Ok` equates with it
pub on_ok : {R E A : Type 0} (r : Result R E) (new other target : A) → OnOk r (new ≡ other) → (new ≡ other → new ≡ target) → OnOk r (new ≡ target)
on_ok (Ok v) new other target e f = f e
on_ok (Err v) new other target e f = tt

pub kept_none : {T V M : Type 0} → IsKept {T = T} {V = V} {M = M} []
unfolding IsStrictlySortedBy
kept_none = record { ascends = tt; says = refl }

module _ {T V M : Type 0} (es : NamedSlots T V M) (kept : IsKept es) (k : List ℕ) where
  pub kept-insert : (s : Slots T V M) → is_vacant s ≡ false → IsKept (insert_entry (slice_cmp nat_cmp) es k s)
  kept-insert s says = record {
    ascends = insert-sorted (slice_cmp nat_cmp) nat_list_cmp_total es k s kept.ascends;
    says = any_value-insert_entry is_vacant (slice_cmp nat_cmp) es k s kept.says says;
  }

  pub kept-remove : IsKept (remove_entry (is_at (slice_cmp nat_cmp k)) es)
  kept-remove = record {
    ascends = remove-sorted (slice_cmp nat_cmp) (is_at (slice_cmp nat_cmp k)) es kept.ascends;
    says = any_value-remove_entry is_vacant (is_at (slice_cmp nat_cmp k)) es kept.says;
  }

  -- ---- a slot after an edit

  module _ {X : Type 0} (slot : Slots T V M → Option X) where
    pub put_in : (s : Slots T V M) → in_slot slot (insert_entry (slice_cmp nat_cmp) es k s) ≡ put_slot (slice_cmp nat_cmp) (in_slot slot es) k (slot s)
    put_in s = in_slot-insert (slice_cmp nat_cmp) nat_list_cmp_total exact_bytes slot es k s kept.ascends

    sorted : IsStrictlySortedBy (slice_cmp nat_cmp) (keys_of (in_slot slot es))
    sorted = in_slot-sorted (slice_cmp nat_cmp) slot es kept.ascends

    pub found_in : slot no_slots ≡ None → item_at (in_slot slot es) k ≡ slot (slots_at es k)
    found_in none = lookup-in_slot (slice_cmp nat_cmp) nat_list_cmp_total exact_bytes slot es k kept.ascends ∙ go (item_at es k)
      where
        go : (o : Option (Slots T V M)) → slot_of slot o ≡ slot (unwrap_or o no_slots)
        go None = sym none
        go (Some s) = refl

    -- a slot that isn't written stays
    pub stays_in : slot no_slots ≡ None → (s : Slots T V M) → slot s ≡ slot (slots_at es k) → in_slot slot (insert_entry (slice_cmp nat_cmp) es k s)
        ≡ in_slot slot es
    stays_in none s same =
        put_in s ∙ ap (put_slot (slice_cmp nat_cmp) (in_slot slot es) k) (same ∙ sym (found_in none))
        ∙ put_back (slice_cmp nat_cmp) nat_list_cmp_total (in_slot slot es) k sorted

    -- one that is given an item has it
    pub given_in : slot no_slots ≡ None → (s : Slots T V M) (given : Option X) → slot s ≡ first_of given (slot (slots_at es k))
        → in_slot slot (insert_entry (slice_cmp nat_cmp) es k s) ≡ with_some_entry (slice_cmp nat_cmp) (in_slot slot es) (named k given)
    given_in none s None is = stays_in none s is
    given_in none s (Some x) is = put_in s ∙ ap (put_slot (slice_cmp nat_cmp) (in_slot slot es) k) is
        ∙ sym (with_entry-insert (slice_cmp nat_cmp) nat_list_cmp_total (in_slot slot es) k x sorted)

    -- one in which another item is written has that one
    pub written_in : slot no_slots ≡ None → (s : Slots T V M) (x : X) → slot s ≡ option_map (λ _. x) (slot (slots_at es k))
        → in_slot slot (insert_entry (slice_cmp nat_cmp) es k s) ≡ set_value (is_at (slice_cmp nat_cmp k)) (in_slot slot es) x
    written_in none s x is = put_in s ∙ ap (put_slot (slice_cmp nat_cmp) (in_slot slot es) k) is
        ∙ overwritten (slice_cmp nat_cmp) nat_list_cmp_total (in_slot slot es) k x (slot (slots_at es k)) sorted (found_in none)

    pub unwritten_in : slot no_slots ≡ None → (x : X) → slot (slots_at es k) ≡ None → in_slot slot es ≡ set_value (is_at (slice_cmp nat_cmp k))
        (in_slot slot es) x
    unwritten_in none x is = not_written (slice_cmp nat_cmp) nat_list_cmp_total (in_slot slot es) k x (found_in none ∙ is)

    pub emptied_in : (s : Slots T V M) → slot s ≡ None → in_slot slot (insert_entry (slice_cmp nat_cmp) es k s) ≡ remove_entry (is_at (slice_cmp nat_cmp k))
        (in_slot slot es)
    emptied_in s is = put_in s ∙ ap (put_slot (slice_cmp nat_cmp) (in_slot slot es) k) is

    pub removed_in : in_slot slot (remove_entry (is_at (slice_cmp nat_cmp k)) es) ≡ remove_entry (is_at (slice_cmp nat_cmp k)) (in_slot slot es)
    removed_in = in_slot-remove (slice_cmp nat_cmp) nat_list_cmp_total exact_bytes slot es k kept.ascends

    -- where there is nothing, nothing is taken out
    pub nothing_in : slot no_slots ≡ None → slot (slots_at es k) ≡ None → remove_entry (is_at (slice_cmp nat_cmp k)) (in_slot slot es) ≡ in_slot slot es
    nothing_in none is =
        ap (put_slot (slice_cmp nat_cmp) (in_slot slot es) k) (sym (found_in none ∙ is)) ∙ put_back (slice_cmp nat_cmp) nat_list_cmp_total (in_slot slot es) k
        sorted

  -- ---- the unresolved names

  pub unresolved_stays : (s : Slots T V M) → s.unresolved ≡ (slots_at es k).unresolved → unresolved_in (insert_entry (slice_cmp nat_cmp) es k s)
      ≡ unresolved_in es
  unresolved_stays s same =
      keys_where-mark (λ s. s.unresolved) (insert_entry (slice_cmp nat_cmp) es k s)
      ∙ ap keys_of (stays_in (λ s. mark s.unresolved) refl s (ap mark same))
      ∙ sym (keys_where-mark (λ s. s.unresolved) es)

  is_some-mark : (b : Bool) → is_some (mark b) ≡ b
  is_some-mark true = refl
  is_some-mark false = refl

  pub is_unresolved : list_any (is_at (slice_cmp nat_cmp k)) (unresolved_in es) ≡ (slots_at es k).unresolved
  is_unresolved =
      ap (list_any (is_at (slice_cmp nat_cmp k))) (keys_where-mark (λ s. s.unresolved) es)
      ∙ list_any-keys (slice_cmp nat_cmp) (is_at (slice_cmp nat_cmp k)) (in_slot (λ s. mark s.unresolved) es)
      ∙ ap is_some (found_in (λ s. mark s.unresolved) refl)
      ∙ is_some-mark (slots_at es k).unresolved

  pub unresolved-marked : unresolved_in (insert_entry (slice_cmp nat_cmp) es k (marked (slots_at es k)))
      ≡ cond (list_any (is_at (slice_cmp nat_cmp k)) (unresolved_in es)) (unresolved_in es) (insert_key (slice_cmp nat_cmp) (unresolved_in es) k)
  unresolved-marked = go (slots_at es k).unresolved refl
    where
      go : (b : Bool) → (slots_at es k).unresolved ≡ b
          → unresolved_in (insert_entry (slice_cmp nat_cmp) es k (marked (slots_at es k)))
          ≡ cond (list_any (is_at (slice_cmp nat_cmp k)) (unresolved_in es)) (unresolved_in es) (insert_key (slice_cmp nat_cmp) (unresolved_in es) k)
      go true is = unresolved_stays (marked (slots_at es k)) (sym is)
          ∙ sym (ap (λ b. cond b (unresolved_in es) (insert_key (slice_cmp nat_cmp) (unresolved_in es) k)) (is_unresolved ∙ is))
      go false is =
          keys_where-mark (λ s. s.unresolved) (insert_entry (slice_cmp nat_cmp) es k (marked (slots_at es k)))
          ∙ ap keys_of (put_in (λ s. mark s.unresolved) (marked (slots_at es k)))
          ∙ keys_of-insert (slice_cmp nat_cmp) (in_slot (λ s. mark s.unresolved) es) k tt
          ∙ ap (λ ks. insert_key (slice_cmp nat_cmp) ks k) (sym (keys_where-mark (λ s. s.unresolved) es))
          ∙ sym (ap (λ b. cond b (unresolved_in es) (insert_key (slice_cmp nat_cmp) (unresolved_in es) k)) (is_unresolved ∙ is))

  pub unresolved-removed : (slots_at es k).unresolved ≡ false → unresolved_in (remove_entry (is_at (slice_cmp nat_cmp k)) es) ≡ unresolved_in es
  unresolved-removed is =
      keys_where-mark (λ s. s.unresolved) (remove_entry (is_at (slice_cmp nat_cmp k)) es)
      ∙ ap keys_of (removed_in (λ s. mark s.unresolved) ∙ nothing_in (λ s. mark s.unresolved) refl (ap mark is))
      ∙ sym (keys_where-mark (λ s. s.unresolved) es)

  -- ---- edits by place

  module _ (i : ℕ) (found : Bool) (belongs : BelongsAt (slice_cmp nat_cmp k) es i found) where
    pub found_at : found ≡ true → (e : List ℕ × Slots T V M) → slice_get es i ≡ Some e → item_at es k ≡ Some e.1
    found_at is e f = lookup_at_place (slice_cmp nat_cmp) nat_list_cmp_total k es i e belongs.above (where_found found belongs is) f

    pub missing_at : found ≡ false → item_at es k ≡ None
    missing_at is = nothing_at_place (slice_cmp nat_cmp) nat_list_cmp_total k es i kept.ascends belongs.above (where_missing found belongs is)

    pub set_by_place : found ≡ true → (edit : Slots T V M → Slots T V M) (new : NamedSlots T V M)
        → ((e : List ℕ × Slots T V M) → slice_get es i ≡ Some e → new ≡ slice_set es i (e.0, edit e.1))
        → new ≡ edited edit es k (item_at es k)
    set_by_place is edit new h =
        let at = there_is es i (belongs.inside is) in
        h at.0 at.1
        ∙ set_at_place (slice_cmp nat_cmp) nat_list_cmp_total k es i at.0 (edit at.0.1) belongs.above (where_found found belongs is) at.1
        ∙ ap (edited edit es k) (sym (found_at is at.0 at.1))

    pub left_by_place : found ≡ false → (edit : Slots T V M → Slots T V M) → es ≡ edited edit es k (item_at es k)
    left_by_place is edit = ap (edited edit es k) (sym (missing_at is))

    -- what is said of a slot of the entry that is there
    pub told_by_place : {B : Type 0} (told : Slots T V M → B) (answer : B) → found ≡ true
        → ((e : List ℕ × Slots T V M) → slice_get es i ≡ Some e → answer ≡ told e.1) → answer ≡ told (slots_at es k)
    told_by_place told answer is h =
        let at = there_is es i (belongs.inside is) in
        h at.0 at.1 ∙ ap (λ (o : Option (Slots T V M)). told (unwrap_or o no_slots)) (sym (found_at is at.0 at.1))

    pub new_by_place : found ≡ false → slots_at es k ≡ no_slots
    new_by_place is = ap (λ (o : Option (Slots T V M)). unwrap_or o no_slots) (missing_at is)

    pub read_by_place : found ≡ true → (e : List ℕ × Slots T V M) → e ≡ get_or es i e → Some e.1 ≡ item_at es k
    read_by_place is e read = sym (found_at is e (get-read es i e (belongs.inside is) read))

    -- an edit of an entry that is there, or of none
    pub filled_by_place : found ≡ true → (edit : Slots T V M → Slots T V M) (new : NamedSlots T V M)
        → ((e : List ℕ × Slots T V M) → slice_get es i ≡ Some e → new ≡ slice_set es i (e.0, edit e.1))
        → new ≡ insert_entry (slice_cmp nat_cmp) es k (edit (slots_at es k))
    filled_by_place is edit new h =
        let at = there_is es i (belongs.inside is) in
        h at.0 at.1
        ∙ set_at_place (slice_cmp nat_cmp) nat_list_cmp_total k es i at.0 (edit at.0.1) belongs.above (where_found found belongs is) at.1
        ∙ ap (λ (o : Option (Slots T V M)). insert_entry (slice_cmp nat_cmp) es k (edit (unwrap_or o no_slots))) (sym (found_at is at.0 at.1))

    pub entered_by_place : found ≡ false → (edit : Slots T V M → Slots T V M) (new : NamedSlots T V M)
        → new ≡ insert es i (k, edit no_slots)
        → new ≡ insert_entry (slice_cmp nat_cmp) es k (edit (slots_at es k))
    entered_by_place is edit new h =
        h ∙ insert_at_place (slice_cmp nat_cmp) nat_list_cmp_total k es i (edit no_slots) belongs.above (where_missing found belongs is)
        ∙ ap (λ (o : Option (Slots T V M)). insert_entry (slice_cmp nat_cmp) es k (edit (unwrap_or o no_slots))) (sym (missing_at is))

    pub cleared_by_place : found ≡ true → (new : NamedSlots T V M)
        → ((e : List ℕ × Slots T V M) → slice_get es i ≡ Some e → is_vacant (without_value e.1) ≡ false → new ≡ slice_set es i (e.0, without_value e.1))
        → ((e : List ℕ × Slots T V M) → slice_get es i ≡ Some e → is_vacant (without_value e.1) ≡ true → new ≡ remove es i)
        → new ≡ without_value_of es k (item_at es k)
    cleared_by_place is new stays goes = go (is_vacant (without_value at.0.1)) refl ∙ ap (without_value_of es k) (sym (found_at is at.0 at.1))
      where
        at : (e : List ℕ × Slots T V M) × (slice_get es i ≡ Some e)
        at = there_is es i (belongs.inside is)

        go : (b : Bool) → is_vacant (without_value at.0.1) ≡ b → new ≡ without_value_of es k (Some at.0.1)
        go true v = goes at.0 at.1 v
            ∙ remove_at_place (slice_cmp nat_cmp) nat_list_cmp_total k es i (belongs.inside is) belongs.above (where_found found belongs is)
            ∙ sym (ap (λ b. cond b (remove_entry (is_at (slice_cmp nat_cmp k)) es) (insert_entry (slice_cmp nat_cmp) es k (without_value at.0.1))) v)
        go false v = stays at.0 at.1 v
            ∙ set_at_place (slice_cmp nat_cmp) nat_list_cmp_total k es i at.0 (without_value at.0.1) belongs.above (where_found found belongs is) at.1
            ∙ sym (ap (λ b. cond b (remove_entry (is_at (slice_cmp nat_cmp k)) es) (insert_entry (slice_cmp nat_cmp) es k (without_value at.0.1))) v)

    pub stays_by_place : found ≡ false → es ≡ without_value_of es k (item_at es k)
    stays_by_place is = ap (without_value_of es k) (sym (missing_at is))

  -- ---- all namespaces after an edit

  pub unwrapped : (s : Slots T V M) → item_at es k ≡ Some s → slots_at es k ≡ s
  unwrapped s f = ap (λ (o : Option (Slots T V M)). unwrap_or o no_slots) f

  pub kept-edited : (edit : Slots T V M → Slots T V M) → ((s : Slots T V M) → is_vacant s ≡ false → is_vacant (edit s) ≡ false)
      → IsKept (edited edit es k (item_at es k))
  kept-edited edit says = go (item_at es k) refl
    where
      go : (o : Option (Slots T V M)) → item_at es k ≡ o → IsKept (edited edit es k o)
      go None f = kept
      go (Some s) f = kept-insert (edit s) (says s (says_of is_vacant es k s kept.says f))

  module _ {X : Type 0} (slot : Slots T V M → Option X) (none : slot no_slots ≡ None) where
    -- a slot that an edit leaves
    pub edited_stays : (edit : Slots T V M → Slots T V M) → ((s : Slots T V M) → slot (edit s) ≡ slot s) → in_slot slot (edited edit es k (item_at es k))
        ≡ in_slot slot es
    edited_stays edit same = go (item_at es k) refl
      where
        go : (o : Option (Slots T V M)) → item_at es k ≡ o → in_slot slot (edited edit es k o) ≡ in_slot slot es
        go None f = refl
        go (Some s) f = stays_in slot none (edit s) (same s ∙ ap slot (sym (unwrapped s f)))

    -- one in which it writes
    pub edited_writes : (edit : Slots T V M → Slots T V M) (x : X) → ((s : Slots T V M) → slot (edit s) ≡ option_map (λ _. x) (slot s))
        → in_slot slot (edited edit es k (item_at es k)) ≡ set_value (is_at (slice_cmp nat_cmp k)) (in_slot slot es) x
    edited_writes edit x writes = go (item_at es k) refl
      where
        go : (o : Option (Slots T V M)) → item_at es k ≡ o → in_slot slot (edited edit es k o) ≡ set_value (is_at (slice_cmp nat_cmp k)) (in_slot slot es) x
        go None f = unwritten_in slot none x (ap (λ (o : Option (Slots T V M)). slot (unwrap_or o no_slots)) f ∙ none)
        go (Some s) f = written_in slot none (edit s) x (writes s ∙ ap (λ t. option_map (λ _. x) (slot t)) (sym (unwrapped s f)))

    -- a slot other than that of values, where a value was taken out
    pub removal_stays : ((s : Slots T V M) → slot (without_value s) ≡ slot s) → ((s : Slots T V M) → is_vacant (without_value s) ≡ true → slot s ≡ None)
        → in_slot slot (without_value_of es k (item_at es k)) ≡ in_slot slot es
    removal_stays same vacant = go (item_at es k) refl
      where
        go : (o : Option (Slots T V M)) → item_at es k ≡ o → in_slot slot (without_value_of es k o) ≡ in_slot slot es
        go None f = refl
        go (Some s) f = on (is_vacant (without_value s)) refl
          where
            on : (b : Bool) → is_vacant (without_value s) ≡ b
                → in_slot slot (cond b (remove_entry (is_at (slice_cmp nat_cmp k)) es) (insert_entry (slice_cmp nat_cmp) es k (without_value s)))
                ≡ in_slot slot es
            on true v = removed_in slot ∙ nothing_in slot none (ap slot (unwrapped s f) ∙ vacant s v)
            on false v = stays_in slot none (without_value s) (same s ∙ ap slot (sym (unwrapped s f)))

  pub edited_unresolved : (edit : Slots T V M → Slots T V M) → ((s : Slots T V M) → (edit s).unresolved ≡ s.unresolved)
      → unresolved_in (edited edit es k (item_at es k)) ≡ unresolved_in es
  edited_unresolved edit same = go (item_at es k) refl
    where
      go : (o : Option (Slots T V M)) → item_at es k ≡ o → unresolved_in (edited edit es k o) ≡ unresolved_in es
      go None f = refl
      go (Some s) f = unresolved_stays (edit s) (same s ∙ ap (λ (t : Slots T V M). t.unresolved) (sym (unwrapped s f)))

  pub kept-removal : IsKept (without_value_of es k (item_at es k))
  kept-removal = go (item_at es k)
    where
      go : (o : Option (Slots T V M)) → IsKept (without_value_of es k o)
      go None = kept
      go (Some s) = on (is_vacant (without_value s)) refl
        where
          on : (b : Bool) → is_vacant (without_value s) ≡ b
              → IsKept (cond b (remove_entry (is_at (slice_cmp nat_cmp k)) es) (insert_entry (slice_cmp nat_cmp) es k (without_value s)))
          on true v = kept-remove
          on false v = kept-insert (without_value s) v

  -- the values, where one was taken out
  pub removal_empties : values_in (without_value_of es k (item_at es k)) ≡ remove_entry (is_at (slice_cmp nat_cmp k)) (values_in es)
  removal_empties = go (item_at es k) refl
    where
      go : (o : Option (Slots T V M)) → item_at es k ≡ o → values_in (without_value_of es k o) ≡ remove_entry (is_at (slice_cmp nat_cmp k)) (values_in es)
      go None f = sym (nothing_in (λ s. s.values) refl (ap (λ (o : Option (Slots T V M)). (unwrap_or o no_slots).values) f))
      go (Some s) f = on (is_vacant (without_value s))
        where
          on : (b : Bool) → values_in (cond b (remove_entry (is_at (slice_cmp nat_cmp k)) es) (insert_entry (slice_cmp nat_cmp) es k (without_value s)))
              ≡ remove_entry (is_at (slice_cmp nat_cmp k)) (values_in es)
          on true = removed_in (λ s. s.values)
          on false = emptied_in (λ s. s.values) (without_value s) refl

  not_is : (a b : Bool) → not (a || b) ≡ true → (a ≡ false) × (b ≡ false)
  not_is true b h = absurd (true≢false (sym h))
  not_is false true h = absurd (true≢false (sym h))
  not_is false false h = (refl, refl)

  none_is : {X : Type 0} (o : Option X) → is_some o ≡ false → o ≡ None
  none_is None h = refl
  none_is (Some x) h = absurd (true≢false h)

  pub vacant_types : (s : Slots T V M) → is_vacant (without_value s) ≡ true → s.types ≡ None
  vacant_types s h = none_is s.types (not_is (is_some s.types) (is_some s.macros || s.unresolved) h).0

  pub vacant_macros : (s : Slots T V M) → is_vacant (without_value s) ≡ true → s.macros ≡ None
  vacant_macros s h = none_is s.macros (not_is (is_some s.macros) s.unresolved (ap not (not_is (is_some s.types) (is_some s.macros || s.unresolved) h).1)).0

  pub removal_unresolved : unresolved_in (without_value_of es k (item_at es k)) ≡ unresolved_in es
  removal_unresolved = go (item_at es k) refl
    where
      go : (o : Option (Slots T V M)) → item_at es k ≡ o → unresolved_in (without_value_of es k o) ≡ unresolved_in es
      go None f = refl
      go (Some s) f = on (is_vacant (without_value s)) refl
        where
          at : slots_at es k ≡ s
          at = unwrapped s f

          on : (b : Bool) → is_vacant (without_value s) ≡ b
              → unresolved_in (cond b (remove_entry (is_at (slice_cmp nat_cmp k)) es) (insert_entry (slice_cmp nat_cmp) es k (without_value s)))
              ≡ unresolved_in es
          on true v = unresolved-removed (ap (λ (t : Slots T V M). t.unresolved) at
              ∙ (not_is (is_some s.macros) s.unresolved (ap not (not_is (is_some s.types) (is_some s.macros || s.unresolved) v).1)).1)
          on false v = unresolved_stays (without_value s) (ap (λ (t : Slots T V M). t.unresolved) (sym at))
