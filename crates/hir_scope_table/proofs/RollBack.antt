-- A reservation that is rolled back leaves a map or a set as it was.
use Rattle.std.proofs.Common.{◌≡◌, ◌∙◌, ap, sym, subst, refl, true, false, Bool, not, ◌&&◌, ◌||◌, List, [], ◌∷◌, Some, cond}
use mathlib.Core.Bool.{true≢false}
use Rattle.std.specs.Option.{is_some}
use Rattle.std.specs.declared.cmp.Ordering.{Ordering}
use Rattle.std.specs.declared.cmp.Ordering.TheVariants.{Less, Equal, Greater}
use Rattle.std.specs.Ordering.{is_eq, match_ordering}
use Rattle.std.specs.BTreeMap.{is_at, insert_entry}
use Rattle.std.specs.BTreeSet.{insert_key}
use Rattle.std.specs.Map.{lookup, remove_entry}
use Rattle.std.specs.Set.{remove_key}
use Rattle.std.specs.List.{list_any}
use Rattle.hir_scope_table.specs.Entries.{has_key, has_value}
use Rattle.hir_scope_table.specs.Inner.Reserved.{IsEntryFor, IsKeyFor}

module _ {K : Type 0} (cmp : K → K → Ordering) (same : (k : K) → cmp k k ≡ Equal) where
  -- an entry that is put in and taken out again
  pub remove_entry-insert_entry : {V : Type 0} (es : List (K × V)) (k : K) (v : V) → has_key cmp es k ≡ false
      → remove_entry (is_at (cmp k)) (insert_entry cmp es k v) ≡ es
  remove_entry-insert_entry [] k v h = let at : cmp k k ≡ Equal = same k in rw at refl
  remove_entry-insert_entry {V} (e ∷ es) k v h = go (λ p. remove_entry-insert_entry es k v p) (cmp k e.0) refl h
    where
      go : (has_key cmp es k ≡ false → remove_entry (is_at (cmp k)) (insert_entry cmp es k v) ≡ es)
          → (o : Ordering) → cmp k e.0 ≡ o → is_some (cond (is_eq o) (Some e.1) (lookup (is_at (cmp k)) es)) ≡ false
          → remove_entry (is_at (cmp k)) (match_ordering o ((k, v) ∷ e ∷ es) ((e.0, v) ∷ es) (e ∷ insert_entry cmp es k v)) ≡ e ∷ es
      go rest Less is absent = let at : cmp k k ≡ Equal = same k in rw at refl
      go rest Equal is absent = absurd (true≢false absent)
      go rest Greater is absent = rw is (ap (λ (xs : List (K × V)). e ∷ xs) (rest absent))

  -- a key likewise
  pub remove_key-insert_key : (ks : List K) (k : K) → list_any (is_at (cmp k)) ks ≡ false
      → remove_key (is_at (cmp k)) (insert_key cmp ks k) ≡ ks
  remove_key-insert_key [] k h = let at : cmp k k ≡ Equal = same k in rw at refl
  remove_key-insert_key (x ∷ xs) k h = go (λ p. remove_key-insert_key xs k p) (cmp k x) refl h
    where
      go : (list_any (is_at (cmp k)) xs ≡ false → remove_key (is_at (cmp k)) (insert_key cmp xs k) ≡ xs)
          → (o : Ordering) → cmp k x ≡ o → (is_eq o || list_any (is_at (cmp k)) xs) ≡ false
          → remove_key (is_at (cmp k)) (match_ordering o (k ∷ x ∷ xs) (x ∷ xs) (x ∷ insert_key cmp xs k)) ≡ x ∷ xs
      go rest Less is absent = let at : cmp k k ≡ Equal = same k in rw at refl
      go rest Equal is absent = absurd (true≢false absent)
      go rest Greater is absent = rw is (ap (λ (ys : List K). x ∷ ys) (rest absent))

  -- so after a roll back the entries are the earlier ones
  pub entry_rolled_back : {V : Type 0} (earlier : List (K × V)) (key : K) (value : V) (added : Bool) (later : List (K × V)) → added ≡ true
      → IsEntryFor cmp earlier (Some (key, value)) added later → remove_entry (is_at (cmp key)) later ≡ earlier
  entry_rolled_back {V} earlier key value added later is reserved = go (has_key cmp earlier key) refl reserved.made (sym is ∙ reserved.was_absent)
    where
      go : (b : Bool) → has_key cmp earlier key ≡ b → later ≡ cond b earlier (insert_entry cmp earlier key value) → true ≡ not b
          → remove_entry (is_at (cmp key)) later ≡ earlier
      go true e made absent = absurd (true≢false absent)
      go false e made absent = ap (λ (xs : List (K × V)). remove_entry (is_at (cmp key)) xs) made ∙ remove_entry-insert_entry earlier key value e

  pub key_rolled_back : (earlier : List K) (key : K) (wanted added : Bool) (later : List K) → added ≡ true
      → IsKeyFor cmp earlier key wanted added later → remove_key (is_at (cmp key)) later ≡ earlier
  key_rolled_back earlier key wanted added later is reserved = go wanted (has_value cmp earlier key) refl (sym is ∙ reserved.was_absent)
    where
      made : later ≡ insert_key cmp earlier key
      made = let at : Bool → Type 0 = λ b. later ≡ cond b (insert_key cmp earlier key) earlier in subst at is reserved.made

      go : (w b : Bool) → has_value cmp earlier key ≡ b → true ≡ (w && not b) → remove_key (is_at (cmp key)) later ≡ earlier
      go true true e absent = absurd (true≢false absent)
      go false b e absent = absurd (true≢false absent)
      go true false e absent = ap (λ (xs : List K). remove_key (is_at (cmp key)) xs) made ∙ remove_key-insert_key earlier key e
