-- A test that holds of no value of a list of entries, once one of them is written.
use Rattle.std.proofs.Common.{◌≡◌, ap, sym, refl, ◌∙◌, Bool, true, false, ◌||◌, ℕ, List, [], ◌∷◌, Option, None, Some, cond}
use mathlib.Core.Bool.{true≢false}
use Rattle.std.specs.BTreeMap.{insert_entry, is_at}
use Rattle.std.specs.Map.{lookup, set_value, remove_entry}
use Rattle.std.specs.Ordering.{match_ordering, nat_cmp}
use Rattle.std.specs.Cmp.Lexicographic.{slice_cmp}
use Rattle.std.specs.declared.cmp.Ordering.{Ordering}
use Rattle.std.specs.declared.cmp.Ordering.TheVariants.{Less, Equal, Greater}
use Rattle.hir_scope_table.specs.Types.{Item}
use Rattle.hir_scope_table.specs.Entries.{any_value, has_key, item_at, with_entry}
use Rattle.hir_scope_table.specs.Table.{is_definition, rewritten, without_definition}

neither : (a b : Bool) → a ≡ false → b ≡ false → (a || b) ≡ false
neither true b f g = absurd (true≢false f)
neither false b f g = g

not_first : (a b : Bool) → (a || b) ≡ false → a ≡ false
not_first true b f = absurd (true≢false f)
not_first false b f = refl

not_second : (a b : Bool) → (a || b) ≡ false → b ≡ false
not_second true b f = absurd (true≢false f)
not_second false b f = f

module _ {K V : Type 0} (test : V → Bool) where
  pub any_value-insert_entry : (cmp : K → K → Ordering) (es : List (K × V)) (k : K) (v : V) → any_value test es ≡ false → test v ≡ false
      → any_value test (insert_entry cmp es k v) ≡ false
  any_value-insert_entry cmp [] k v f g = neither (test v) false g refl
  any_value-insert_entry cmp (e ∷ es) k v f g = go (cmp k e.0) (any_value-insert_entry cmp es k v (not_second (test e.1) (any_value test es) f) g)
    where
      go : (o : Ordering) → any_value test (insert_entry cmp es k v) ≡ false
          → any_value test (match_ordering o ((k, v) ∷ e ∷ es) ((e.0, v) ∷ es) (e ∷ insert_entry cmp es k v)) ≡ false
      go Less below = neither (test v) (any_value test (e ∷ es)) g f
      go Equal below = neither (test v) (any_value test es) g (not_second (test e.1) (any_value test es) f)
      go Greater below = neither (test e.1) (any_value test (insert_entry cmp es k v)) (not_first (test e.1) (any_value test es) f) below

  pub any_value-set_value : (at : K → Bool) (es : List (K × V)) (v : V) → any_value test es ≡ false → test v ≡ false
      → any_value test (set_value at es v) ≡ false
  any_value-set_value at [] v f g = refl
  any_value-set_value at (e ∷ es) v f g = go (at e.0) (any_value-set_value at es v (not_second (test e.1) (any_value test es) f) g)
    where
      go : (b : Bool) → any_value test (set_value at es v) ≡ false → any_value test (cond b ((e.0, v) ∷ es) (e ∷ set_value at es v)) ≡ false
      go true below = neither (test v) (any_value test es) g (not_second (test e.1) (any_value test es) f)
      go false below = neither (test e.1) (any_value test (set_value at es v)) (not_first (test e.1) (any_value test es) f) below

  pub any_value-remove_entry : (at : K → Bool) (es : List (K × V)) → any_value test es ≡ false → any_value test (remove_entry at es) ≡ false
  any_value-remove_entry at [] f = refl
  any_value-remove_entry at (e ∷ es) f = go (at e.0) (any_value-remove_entry at es (not_second (test e.1) (any_value test es) f))
    where
      go : (b : Bool) → any_value test (remove_entry at es) ≡ false → any_value test (cond b es (e ∷ remove_entry at es)) ≡ false
      go true below = not_second (test e.1) (any_value test es) f
      go false below = neither (test e.1) (any_value test (remove_entry at es)) (not_first (test e.1) (any_value test es) f) below

  pub any_value-with_entry : (cmp : K → K → Ordering) (es : List (K × V)) (k : K) (v : V) → any_value test es ≡ false → test v ≡ false
      → any_value test (with_entry cmp es k v) ≡ false
  any_value-with_entry cmp es k v f g = go (has_key cmp es k)
    where
      go : (b : Bool) → any_value test (cond b (set_value (is_at (cmp k)) es v) (insert_entry cmp es k v)) ≡ false
      go true = any_value-set_value (is_at (cmp k)) es v f g
      go false = any_value-insert_entry cmp es k v f g

-- ---- updates and removals

module _ {D V I : Type 0} (test : Item D V I → Bool) (items : List (List ℕ × Item D V I)) (name : List ℕ) (none : any_value test items ≡ false) where
  -- an update of one item
  pub any_value-rewritten : (new : Item D V I → Item D V I) → ((i : Item D V I) → item_at items name ≡ Some i → test (new i) ≡ false)
      → any_value test (rewritten new items name (item_at items name)) ≡ false
  any_value-rewritten new f = go (item_at items name) refl
    where
      go : (o : Option (Item D V I)) → item_at items name ≡ o → any_value test (rewritten new items name o) ≡ false
      go None e = none
      go (Some i) e = any_value-set_value test (is_at (slice_cmp nat_cmp name)) items (new i) none (f i e)

  pub any_value-without_definition : (same_def : D → D → Bool) (def : D) → any_value test (without_definition same_def items name def) ≡ false
  any_value-without_definition same_def def = go (is_definition same_def def (item_at items name))
    where
      go : (b : Bool) → any_value test (cond b (remove_entry (is_at (slice_cmp nat_cmp name)) items) items) ≡ false
      go true = any_value-remove_entry test (is_at (slice_cmp nat_cmp name)) items none
      go false = none
