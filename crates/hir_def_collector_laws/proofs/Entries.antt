-- What holds of all values in a list by keys holds still, once something is written to it.
use Rattle.std.specs.Prelude.{◌≡◌, zero, suc, List, [], ◌∷◌, Bool, true, false, Option, None, Some, Contains, cond, if◌then◌else◌, is_some, map, option_map}
use Rattle.std.specs.BTreeMap.{insert_entry, is_at}
use Rattle.std.specs.Cmp.{IsTotalOrder}
use Rattle.std.specs.Map.{lookup, remove_entry, set_value}
use Rattle.std.specs.Ordering.{is_eq, match_ordering, ordering_reverse}
use Rattle.std.specs.declared.cmp.Ordering.{Ordering}
use Rattle.std.specs.declared.cmp.Ordering.TheVariants.{Less, Equal, Greater}
use Rattle.std.proofs.Common.{◌∙◌, ap, arith, refl, subst, sym}
use Rattle.indexmap.specs.IndexMap.{insert_entry as insert_last}
use Rattle.hir_collector_rules.specs.HirScope.Entries.{has_key, with_entry}

module _ {K V : Type 0} (P : V → Type 0) where
  abbrev pub AllValues : List (K × V) → Type 0
  AllValues [] = Unit {0}
  AllValues (e ∷ es) = P e.1 × AllValues es

  all_inserted : (cmp : K → K → Ordering) (es : List (K × V)) (k : K) (v : V) → AllValues es → P v → AllValues (insert_entry cmp es k v)
  all_inserted cmp [] k v f g = (g, tt)
  all_inserted cmp (e ∷ es) k v f g = go (cmp k e.0) (all_inserted cmp es k v f.1 g)
    where
      go : (o : Ordering) → AllValues (insert_entry cmp es k v) → AllValues (match_ordering o ((k, v) ∷ e ∷ es) ((e.0, v) ∷ es) (e ∷ insert_entry cmp es k v))
      go Less below = (g, f)
      go Equal below = (g, f.1)
      go Greater below = (f.0, below)

  pub all_set : (test : K → Bool) (es : List (K × V)) (v : V) → AllValues es → P v → AllValues (set_value test es v)
  all_set test [] v f g = tt
  all_set test (e ∷ es) v f g = go (test e.0) (all_set test es v f.1 g)
    where
      go : (b : Bool) → AllValues (set_value test es v) → AllValues (cond b ((e.0, v) ∷ es) (e ∷ set_value test es v))
      go true below = (g, f.1)
      go false below = (f.0, below)

  pub all_with_entry : (cmp : K → K → Ordering) (es : List (K × V)) (k : K) (v : V) → AllValues es → P v → AllValues (with_entry cmp es k v)
  all_with_entry cmp es k v f g = go (has_key cmp es k)
    where
      go : (b : Bool) → AllValues (cond b (set_value (is_at (cmp k)) es v) (insert_entry cmp es k v))
      go true = all_set (is_at (cmp k)) es v f g
      go false = all_inserted cmp es k v f g

  pub all_found : (test : K → Bool) (es : List (K × V)) (v : V) → AllValues es → lookup test es ≡ Some v → P v
  all_found test [] v f e = absurd (let no : ⊥ = cc in no)
  all_found test (x ∷ xs) v f e = go (test x.0) (λ h. all_found test xs v f.1 h) e
    where
      go : (b : Bool) → (lookup test xs ≡ Some v → P v) → cond b (Some x.1) (lookup test xs) ≡ Some v → P v
      go true below h = let same : x.1 ≡ v = cc in subst P same f.0
      go false below h = below h

  -- where what is new comes last
  pub all_last : (same : K → K → Bool) (es : List (K × V)) (k : K) (v : V) → AllValues es → P v → AllValues (insert_last same es k v)
  all_last same [] k v f g = (g, tt)
  all_last same (e ∷ es) k v f g = go (same k e.0) (all_last same es k v f.1 g)
    where
      go : (b : Bool) → AllValues (insert_last same es k v) → AllValues (if b then (e.0, v) ∷ es else e ∷ insert_last same es k v)
      go true below = (g, f.1)
      go false below = (f.0, below)

  pub all_among : (es : List (K × V)) (k : K) (v : V) → AllValues es → Contains es (k, v) → P v
  all_among [] k v f (n, below, is) = absurd (omega arith)
  all_among (e ∷ es) k v f (zero, below, is) = subst (λ (p : K × V). P p.1) is f.0
  all_among (e ∷ es) k v f (suc n, below, is) = all_among es k v f.1 (n, omega (arith, below), is)

  -- so it does once values are others of which it holds too, or once one is removed
  pub all_mapped : (new : V → V) → ((v : V) → P v → P (new v)) → (es : List (K × V)) → AllValues es → AllValues (map (λ (e : K × V). (e.0, new e.1)) es)
  all_mapped new keeps [] f = tt
  all_mapped new keeps (e ∷ es) f = (keeps e.1 f.0, all_mapped new keeps es f.1)

  pub all_removed : (test : K → Bool) (es : List (K × V)) → AllValues es → AllValues (remove_entry test es)
  all_removed test [] f = tt
  all_removed test (e ∷ es) f = go (test e.0) (all_removed test es f.1)
    where
      go : (b : Bool) → AllValues (remove_entry test es) → AllValues (cond b es (e ∷ remove_entry test es))
      go true below = f.1
      go false below = (f.0, below)

-- ---- keys

module _ {K V : Type 0} (cmp : K → K → Ordering) (total : IsTotalOrder cmp) where
  pub tied_alike : (q k : K) → cmp q k ≡ Equal → (es : List (K × V)) → lookup (is_at (cmp q)) es ≡ lookup (is_at (cmp k)) es
  tied_alike q k tied [] = refl
  tied_alike q k tied (e ∷ es) =
      ap (λ (o : Ordering). cond (is_eq o) (Some e.1) (lookup (is_at (cmp q)) es)) (total.congr q k e.0 tied) ∙ ap (cond (is_at (cmp k) e.0) (Some e.1))
      (tied_alike q k tied es)

  -- no key stands twice
  abbrev pub AloneKeys : List (K × V) → Type 0
  AloneKeys [] = Unit {0}
  AloneKeys (e ∷ es) = (lookup (is_at (cmp e.0)) es ≡ None) × AloneKeys es

  none_first : (c : Bool) (u v : V) (o p : Option V) → cond c (Some u) o ≡ None → (o ≡ None → p ≡ None) → cond c (Some v) p ≡ None
  none_first true u v o p e f = absurd (let no : ⊥ = cc in no)
  none_first false u v o p e f = f e

  none_set : (at test : K → Bool) (es : List (K × V)) (v : V) → lookup test es ≡ None → lookup test (set_value at es v) ≡ None
  none_set at test [] v e = refl
  none_set at test (x ∷ xs) v e = go (at x.0) (none_set at test xs v)
    where
      go : (b : Bool) → (lookup test xs ≡ None → lookup test (set_value at xs v) ≡ None) → lookup test (cond b ((x.0, v) ∷ xs) (x ∷ set_value at xs v)) ≡ None
      go true below = none_first (test x.0) x.1 v (lookup test xs) (lookup test xs) e (λ h. h)
      go false below = none_first (test x.0) x.1 x.1 (lookup test xs) (lookup test (set_value at xs v)) e below

  pub alone_set : (at : K → Bool) (es : List (K × V)) (v : V) → AloneKeys es → AloneKeys (set_value at es v)
  alone_set at [] v f = tt
  alone_set at (x ∷ xs) v f = go (at x.0) (alone_set at xs v f.1)
    where
      go : (b : Bool) → AloneKeys (set_value at xs v) → AloneKeys (cond b ((x.0, v) ∷ xs) (x ∷ set_value at xs v))
      go true below = (f.0, f.1)
      go false below = (none_set at (is_at (cmp x.0)) xs v f.0, below)

  none_mapped : (test : K → Bool) (new : V → V) (es : List (K × V)) → lookup test es ≡ None → lookup test (map (λ (e : K × V). (e.0, new e.1)) es) ≡ None
  none_mapped test new [] e = refl
  none_mapped test new (x ∷ xs) e =
      none_first (test x.0) x.1 (new x.1) (lookup test xs) (lookup test (map (λ (y : K × V). (y.0, new y.1)) xs)) e (none_mapped test new xs)

  pub alone_mapped : (new : V → V) (es : List (K × V)) → AloneKeys es → AloneKeys (map (λ (e : K × V). (e.0, new e.1)) es)
  alone_mapped new [] f = tt
  alone_mapped new (e ∷ es) f = (none_mapped (is_at (cmp e.0)) new es f.0, alone_mapped new es f.1)

  none_removed : (at test : K → Bool) (es : List (K × V)) → lookup test es ≡ None → lookup test (remove_entry at es) ≡ None
  none_removed at test [] e = refl
  none_removed at test (x ∷ xs) e = go (at x.0) (none_removed at test xs)
    where
      left : (c : Bool) → cond c (Some x.1) (lookup test xs) ≡ None → lookup test xs ≡ None
      left true f = absurd (let no : ⊥ = cc in no)
      left false f = f

      go : (b : Bool) → (lookup test xs ≡ None → lookup test (remove_entry at xs) ≡ None) → lookup test (cond b xs (x ∷ remove_entry at xs)) ≡ None
      go true below = left (test x.0) e
      go false below = none_first (test x.0) x.1 x.1 (lookup test xs) (lookup test (remove_entry at xs)) e below

  pub alone_removed : (at : K → Bool) (es : List (K × V)) → AloneKeys es → AloneKeys (remove_entry at es)
  alone_removed at [] f = tt
  alone_removed at (x ∷ xs) f = go (at x.0) (alone_removed at xs f.1)
    where
      go : (b : Bool) → AloneKeys (remove_entry at xs) → AloneKeys (cond b xs (x ∷ remove_entry at xs))
      go true below = f.1
      go false below = (none_removed at (is_at (cmp x.0)) xs f.0, below)

  none_inserted : (q k : K) (v : V) (es : List (K × V)) → is_at (cmp q) k ≡ false → lookup (is_at (cmp q)) es ≡ None
      → lookup (is_at (cmp q)) (insert_entry cmp es k v) ≡ None
  none_inserted q k v [] away none = ap (λ (b : Bool). cond b (Some v) None) away
  none_inserted q k v (e ∷ es) away none = go (cmp k e.0) (none_inserted q k v es away)
    where
      go : (o : Ordering) → (lookup (is_at (cmp q)) es ≡ None → lookup (is_at (cmp q)) (insert_entry cmp es k v) ≡ None)
          → lookup (is_at (cmp q)) (match_ordering o ((k, v) ∷ e ∷ es) ((e.0, v) ∷ es) (e ∷ insert_entry cmp es k v)) ≡ None
      go Less below = ap (λ (b : Bool). cond b (Some v) (lookup (is_at (cmp q)) (e ∷ es))) away ∙ none
      go Equal below = none_first (is_at (cmp q) e.0) e.1 v (lookup (is_at (cmp q)) es) (lookup (is_at (cmp q)) es) none (λ h. h)
      go Greater below = none_first (is_at (cmp q) e.0) e.1 e.1 (lookup (is_at (cmp q)) es) (lookup (is_at (cmp q)) (insert_entry cmp es k v)) none below

  alone_inserted : (es : List (K × V)) (k : K) (v : V) → lookup (is_at (cmp k)) es ≡ None → AloneKeys es → AloneKeys (insert_entry cmp es k v)
  alone_inserted [] k v none f = (refl, tt)
  alone_inserted (e ∷ es) k v none f = go (cmp k e.0) refl (λ h. alone_inserted es k v h f.1)
    where
      go : (o : Ordering) → cmp k e.0 ≡ o → (lookup (is_at (cmp k)) es ≡ None → AloneKeys (insert_entry cmp es k v))
          → AloneKeys (match_ordering o ((k, v) ∷ e ∷ es) ((e.0, v) ∷ es) (e ∷ insert_entry cmp es k v))
      go Less s below = (none, f)
      go Equal s below = (f.0, f.1)
      go Greater s below =
          let away : is_at (cmp e.0) k ≡ false = ap is_eq (total.antisymm e.0 k ∙ ap ordering_reverse s) in
          let left : lookup (is_at (cmp k)) es ≡ None = sym (ap (λ (o : Ordering). cond (is_eq o) (Some e.1) (lookup (is_at (cmp k)) es)) s) ∙ none in
          (none_inserted e.0 k v es away f.0, below left)

  pub alone_with_entry : (es : List (K × V)) (k : K) (v : V) → AloneKeys es → AloneKeys (with_entry cmp es k v)
  alone_with_entry es k v f = go (lookup (is_at (cmp k)) es) refl
    where
      go : (o : Option V) → lookup (is_at (cmp k)) es ≡ o → AloneKeys (cond (is_some o) (set_value (is_at (cmp k)) es v) (insert_entry cmp es k v))
      go None e = alone_inserted es k v e f
      go (Some u) e = alone_set (is_at (cmp k)) es v f

  -- what is found once one is removed was found before
  pub found_removed : (n q : K) (es : List (K × V)) (v : V) → AloneKeys es → lookup (is_at (cmp q)) (remove_entry (is_at (cmp n)) es) ≡ Some v
      → lookup (is_at (cmp q)) es ≡ Some v
  found_removed n q [] v f h = h
  found_removed n q (e ∷ es) v f h = go (is_at (cmp n) e.0) (found_removed n q es v f.1) h
    where
      behind : (o : Ordering) → cmp q e.0 ≡ o → lookup (is_at (cmp q)) es ≡ Some v → cond (is_eq o) (Some e.1) (lookup (is_at (cmp q)) es) ≡ Some v
      behind Less s g = g
      behind Greater s g = g
      behind Equal s g =
          let missing : None ≡ Some v = sym f.0 ∙ (sym (tied_alike q e.0 s es) ∙ g) in
          absurd (let no : ⊥ = cc in no)

      first : (c : Bool) → (lookup (is_at (cmp q)) (remove_entry (is_at (cmp n)) es) ≡ Some v → lookup (is_at (cmp q)) es ≡ Some v)
          → cond c (Some e.1) (lookup (is_at (cmp q)) (remove_entry (is_at (cmp n)) es)) ≡ Some v → cond c (Some e.1) (lookup (is_at (cmp q)) es) ≡ Some v
      first true below g = g
      first false below g = below g

      go : (b : Bool) → (lookup (is_at (cmp q)) (remove_entry (is_at (cmp n)) es) ≡ Some v → lookup (is_at (cmp q)) es ≡ Some v)
          → lookup (is_at (cmp q)) (cond b es (e ∷ remove_entry (is_at (cmp n)) es)) ≡ Some v → lookup (is_at (cmp q)) (e ∷ es) ≡ Some v
      go true below g = behind (cmp q e.0) refl g
      go false below g = first (is_at (cmp q) e.0) below g

-- other values at the same keys
pub found_mapped : {K V : Type 0} (test : K → Bool) (new : V → V) (es : List (K × V)) → lookup test (map (λ (e : K × V). (e.0, new e.1)) es)
    ≡ option_map new (lookup test es)
found_mapped test new [] = refl
found_mapped {K} {V} test new (e ∷ es) = go (test e.0) (found_mapped test new es)
  where
    go : (b : Bool) → lookup test (map (λ (e : K × V). (e.0, new e.1)) es) ≡ option_map new (lookup test es)
        → cond b (Some (new e.1)) (lookup test (map (λ (e : K × V). (e.0, new e.1)) es)) ≡ option_map new (cond b (Some e.1) (lookup test es))
    go true below = refl
    go false below = below
