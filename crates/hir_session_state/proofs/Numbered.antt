-- Lists of keys by number.
use Rattle.std.proofs.Common.{◌≡◌, ◌∙◌, ap, sym, refl, ℕ, zero, suc, ◌<◌, Bool, true, false, not, ◌&&◌, cond, nat_eq, Option, Some, None}
use Rattle.std.proofs.Common.{List, [], ◌∷◌, ◌++◌, length}
use Rattle.std.proofs.Common.{arith, slice_get, slice_set}
use Rattle.std.specs.Cmp.{unsigned_Decides}
use Rattle.std.specs.Map.{lookup}
use Rattle.std.specs.BTreeMap.{is_at}
use Rattle.hir_collector_rules.specs.declared.source_database.Key.{Key}
use Rattle.hir_collector_rules.specs.HirIds.declared.ids.MapId.{MapId}
use Rattle.hir_collector_rules.specs.contracts.source_database.KeyOrd.TheImpl as key_order
use Rattle.hir_session_state.specs.Askers.{KeyAskers, has_asked_at, is_in}
use Rattle.hir_session_state.specs.Types.{KeyPlaces}
use Rattle.std.proofs.lemmas.Bool.{eqb-false}
use Rattle.hir_session_state.proofs.Entering.{and-true}
use Rattle.hir_collector_rules.proofs.Lists.{get_set_same, get_set_other}

-- what stands in a list behind a write
pub set_at : {A : Type 0} (xs : List A) (i n : ℕ) (v : A) → i < length xs → slice_get (slice_set xs i v) n ≡ cond (nat_eq i n) (Some v) (slice_get xs n)
set_at xs i n v lt = go (nat_eq i n) refl
  where
    go : (b : Bool) → nat_eq i n ≡ b → slice_get (slice_set xs i v) n ≡ cond b (Some v) (slice_get xs n)
    go true e = ap (slice_get (slice_set xs i v)) (sym ((unsigned_Decides i n).0 e)) ∙ get_set_same xs i v lt
    go false e = get_set_other xs i n v (λ same. eqb-false i n e (sym same))

module _ {A : Type 0} (op : Bool → Bool → Bool) (none : (a : Bool) → op a false ≡ a) (f : Option A → Bool) (xs : List A) (at : ℕ) (w : A) (b : Bool)
    (within : at < length xs) (is : f (Some w) ≡ op (f (slice_get xs at)) b) where
  -- what is read of the values of a list changes at one number
  pub written_at : (n : ℕ) → f (slice_get (slice_set xs at w) n) ≡ op (f (slice_get xs n)) (nat_eq at n && b)
  written_at n = ap f (set_at xs at n w within) ∙ go (nat_eq at n) refl
    where
      go : (s : Bool) → nat_eq at n ≡ s → f (cond s (Some w) (slice_get xs n)) ≡ op (f (slice_get xs n)) (s && b)
      go true e = is ∙ ap (λ (m : ℕ). op (f (slice_get xs m)) b) ((unsigned_Decides at n).0 e)
      go false e = sym (none (f (slice_get xs n)))

-- behind the end of a list nothing stands
pub none_at : {A : Type 0} (xs : List A) (i : ℕ) → (i < length xs → ⊥) → slice_get xs i ≡ None
none_at [] i past = refl
none_at (x ∷ xs) zero past = absurd (past (omega arith))
none_at (x ∷ xs) (suc i) past = none_at xs i (λ lt. past (omega (arith, lt)))

-- nothing is taken out at a number at which nothing was asked for
pub absent_number : (has : ℕ → Bool) (at : ℕ) (b : Bool) → has at ≡ false → (n : ℕ) → has n ≡ (has n && not (nat_eq at n && b))
absent_number has at b gone n = go (nat_eq at n) refl
  where
    go : (s : Bool) → nat_eq at n ≡ s → has n ≡ (has n && not (s && b))
    go true e =
        let none : has n ≡ false = sym (ap has ((unsigned_Decides at n).0 e)) ∙ gone in
        none ∙ sym (ap (λ (a : Bool). a && not (true && b)) none)
    go false e = sym (and-true (has n))

-- one that is put behind a list, at which nothing was asked for, tells nothing new
pub pushed_none : (xs : List KeyAskers) (m : KeyAskers) → m.entries ≡ [] → (n : ℕ) (k : Key) (j : MapId)
    → has_asked_at (xs ++ m ∷ []) n k j ≡ has_asked_at xs n k j
pushed_none [] m empty zero k j = ap (λ (es : List (Key × KeyPlaces)). is_in (lookup (is_at (key_order.ghosts.cmp k)) es) j) empty
pushed_none [] m empty (suc n) k j = refl
pushed_none (x ∷ xs) m empty zero k j = refl
pushed_none (x ∷ xs) m empty (suc n) k j = pushed_none xs m empty n k j
