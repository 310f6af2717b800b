-- Where does a key belong in a list of entries in order?
use Rattle.std.specs.Prelude.{ℕ, zero, suc, ◌+◌, ◌*◌, ◌^◌, ◌≤◌, ◌<◌, ◌≡◌, Bool, true, false, List, [], ◌∷◌, length, cond}
use Rattle.std.specs.List.Sorted.{IsStrictlySortedBy}
use Rattle.std.specs.Map.{keys_of}
use Rattle.std.specs.Ordering.{nat_cmp}
use Rattle.std.specs.Cmp.Lexicographic.{slice_cmp}
use Rattle.std.specs.declared.cmp.Ordering.{Ordering}
use Rattle.std.specs.declared.cmp.Ordering.TheVariants.{Less, Equal, Greater}
use Rattle.hir_scope_table.specs.Entries.{any_value}
use Rattle.hir_scope_table.specs.Probe.{binary_digits}
use Rattle.hir_scope_table.specs.Slots.{NamedSlots, is_vacant}

-- the query is above the first so many keys
abbrev pub IsAboveFirst : {K E : Type 0} → (K → Ordering) → List (K × E) → ℕ → Type 0
IsAboveFirst compare es zero = Unit {0}
IsAboveFirst compare [] (suc i) = ⊥
IsAboveFirst compare (e ∷ es) (suc i) = (compare e.0 ≡ Greater) × IsAboveFirst compare es i

-- how the query compares with the key at a place, if there is one
abbrev pub ComparesAt : {K E : Type 0} → (K → Ordering) → List (K × E) → ℕ → Ordering → Type 0
ComparesAt compare [] i r = Unit {0}
ComparesAt compare (e ∷ es) zero r = compare e.0 ≡ r
ComparesAt compare (e ∷ es) (suc i) r = ComparesAt compare es i r

-- a query belongs at a place: it is above the keys before it, and is that of the entry there, or below it
pub record BelongsAt {K E : Type 0} (compare : K → Ordering) (es : List (K × E)) (i : ℕ) (found : Bool) : Type 0 where
  pub above : IsAboveFirst compare es i
  pub there : ComparesAt compare es i (cond found Equal Less)
  pub within : i ≤ length es
  pub inside : found ≡ true → i < length es

-- so many comparisons have halved a number to what is left of it
pub record HasHalved (n left count : ℕ) : Type 0 where
  pub halves : 2 ^ count * left ≤ n
  pub counted : count ≤ binary_digits n

-- the names of the entries are in order, each is there once, and each entry says something of its name
pub record IsKept {T V M : Type 0} (es : NamedSlots T V M) : Type 0 where
  pub ascends : IsStrictlySortedBy (slice_cmp nat_cmp) (keys_of es)
  pub says : any_value is_vacant es ≡ false
