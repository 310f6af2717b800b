-- What do lists of entries in the order of their keys hold?
use Rattle.std.specs.Prelude.{ℕ, Bool, List, Option, None, Some, is_some, cond}
use Rattle.std.specs.BTreeMap.{is_at, insert_entry}
use Rattle.std.specs.List.{list_any}
use Rattle.std.specs.Map.{lookup, set_value}
use Rattle.std.specs.Ordering.{nat_cmp}
use Rattle.std.specs.Cmp.Lexicographic.{slice_cmp}
use Rattle.std.specs.declared.cmp.Ordering.{Ordering}

-- the value at a key of a list of entries
abbrev pub value_at : {K V : Type 0} → (K → K → Ordering) → List (K × V) → K → Option V
value_at cmp entries key = lookup (is_at (cmp key)) entries

-- whether a key has a value
abbrev pub has_key : {K V : Type 0} → (K → K → Ordering) → List (K × V) → K → Bool
has_key cmp entries key = is_some (value_at cmp entries key)

-- the entries with a value at a key: where the key is, it takes the value, and else it goes to its place in the order
abbrev pub with_entry : {K V : Type 0} → (K → K → Ordering) → List (K × V) → K → V → List (K × V)
with_entry cmp entries key value = cond (has_key cmp entries key) (set_value (is_at (cmp key)) entries value) (insert_entry cmp entries key value)

-- the entries with one more, if there is one
abbrev pub with_some_entry : {K V : Type 0} → (K → K → Ordering) → List (K × V) → Option (K × V) → List (K × V)
with_some_entry cmp entries None = entries
with_some_entry cmp entries (Some entry) = with_entry cmp entries entry.0 entry.1

-- whether a list has a key
abbrev pub has_value : {K : Type 0} → (K → K → Ordering) → List K → K → Bool
has_value cmp keys key = list_any (is_at (cmp key)) keys

-- what a name stands for in a list by names
abbrev pub item_at : {X : Type 0} → List (List ℕ × X) → List ℕ → Option X
item_at entries name = lookup (is_at (slice_cmp nat_cmp name)) entries

-- whether a test holds of some value
abbrev pub any_value : {K V : Type 0} → (V → Bool) → List (K × V) → Bool
any_value test entries = list_any (λ entry. test entry.1) entries
