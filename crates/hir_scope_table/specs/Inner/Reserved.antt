-- What is added to a map or a set before anything is written?
use Rattle.std.specs.Prelude.{◌≡◌, Bool, false, not, ◌&&◌, List, Option, None, Some, cond}
use Rattle.std.specs.BTreeMap.{insert_entry}
use Rattle.std.specs.BTreeSet.{insert_key}
use Rattle.std.specs.declared.cmp.Ordering.{Ordering}
use Rattle.hir_scope_table.specs.Entries.{has_key, has_value}

-- the entries with an entry whose key wasn't there
abbrev pub with_absent : {K V : Type 0} → (K → K → Ordering) → List (K × V) → Option (K × V) → List (K × V)
with_absent cmp entries None = entries
with_absent cmp entries (Some entry) = cond (has_key cmp entries entry.0) entries (insert_entry cmp entries entry.0 entry.1)

-- whether an entry has to be added to have a key
abbrev pub needs_entry : {K V : Type 0} → (K → K → Ordering) → List (K × V) → Option (K × V) → Bool
needs_entry cmp entries None = false
needs_entry cmp entries (Some entry) = not (has_key cmp entries entry.0)

-- later entries are earlier ones with an entry, which was added or whose key was there
pub record IsEntryFor {K V : Type 0} (cmp : K → K → Ordering) (earlier : List (K × V)) (entry : Option (K × V)) (added : Bool) (later : List (K × V)) : Type
    0 where
  pub made : later ≡ with_absent cmp earlier entry
  pub was_absent : added ≡ needs_entry cmp earlier entry

-- later keys are earlier ones with a key, if it is wanted, which was added or was there
pub record IsKeyFor {K : Type 0} (cmp : K → K → Ordering) (earlier : List K) (key : K) (wanted added : Bool) (later : List K) : Type 0 where
  pub made : later ≡ cond added (insert_key cmp earlier key) earlier
  pub was_absent : added ≡ (wanted && not (has_value cmp earlier key))
