-- What does a walk give from its beginning to its end?
use Rattle.std.specs.Prelude.{ℕ, List, Option}
use Rattle.std.specs.Cmp.Lexicographic.{slice_cmp}
use Rattle.std.specs.Iterator.{AlwaysYields}
use Rattle.std.specs.List.Sorted.{IsStrictlySortedBy}
use Rattle.std.specs.Map.{keys_of}
use Rattle.std.specs.Ordering.{nat_cmp}
use Rattle.hir_scope.specs.Scope.Entries.{entries_of, import_order, imports_of_scope}
use Rattle.hir_scope.specs.Scope.{ScopeValue}

-- wherever a walk stands, it gives the items that are left in order, and then none
pub record GivesItsList {S A B : Type 0} (steps : S → Option A → S → Type 0) (shown : A → B) (left : S → List B) : Type 0 where
  pub gives : (s : S) → AlwaysYields steps shown s (left s)

-- the names of a list by names come in order, each once
abbrev pub BindingsAscend : {X : Type 0} → List (List ℕ × X) → Type 0
BindingsAscend entries = IsStrictlySortedBy (slice_cmp nat_cmp) (keys_of entries)

-- the names of a scope come in order, each once
abbrev pub EntriesAscend : ScopeValue → Type 0
EntriesAscend scope = BindingsAscend (entries_of scope)

-- its imports come in order, each once
abbrev pub ImportsAscend : ScopeValue → Type 0
ImportsAscend scope = IsStrictlySortedBy import_order (imports_of_scope scope)
