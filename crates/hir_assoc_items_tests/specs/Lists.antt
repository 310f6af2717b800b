-- Which sources are there?
use Rattle.std.specs.Prelude.{ℕ, List, [], Option, Some, None, is_some, option_map}
use Rattle.std.specs.BTreeMap.{is_at}
use Rattle.std.specs.Cmp.Lexicographic.{slice_cmp}
use Rattle.std.specs.Map.{lookup}
use Rattle.std.specs.Ordering.{nat_cmp}
use Rattle.hir_item_tree.specs.Source.{SourceValue, source_view}
use Rattle.hir_item_tree.specs.declared.source.Source.{Source}
use Rattle.hir_tables.specs.SourcePlaces.{ExpansionValue, SourcePlaceValue, file, block, expansion}
use Rattle.hir_collector_rules.specs.Workspace.{EntryLook}

-- what is kept by the input of a call
abbrev pub by_input : {A : Type 0} → List (List ℕ × A) → ExpansionValue → Option A
by_input entries key = lookup (is_at (slice_cmp nat_cmp key.input)) entries

-- the source at a place: each file has the same, and no block has one
abbrev pub source_in : Source → List (List ℕ × Source) → SourcePlaceValue → Option SourceValue
source_in written expanded (file path) = Some (source_view written)
source_in written expanded (block place) = None
source_in written expanded (expansion key) = option_map source_view (by_input expanded key)

-- what is seen of an expansion beside its items
abbrev pub look_in : List (List ℕ × Source) → List (List ℕ × List ℕ) → ExpansionValue → EntryLook
look_in expanded errors key = record { present = is_some (by_input expanded key); error = by_input errors key; inner = [] }
