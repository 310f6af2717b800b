-- Which crates and files are there?
use Rattle.std.specs.Prelude.{◌≡◌, List, ℕ, Option, Some, None, option_map, slice_get}
use Rattle.std.specs.BTreeMap.{is_at}
use Rattle.std.specs.Cmp.Lexicographic.{slice_cmp}
use Rattle.std.specs.Map.{lookup}
use Rattle.std.specs.Ordering.{nat_cmp}
use Rattle.hir_ids.specs.declared.ids.Crate.{Crate}
use Rattle.hir_item_tree.specs.Source.{SourceValue, source_view}
use Rattle.hir_item_tree.specs.declared.source.Source.{Source}
use Rattle.hir_tables.specs.SourcePlaces.{SourcePlaceValue, file, block, expansion}
use Rattle.hir_collector_rules.specs.Workspace.{ConfigValue, config_view, transitive_by}
use Rattle.hir_collector_rules.specs.declared.source_database.Config.{Config}

-- the source at a place, if it is that of a file that is there; each block has the same
abbrev pub source_in : List (List ℕ × Source) → Option Source → SourcePlaceValue → Option SourceValue
source_in files within (file path) = option_map source_view (lookup (is_at (slice_cmp nat_cmp path)) files)
source_in files within (block place) = option_map source_view within
source_in files within (expansion key) = None

-- what a crate was handed in with
abbrev pub config_in : List Config → Crate → Option ConfigValue
config_in configs krate = option_map config_view (slice_get configs krate.0)

-- the lists are the transitive dependencies of the crates
abbrev pub AreTheirs : List Config → List (List Crate) → Type 0
AreTheirs configs transitive =
    (krate : Crate) → slice_get transitive krate.0 ≡ option_map (λ _. transitive_by (config_in configs) krate) (config_in configs krate)
