-- What is handed in: the crates, and what each of their sources has.
use Rattle.std.specs.Prelude.{ℕ, nat_lt, Bool, List, [], Option, None, Some, filter, map, option_map, slice_get, unwrap_or}
use Rattle.hir_nameres.specs.HirBase.ModPath.{Path}
use Rattle.hir_nameres.specs.HirBase.declared.cfg.CfgAtom.{CfgAtom}
use Rattle.hir_nameres.specs.HirIds.declared.ids.Crate.{Crate}
use Rattle.hir_nameres.specs.HirIds.declared.edition.Edition.{Edition}
use Rattle.hir_item_tree.specs.Attributes.{Attributes, attributes_view}
use Rattle.hir_item_tree.specs.ItemTree.{Tree}
use Rattle.hir_item_tree.specs.SourceTree.{SourceTreeValue}
use Rattle.hir_nameres.specs.HirCrateGraph.Dependencies.{transitive_dependencies}
use Rattle.hir_tables.specs.SourcePlaces.{ExpansionValue, SourcePlaceValue}
use Rattle.hir_collector_rules.specs.declared.source_database.Config.{Config}
use Rattle.hir_collector_rules.specs.declared.source_database.CrateRoot.{CrateRoot}
use Rattle.hir_collector_rules.specs.declared.source_database.Dependency.{Dependency}
use Rattle.hir_collector_rules.specs.declared.source_database.ExpansionLook.{ExpansionLook}

-- what a crate was handed in with, its root aside
pub record ConfigValue : Type 0 where
  pub edition : Edition
  -- the attributes in front of those of its root
  pub attributes : Attributes
  -- the crates that it depends on, in the order in which they were handed in
  pub dependencies : List Dependency
  -- the options that are set
  pub options : List CfgAtom

-- the plain value of that
abbrev pub config_view : Config → ConfigValue
config_view c = record { edition = c.edition; attributes = attributes_view c.attributes.items; dependencies = c.dependencies.items; options = c.options }

-- what is seen of a source under a crate: whether it is there, and its items
pub record TreeLook : Type 0 where
  pub present : Bool
  pub tree : Tree

-- what is seen of what a source has
abbrev pub seen_of : SourceTreeValue → TreeLook
seen_of t = record { present = t.present; tree = t.tree }

-- an expansion: whether it is there, the error beside it, and the paths that its macro asks to have resolved first
pub record EntryLook : Type 0 where
  pub present : Bool
  pub error : Option (List ℕ)
  pub inner : List Path

-- the plain value of that
abbrev pub entry_look : ExpansionLook → EntryLook
entry_look e = record { present = e.present; error = option_map (λ text. text.now) e.error; inner = unwrap_or (option_map (λ paths. paths.now) e.inner) [] }

-- the crates by number; what a source has under each crate; expansions
pub record Workspace : Type 0 where
  pub crates : List CrateRoot
  -- none of a crate that isn't there
  pub config : Crate → Option ConfigValue
  pub tree : Crate → SourcePlaceValue → SourceTreeValue
  pub entry : ExpansionValue → EntryLook

-- the crate of a number
abbrev pub crate_in : Workspace → Crate → Option CrateRoot
crate_in w krate = slice_get w.crates krate.0

-- what a crate depends on; nothing where it isn't there
abbrev pub dependencies_of : Option ConfigValue → List Dependency
dependencies_of None = []
dependencies_of (Some c) = c.dependencies

abbrev pub dependencies_in : Workspace → Crate → List Dependency
dependencies_in w krate = dependencies_of (w.config krate)

-- the options that are set in it
abbrev pub options_of : Option ConfigValue → List CfgAtom
options_of None = []
options_of (Some c) = c.options

-- the crates that it names as dependencies
abbrev pub named_by : (Crate → Option ConfigValue) → ℕ → List Crate
named_by config k = map (λ (d : Dependency). d.krate) (dependencies_of (config (record { 0 = k })))

-- those of some crates that come before one
abbrev pub earlier : ℕ → List Crate → List Crate
earlier k crates = filter (λ (c : Crate). nat_lt c.0 k) crates

-- the crates on which each depends directly, by number; a crate depends only on such as come before it
abbrev pub direct_by : (Crate → Option ConfigValue) → ℕ → List Crate
direct_by config k = earlier k (named_by config k)

-- the crates on which a crate depends, directly or through others, by number
abbrev pub transitive_by : (Crate → Option ConfigValue) → Crate → List Crate
transitive_by config krate = transitive_dependencies (direct_by config) krate.0

abbrev pub direct_in : Workspace → ℕ → List Crate
direct_in w = direct_by w.config

abbrev pub transitive_dependencies_in : Workspace → Crate → List Crate
transitive_dependencies_in w krate = transitive_by w.config krate
