-- What does an import bring?
use Rattle.std.specs.Prelude.{◌≡◌, ◌==◌, ℕ, ◌-◌, length, Bool, true, false, ◌||◌, ◌&&◌, not, is_some, List, [], ◌∷◌, ◌++◌, Option, None, Some, map, option_map}
use Rattle.std.specs.Prelude.{unwrap_or, slice_get, cond}
use Rattle.hir_nameres.specs.HirBase.ModPath.{Path}
use Rattle.hir_nameres.specs.HirIds.declared.ids.AdtId.{AdtId}
use Rattle.hir_nameres.specs.HirIds.declared.ids.Crate.{Crate}
use Rattle.hir_nameres.specs.HirIds.declared.ids.MapId.{MapId}
use Rattle.hir_nameres.specs.HirIds.declared.ids.ModuleDefId.{ModuleDefId}
use Rattle.hir_nameres.specs.HirIds.declared.ids.ModuleId.{ModuleId}
use Rattle.hir_nameres.specs.HirBase.declared.mod_path.PathKind.{PathKind}
use Rattle.hir_nameres.specs.HirIds.declared.ids.TraitId.{TraitId}
use Rattle.hir_nameres.specs.HirIds.declared.ids.AdtId.TheVariants as adts
use Rattle.hir_nameres.specs.HirIds.declared.ids.ModuleDefId.TheVariants as definitions
use Rattle.hir_nameres.specs.HirBase.declared.mod_path.PathKind.TheVariants as path_kinds
use Rattle.hir_nameres.specs.HirIds.contracts.ids.MapIdPartialEq.TheImpl as map_id
use Rattle.hir_use_tree.specs.declared.imports.ImportAlias.{ImportAlias}
use Rattle.hir_use_tree.specs.declared.imports.ImportKind.{ImportKind}
use Rattle.hir_use_tree.specs.declared.imports.ImportAlias.TheVariants.{Underscore, Alias}
use Rattle.hir_use_tree.specs.declared.imports.ImportKind.TheVariants as kinds
use Rattle.hir_nameres.specs.HirPerNs.PerNs.{keep_of, Item}
use Rattle.hir_nameres.specs.HirPerNs.declared.imports.GlobId.{GlobId}
use Rattle.hir_nameres.specs.HirPerNs.declared.imports.ImportId.{ImportId}
use Rattle.hir_nameres.specs.HirPerNs.declared.imports.ImportOrExternCrate.{ImportOrExternCrate}
use Rattle.hir_nameres.specs.HirPerNs.declared.per_ns.PerNs.{PerNs}
use Rattle.hir_nameres.specs.HirPerNs.declared.visibility.Visibility.{Visibility}
use Rattle.hir_nameres.specs.HirPerNs.declared.imports.ImportOrExternCrate.TheVariants as ways
use Rattle.hir_nameres.specs.HirDefMapRules.Reaches.{by_import}
use Rattle.hir_nameres.specs.HirDefMapRules.Scoping.{Resolution, resolution_of}
use Rattle.hir_nameres.specs.HirDefMapRules.Scoping.Segments.{resolved, unresolved}
use Rattle.hir_nameres.specs.HirDefMapRules.Scoping.Start.{crate_root, module_bound}
use Rattle.hir_nameres.specs.HirDefMapRules.State.{Local, Map, numbered}
use Rattle.hir_nameres.specs.HirDefMapRules.Overlay.{Maps, overlay}
use Rattle.hir_nameres.specs.HirDefMapRules.declared.path_result.ReachedFixedPoint.TheVariants.{No}
use Rattle.hir_glob_imports.specs.declared.edge.Edge.{Edge}
use Rattle.hir_glob_imports.specs.declared.edge.Target.{Target}
use Rattle.hir_glob_imports.specs.declared.edge.Target.TheVariants as targets
use Rattle.hir_import_rules.specs.declared.directive.ImportDirective.{ImportDirective}
use Rattle.hir_import_rules.specs.declared.directive.ImportSource.{ImportSource}
use Rattle.hir_import_rules.specs.declared.directive.ImportSource.TheVariants as sources
use Rattle.hir_import_rules.specs.declared.namespaces.Namespaces.{Namespaces}
use Rattle.hir_import_rules.specs.Visibilities.{is_public, lesser_in, visibility_in}

-- ---- what an import writes

-- what an import is to those that it binds
abbrev pub way_of : ImportSource → ImportOrExternCrate
way_of (sources.Use id kind) = ways.Import id
way_of (sources.ExternCrate id krate) = ways.ExternCrate id

-- what it brings: an `extern crate` all that it reaches
abbrev pub kind_of : ImportSource → ImportKind
kind_of (sources.Use id kind) = kind
kind_of (sources.ExternCrate id krate) = kinds.Plain

-- the glob that a leaf of a `use` item is, if it is one
abbrev pub glob_by_kind : ImportId → ImportKind → Option GlobId
glob_by_kind id kinds.Plain = None
glob_by_kind id kinds.TypeOnly = None
glob_by_kind id kinds.Glob = Some (record { use_ = id.use_; idx = id.idx })

abbrev pub glob_of : ImportSource → Option GlobId
glob_of (sources.Use id kind) = glob_by_kind id kind
glob_of (sources.ExternCrate id krate) = None

-- the leaf of a `use` item that an import is, if it is one
abbrev pub leaf_of : ImportSource → Option ImportId
leaf_of (sources.Use id kind) = Some id
leaf_of (sources.ExternCrate id krate) = None

-- the last name of a path, if it has one
abbrev pub last_of : List (List ℕ) → Option (List ℕ)
last_of names = slice_get names (length names - 1)

-- the name that an import gives: its alias, or else the last name of its path
abbrev pub name_by : Option ImportAlias → List (List ℕ) → Option (List ℕ)
name_by (Some (Alias name)) segments = Some name
name_by (Some Underscore) segments = None
name_by None segments = last_of segments

abbrev pub name_of : ImportDirective → Option (List ℕ)
name_of i = name_by i.alias i.path.segments

-- whether an import keeps its trait without a name
abbrev pub is_unnamed : Option ImportAlias → Bool
is_unnamed (Some (Alias name)) = false
is_unnamed (Some Underscore) = true
is_unnamed None = false

-- whether a path is plain
abbrev pub is_plain : PathKind → Bool
is_plain path_kinds.Plain = true
is_plain _ = false

-- whether it is one name alone
abbrev pub is_one_name : Path → Bool
is_one_name path = is_plain path.kind && (length path.segments == 1)

-- ---- what its path reaches

-- what a path means that an import of the module names
unfoldable pub answer_in : Maps → Local → Map → ModuleId → Path → Resolution
answer_in finished local m at path = resolution_of (overlay finished m) (by_import local) at path

-- the answer to an import of this kind, where this is the one to its path: a glob binds nothing itself
abbrev pub answer_by_kind : ImportKind → Resolution → Resolution
answer_by_kind kinds.Plain answer = answer
answer_by_kind kinds.TypeOnly answer = answer
answer_by_kind kinds.Glob answer = unresolved No

-- the root of the crate that an `extern crate` names, which all may see
abbrev pub answer_of_crate : Option Crate → Resolution
answer_of_crate None = unresolved No
answer_of_crate (Some krate) = resolved (module_bound (crate_root krate))

-- the answer to an import of this source, where this is the one to its path
abbrev pub answer_by_source : ImportSource → Resolution → Resolution
answer_by_source (sources.Use id kind) answer = answer_by_kind kind answer
answer_by_source (sources.ExternCrate id krate) answer = answer_of_crate krate

-- the answer to its path
abbrev pub path_answer : Maps → Local → Map → ImportDirective → Resolution
path_answer finished local m i = answer_in finished local m (numbered m.id i.home) i.path

-- the answer to an import
abbrev pub answer_to : Maps → Local → Map → ImportDirective → Resolution
answer_to finished local m i = answer_by_source i.source (path_answer finished local m i)

-- what an import reaches
abbrev pub reached_by : Maps → Local → Map → ImportDirective → PerNs
reached_by finished local m i = (answer_to finished local m i).resolved_def

-- ---- what it takes of that

-- what may be taken of items: through another crate those alone that all may see
abbrev pub open_items : Bool → PerNs → PerNs
open_items crossing items = cond crossing (keep_of is_public items) items

-- what an import of this kind keeps of what it may take: `self` in a list keeps types alone
abbrev pub kept_by_kind : ImportKind → PerNs → PerNs
kept_by_kind kinds.Plain items = items
kept_by_kind kinds.TypeOnly items = record { types = items.types; values = None; macros = None }
kept_by_kind kinds.Glob items = items

-- what an import keeps of an answer
abbrev pub kept_of : ImportKind → Resolution → PerNs
kept_of kind answer = kept_by_kind kind (open_items answer.prefix_info.differing_crate answer.resolved_def)

-- what an import keeps of what it reaches
abbrev pub kept_by : Maps → Local → Map → ImportDirective → PerNs
kept_by finished local m i = kept_of (kind_of i.source) (answer_to finished local m i)

-- an item as an import offers it: with the lesser of its own visibility and the reached one, and with its own where they are unrelated
abbrev pub brought : {D I : Type 0} → Maps → Map → Visibility → Item D I → Item D I
brought finished m own i = record { def = i.def; vis = unwrap_or (lesser_in finished m own i.vis) own; import = i.import }

-- whether an `extern crate` bound an item
abbrev pub is_of_extern_crate : Option ImportOrExternCrate → Bool
is_of_extern_crate (Some (ways.ExternCrate id)) = true
is_of_extern_crate _ = false

-- the same of a type: with the import's own visibility where an `extern crate` bound it, and the import's path is its name alone
abbrev pub brought_type : Maps → Map → Visibility → Bool → Item ModuleDefId ImportOrExternCrate → Item ModuleDefId ImportOrExternCrate
brought_type finished m own alone i = cond (alone && is_of_extern_crate i.import) (record i { vis = own }) (brought finished m own i)

-- what an import of this visibility, whose path is one name alone or isn't, offers of what it reaches, each item with what had brought it
abbrev pub imported : Maps → Map → Visibility → Bool → PerNs → PerNs
imported finished m own alone items = record {
  types = option_map (brought_type finished m own alone) items.types;
  values = option_map (brought finished m own) items.values;
  macros = option_map (brought finished m own) items.macros;
}

-- the visibility that is written at an import
abbrev pub visibility_of : Maps → Local → Map → ImportDirective → Visibility
visibility_of finished local m i = visibility_in finished local m (numbered m.id i.home) i.visibility

-- what an import offers
abbrev pub offered_by : Maps → Local → Map → ImportDirective → PerNs
offered_by finished local m i = imported finished m (visibility_of finished local m i) (is_one_name i.path) (kept_by finished local m i)

-- the trait that a definition is, or that is bound, if it is one
abbrev pub trait_by : ModuleDefId → Option TraitId
trait_by (definitions.TraitId id) = Some id
trait_by _ = None

abbrev pub trait_among : Option (Item ModuleDefId ImportOrExternCrate) → Option TraitId
trait_among None = None
trait_among (Some item) = trait_by item.def

-- the trait that an import keeps without a name, if it does
abbrev pub kept_trait : Maps → Local → Map → ImportDirective → Option TraitId
kept_trait finished local m i = cond (is_unnamed i.alias) (trait_among (kept_by finished local m i).types) None

-- ---- namespaces

-- no namespace
abbrev pub no_namespaces : Namespaces
no_namespaces = record { types = false; values = false; macros = false }

-- the namespaces in which something is bound
abbrev pub namespaces_of : PerNs → Namespaces
namespaces_of items = record { types = is_some items.types; values = is_some items.values; macros = is_some items.macros }

-- the namespaces of both
abbrev pub both_of : Namespaces → Namespaces → Namespaces
both_of a b = record { types = a.types || b.types; values = a.values || b.values; macros = a.macros || b.macros }

-- each of the namespaces is among the others
pub record AreAmong (some all : Namespaces) : Type 0 where
  pub types : some.types ≡ true → all.types ≡ true
  pub values : some.values ≡ true → all.values ≡ true
  pub macros : some.macros ≡ true → all.macros ≡ true

-- there is no namespace
abbrev pub is_empty : Namespaces → Bool
is_empty a = not ((a.types || a.values) || a.macros)

-- one of the namespaces isn't among the others
abbrev pub goes_beyond : Namespaces → Namespaces → Bool
goes_beyond some all = ((some.types && not all.types) || (some.values && not all.values)) || (some.macros && not all.macros)

-- ---- what its takings reached

-- what the takings of an import reached
pub record TakenValue : Type 0 where
  -- the namespaces in which they reached something
  pub namespaces : Namespaces
  -- whether one of them was answered through another crate
  pub crossed : Bool
  -- of a glob, what it was taken for, in order
  pub targets : List Target

-- no taking
abbrev pub nothing_taken : TakenValue
nothing_taken = record { namespaces = no_namespaces; crossed = false; targets = [] }

-- of none of these imports a taking reached anything
abbrev pub not_taken : List ImportDirective → List TakenValue
not_taken imports = map (λ _. nothing_taken) imports

-- whether there are no targets
abbrev pub has_no_target : List Target → Bool
has_no_target [] = true
has_no_target (target ∷ others) = false

-- whether no taking reached anything
abbrev pub is_untaken : TakenValue → Bool
is_untaken t = is_empty t.namespaces && has_no_target t.targets

-- what takings reached, one with this answer among them
abbrev pub taken_after : TakenValue → Resolution → TakenValue
taken_after t answer = record {
  namespaces = both_of t.namespaces (namespaces_of answer.resolved_def);
  crossed = t.crossed || answer.prefix_info.differing_crate;
  targets = t.targets;
}

-- the same, one for this target among them
abbrev pub taken_for : TakenValue → Target → TakenValue
taken_for t target = record t { targets = t.targets ++ target ∷ [] }

-- ---- globs

-- a module as a glob names it: one of the map that is built by its number
abbrev pub target_at : MapId → ModuleId → Target
target_at own m = cond (map_id.ghosts.eq m.map own) (targets.Own m.index) (targets.Module m)

-- the enum that a definition is, if it is one
abbrev pub enum_by : AdtId → Option Target
enum_by (adts.EnumId id) = Some (targets.Enum id)
enum_by (adts.StructId id) = None
enum_by (adts.UnionId id) = None

-- the module or the enum that a definition is, if it is one
abbrev pub target_by : MapId → ModuleDefId → Option Target
target_by own (definitions.ModuleId m) = Some (target_at own m)
target_by own (definitions.AdtId adt) = enum_by adt
target_by own _ = None

abbrev pub target_among : MapId → Option (Item ModuleDefId ImportOrExternCrate) → Option Target
target_among own None = None
target_among own (Some item) = target_by own item.def

-- the module or the enum that the path of an import reaches, or at which it stops
abbrev pub target_of : Maps → Local → Map → ImportDirective → Option Target
target_of finished local m i = target_among m.id (path_answer finished local m i).resolved_def.types

-- the edge of a glob to a target
abbrev pub edge_to : Maps → Local → Map → ImportDirective → GlobId → Target → Edge
edge_to finished local m i by target = record { source = target; importer = i.home; id = by; vis = visibility_of finished local m i }
