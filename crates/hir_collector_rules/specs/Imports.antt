-- Which imports does the walk find?
use Rattle.std.specs.Prelude.{◌==◌, ℕ, ◌&&◌, is_none, List, [], ◌∷◌, Option, None, Some, map, cond}
use Rattle.std.specs.Str.{bytes_eq}
use Rattle.hir_nameres.specs.HirBase.ModPath.{Path}
use Rattle.hir_nameres.specs.HirIds.declared.ids.Crate.{Crate}
use Rattle.hir_nameres.specs.HirIds.declared.ids.UseId.{UseId}
use Rattle.hir_nameres.specs.HirBase.declared.mod_path.PathKind.TheVariants as path_kinds
use Rattle.hir_item_tree.specs.Imports.{imports_of}
use Rattle.hir_use_tree.specs.declared.imports.Import.{Import}
use Rattle.hir_use_tree.specs.declared.imports.ImportAlias.{ImportAlias}
use Rattle.hir_item_tree.specs.KeptForest.{Head}
use Rattle.hir_item_tree.specs.UseTree.{UseTree}
use Rattle.hir_nameres.specs.HirBase.declared.shape.ExternCrateName.{ExternCrateName}
use Rattle.hir_nameres.specs.HirRawVisibility.declared.raw_visibility.RawVisibility.{RawVisibility}
use Rattle.hir_nameres.specs.HirBase.declared.shape.ExternCrateName.TheVariants.{SelfCrate, Name}
use Rattle.hir_nameres.specs.HirDefMapRules.Scoping.Start.{crate_root}
use Rattle.hir_nameres.specs.HirDefMapRules.State.{Local, Map, with_extern}
use Rattle.hir_import_rules.specs.declared.directive.ImportDirective.{ImportDirective}
use Rattle.hir_import_rules.specs.declared.directive.ImportSource.{ImportSource}
use Rattle.hir_import_rules.specs.declared.directive.ImportSource.TheVariants as sources
use Rattle.hir_import_rules.specs.Directives.{name_of}
use Rattle.hir_collector_rules.specs.declared.site.Site.{Site}
use Rattle.hir_collector_rules.specs.declared.source_database.Dependency.{Dependency}
use Rattle.hir_collector_rules.specs.ItemIds.{extern_crate_id, use_id}

-- one import of a `use` item of a module
abbrev pub reached_import : ℕ → UseId → RawVisibility → Import → ImportDirective
reached_import home by visibility i = record {
  home = home;
  source = sources.Use (record { use_ = by; idx = i.place }) i.kind;
  visibility = visibility;
  path = i.path;
  alias = i.alias;
}

-- the imports of a `use` item of a site
abbrev pub imports_by : Map → Site → Head → UseTree → List ImportDirective
imports_by m s head tree = map (reached_import s.home (use_id m s head.id) head.visibility) (imports_of tree)

-- the first crate of a name
abbrev pub dependency_named : List Dependency → List ℕ → Option Crate
dependency_named [] name = None
dependency_named (d ∷ rest) name = cond (bytes_eq d.name name) (Some d.krate) (dependency_named rest name)

-- the crate that an `extern crate` names: its own, or the first dependency of the name
abbrev pub crate_named : Crate → List Dependency → ExternCrateName → Option Crate
crate_named own dependencies SelfCrate = Some own
crate_named own dependencies (Name name) = dependency_named dependencies name

-- the path that it writes: `crate` for `self`, which gives no name, and otherwise the name alone
abbrev pub path_of_crate : ExternCrateName → Path
path_of_crate SelfCrate = record { kind = path_kinds.Crate; segments = [] }
path_of_crate (Name name) = record { kind = path_kinds.Plain; segments = name ∷ [] }

-- an `extern crate` of a site as an import
abbrev pub crate_import : Map → List Dependency → Site → Head → ExternCrateName → Option ImportAlias → ImportDirective
crate_import m dependencies s head name alias = record {
  home = s.home;
  source = sources.ExternCrate (extern_crate_id m s head.id) (crate_named m.id.krate dependencies name);
  visibility = head.visibility;
  path = path_of_crate name;
  alias = alias;
}

-- the crates that paths may begin with, and the one that an `extern crate` gives a name
abbrev pub extern_by : Local → ImportSource → Option (List ℕ) → Local
extern_by local (sources.Use id kind) name = local
extern_by local (sources.ExternCrate id None) name = local
extern_by local (sources.ExternCrate id (Some krate)) None = local
extern_by local (sources.ExternCrate id (Some krate)) (Some name) = with_extern local name (crate_root krate, Some id)

-- an `extern crate` of the crate's root module gives a crate its name there; the root of a block's map is none
abbrev pub extern_after : Map → Local → ImportDirective → Local
extern_after m local i = cond ((i.home == 0) && is_none m.id.block) (extern_by local i.source (name_of i)) local
