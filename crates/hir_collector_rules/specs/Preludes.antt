-- Which names do all modules of a crate find?
use Rattle.std.specs.Prelude.{ℕ, Bool, ◌||◌, ◌&&◌, not, is_some, List, [], ◌∷◌, codes, Option, Some, None, cond}
use Rattle.std.specs.Option.{option_and_then}
use Rattle.std.specs.Str.{bytes_eq}
use Rattle.hir_nameres.specs.HirBase.ModPath.{Path}
use Rattle.hir_nameres.specs.HirIds.declared.edition.Edition.{Edition}
use Rattle.hir_nameres.specs.HirIds.declared.ids.ModuleDefId.{ModuleDefId}
use Rattle.hir_nameres.specs.HirIds.declared.ids.ModuleId.{ModuleId}
use Rattle.hir_nameres.specs.HirIds.declared.ids.UseId.{UseId}
use Rattle.hir_nameres.specs.HirIds.declared.edition.Edition.TheVariants as editions
use Rattle.hir_nameres.specs.HirIds.declared.ids.ModuleDefId.TheVariants as definitions
use Rattle.hir_nameres.specs.HirBase.declared.mod_path.PathKind.TheVariants.{Abs}
use Rattle.hir_nameres.specs.HirPerNs.Imports.{use_of}
use Rattle.hir_nameres.specs.HirPerNs.declared.imports.ImportOrExternCrate.{ImportOrExternCrate}
use Rattle.hir_nameres.specs.HirPerNs.PerNs.{Item}
use Rattle.hir_nameres.specs.HirDefMapRules.State.{CrateData, Local, Map, at_name, with_extern, root_of}
use Rattle.hir_nameres.specs.HirDefMapRules.Overlay.{Maps, overlay}
use Rattle.hir_nameres.specs.HirDefMapRules.Scoping.{resolution_of}
use Rattle.hir_nameres.specs.HirDefMapRules.Scoping.Asking.{Asking}
use Rattle.hir_nameres.specs.HirDefMapRules.Scoping.Start.{crate_root}
use Rattle.hir_nameres.specs.HirDefMapRules.declared.path_result.ResolveMode.TheVariants as modes
use Rattle.hir_nameres.specs.HirBase.declared.resolve_mode.BuiltinShadowMode.TheVariants as shadow_modes
use Rattle.hir_collector_rules.specs.declared.source_database.Dependency.{Dependency}
use Rattle.hir_collector_rules.specs.Macros.{macros_beside, with_macros_used}

-- ---- the crates that paths may begin with

-- whether a crate of this name is kept away: `std` from one without the standard library, `core` from one without that
abbrev pub is_kept_away : CrateData → List ℕ → Bool
is_kept_away crate_data name =
    ((crate_data.no_std || crate_data.no_core) && bytes_eq name (codes "std")) || (crate_data.no_core && bytes_eq name (codes "core"))

-- whether a dependency joins those that paths may begin with: of one name the first
abbrev pub joins : CrateData → Local → Dependency → Bool
joins crate_data local d = (d.is_prelude && not (is_kept_away crate_data d.name)) && not (is_some (at_name local d.name))

abbrev pub with_dependency : CrateData → Local → Dependency → Local
with_dependency crate_data local d = cond (joins crate_data local d) (with_extern local d.name (crate_root d.krate, None)) local

-- the dependencies that paths may begin with, beside those before
abbrev pub extern_prelude : CrateData → Local → List Dependency → Local
extern_prelude crate_data local [] = local
extern_prelude crate_data local (d ∷ rest) = extern_prelude crate_data (with_dependency crate_data local d) rest

-- ---- the prelude module

-- the crate whose prelude it is: `std`, which is kept away from a crate without the standard library, or else `core`
abbrev pub prelude_crate : Local → List ℕ
prelude_crate local = cond (is_some (at_name local (codes "std"))) (codes "std") (codes "core")

-- the module of an edition
abbrev pub edition_module : Edition → List ℕ
edition_module editions.Edition2015 = codes "rust_2015"
edition_module editions.Edition2018 = codes "rust_2018"
edition_module editions.Edition2021 = codes "rust_2021"
edition_module editions.Edition2024 = codes "rust_2024"

abbrev pub prelude_path : Edition → Local → Path
prelude_path edition local = record { kind = Abs; segments = prelude_crate local ∷ codes "prelude" ∷ edition_module edition ∷ [] }

-- how it is asked for
abbrev pub by_prelude : Local → Asking
by_prelude local = record { local = local; mode = modes.Other; shadow = shadow_modes.Other; sub_ns = None }

-- a module that a path led to, and the `use` that brought it, if one did
abbrev pub module_by : Option ImportOrExternCrate → ModuleDefId → Option (ModuleId × Option UseId)
module_by import (definitions.ModuleId m) = Some (m, option_and_then use_of import)
module_by import _ = None

abbrev pub module_of : Option (Item ModuleDefId ImportOrExternCrate) → Option (ModuleId × Option UseId)
module_of None = None
module_of (Some item) = module_by item.import item.def

-- the module that a path names, asked for from a crate's root
unfoldable pub module_named : Maps → Map → Local → Path → Option (ModuleId × Option UseId)
module_named finished m local path = module_of (resolution_of (overlay finished m) (by_prelude local) (root_of m.id) path).resolved_def.types

-- the prelude module of a crate; none without the core library
abbrev pub prelude_of : Maps → Map → Local → Option (ModuleId × Option UseId)
prelude_of finished m local = cond m.crate_data.no_core None (module_named finished m local (prelude_path m.crate_data.edition local))

-- the map with the macros that come with its prelude, which no `extern crate` brings
abbrev pub with_prelude_macros : Maps → Map → Map
with_prelude_macros finished m = with_macros_used m (macros_beside finished m.id.krate m.prelude) None
