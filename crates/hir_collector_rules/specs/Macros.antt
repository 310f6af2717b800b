-- What do macros stand for, where are they in textual scope, and which macros of other crates does a crate use?
use Rattle.std.specs.Prelude.{ℕ, Bool, true, false, ◌&&◌, not, is_none, List, [], ◌∷◌, ◌++◌, codes, Option, None, Some, cond}
use Rattle.std.specs.List.{list_any}
use Rattle.std.specs.Option.{option_and_then}
use Rattle.hir_nameres.specs.HirIds.declared.ids.Crate.{Crate}
use Rattle.hir_nameres.specs.HirIds.declared.ids.ExternCrateId.{ExternCrateId}
use Rattle.hir_nameres.specs.HirIds.declared.macro_kind.MacroId.{MacroId}
use Rattle.hir_nameres.specs.HirIds.declared.ids.ModuleId.{ModuleId}
use Rattle.hir_nameres.specs.HirIds.declared.ids.UseId.{UseId}
use Rattle.hir_nameres.specs.HirIds.declared.ids.ModuleDefId.TheVariants as definitions
use Rattle.hir_item_tree.specs.Attributes.{Input, literal, parentheses, derive, paths, tokens}
use Rattle.hir_item_tree.specs.Collected.{Collected, Numbered}
use Rattle.hir_item_tree.specs.KeptForest.{Head}
use Rattle.hir_nameres.specs.HirBase.declared.shape.ExternCrateName.{ExternCrateName}
use Rattle.hir_nameres.specs.HirBase.declared.shape.ExternCrateName.TheVariants.{SelfCrate, Name}
use Rattle.hir_nameres.specs.HirTextualScope.Macros.{with_macro}
use Rattle.hir_nameres.specs.HirTextualScope.declared.textual_scope.TextualMacro.{TextualMacro}
use Rattle.hir_nameres.specs.HirScope.Entries.{item_at}
use Rattle.hir_nameres.specs.HirPerNs.ModuleTree.{same_crate}
use Rattle.hir_nameres.specs.HirPerNs.PerNs.{Item, macros_only}
use Rattle.hir_nameres.specs.HirScope.Scope.{ScopeValue}
use Rattle.hir_nameres.specs.HirPerNs.declared.imports.ImportOrExternCrate.{ImportOrExternCrate}
use Rattle.hir_nameres.specs.HirPerNs.declared.visibility.Visibility.{Visibility}
use Rattle.hir_nameres.specs.HirDefMapRules.Overlay.{Maps, map_in}
use Rattle.hir_nameres.specs.HirDefMapRules.State.{Map, crate_map, scope_at, with_name, with_scope}
use Rattle.hir_import_rules.specs.Visibilities.{is_public}
use Rattle.hir_collector_rules.specs.declared.declaration.Declaration.{Declaration}
use Rattle.hir_collector_rules.specs.declared.source_database.Dependency.{Dependency}
use Rattle.hir_collector_rules.specs.CrateTop.{is_keyed, listed_under, says}
use Rattle.hir_collector_rules.specs.Imports.{dependency_named}

-- ---- what a name stands for

-- a macro that was declared, and not imported
abbrev pub macro_declaration : List ℕ → MacroId → Visibility → Declaration
macro_declaration name makro vis = record { name = name; def = definitions.MacroId makro; items = macros_only makro vis None }

-- whether `macro_rules` binds its macro at the root of the map too, as a public one
abbrev pub is_exported : Collected → Bool
is_exported attributes = says (codes "macro_export") attributes.attributes

-- ---- textual scope

-- whether the macros that are in textual scope at the end of a module stay so behind it
abbrev pub is_macro_use : Collected → Bool
is_macro_use attributes = says (codes "macro_use") attributes.attributes

-- the macros in textual scope in a scope, where it is there
abbrev pub textual_in : Option ScopeValue → List TextualMacro
textual_in None = []
textual_in (Some s) = s.legacy_macros

abbrev pub textual_at : Map → ℕ → List TextualMacro
textual_at m home = textual_in (scope_at m home)

-- the map with one macro more in textual scope in a module, the last of its name
abbrev pub with_textual_macro : Map → ℕ → List ℕ → MacroId → Map
with_textual_macro m home name makro = with_scope m home (λ (s : ScopeValue). record s { legacy_macros = with_macro s.legacy_macros name makro })

-- the map with these macros in textual scope in a module
abbrev pub with_textual_scope : Map → ℕ → List TextualMacro → Map
with_textual_scope m home macros = with_scope m home (λ (s : ScopeValue). record s { legacy_macros = macros })

-- ---- macros of other crates

-- a macro of a name, if it is public
abbrev pub public_one : List ℕ → Item MacroId ImportOrExternCrate → List (List ℕ × MacroId)
public_one name i = cond (is_public i.vis) ((name, i.def) ∷ []) []

-- the public ones among macros by name
abbrev pub public_among : List (List ℕ × Item MacroId ImportOrExternCrate) → List (List ℕ × MacroId)
public_among [] = []
public_among (e ∷ es) = public_one e.0 e.1 ++ public_among es

-- the same of one that there may be
abbrev pub public_named : List ℕ → Option (Item MacroId ImportOrExternCrate) → List (List ℕ × MacroId)
public_named name None = []
public_named name (Some i) = public_one name i

-- those of these names
abbrev pub public_at : List (List ℕ × Item MacroId ImportOrExternCrate) → List (List ℕ) → List (List ℕ × MacroId)
public_at macros [] = []
public_at macros (name ∷ names) = public_named name (item_at macros name) ++ public_at macros names

-- whether an attribute lists names
abbrev pub lists_names : Option Input → Bool
lists_names None = false
lists_names (Some (literal text)) = false
lists_names (Some (parentheses (paths ps))) = true
lists_names (Some (parentheses (tokens text))) = false
lists_names (Some (parentheses (derive name helpers))) = false

-- whether some `macro_use` lists none
abbrev pub wants_all : List Numbered → Bool
wants_all attributes = list_any (λ (a : Numbered). is_keyed (codes "macro_use") a && not (lists_names a.meta.input)) attributes

-- of a crate's macros, those that the `macro_use` attributes of an `extern crate` bring: the public ones, or those of the names that are listed
abbrev pub wanted_among : List Numbered → List (List ℕ × Item MacroId ImportOrExternCrate) → List (List ℕ × MacroId)
wanted_among attributes macros = cond (wants_all attributes) (public_among macros) (public_at macros (listed_under (codes "macro_use") attributes))

-- what the root of a crate binds, where its map is there
abbrev pub root_scope : Maps → Crate → Option ScopeValue
root_scope finished krate = option_and_then (λ (m : Map). scope_at m 0) (map_in finished (crate_map krate))

-- the same of the crate that an `extern crate` names, if it is another one
abbrev pub other_scope : Maps → List Dependency → ExternCrateName → Option ScopeValue
other_scope finished dependencies SelfCrate = None
other_scope finished dependencies (Name name) = option_and_then (root_scope finished) (dependency_named dependencies name)

abbrev pub wanted_in : List Numbered → Option ScopeValue → List (List ℕ × MacroId)
wanted_in attributes None = []
wanted_in attributes (Some s) = wanted_among attributes s.macros

-- the macros that an `extern crate` brings into the macro-use prelude of a crate's map; into a block's it brings none
abbrev pub macros_brought : Maps → Map → List Dependency → Head → ExternCrateName → List (List ℕ × MacroId)
macros_brought finished m dependencies head name =
    cond (is_none m.id.block) (wanted_in head.attributes.attributes (other_scope finished dependencies name)) []

abbrev pub public_in : Option ScopeValue → List (List ℕ × MacroId)
public_in None = []
public_in (Some s) = public_among s.macros

-- the macros that come with a prelude module: the public ones of its crate, if that is another one
abbrev pub macros_beside : Maps → Crate → Option (ModuleId × Option UseId) → List (List ℕ × MacroId)
macros_beside finished own None = []
macros_beside finished own (Some found) = cond (same_crate found.0.map.krate own) [] (public_in (root_scope finished found.0.map.krate))

-- a macro-use prelude with more macros, each in place of an earlier one of its name
abbrev pub with_used : List (List ℕ × (MacroId × Option ExternCrateId)) → List (List ℕ × MacroId) → Option ExternCrateId
    → List (List ℕ × (MacroId × Option ExternCrateId))
with_used prelude [] by = prelude
with_used prelude (e ∷ es) by = with_used (with_name prelude e.0 (e.1, by)) es by

-- the map with more macros in its macro-use prelude
abbrev pub with_macros_used : Map → List (List ℕ × MacroId) → Option ExternCrateId → Map
with_macros_used m macros by = record m { macro_use_prelude = with_used m.macro_use_prelude macros by }
