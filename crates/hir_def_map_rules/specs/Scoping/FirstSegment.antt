-- What does the first segment of a path name in a module?
use Rattle.std.specs.Prelude.{◌==◌, ℕ, ◌-◌, List, [], ◌∷◌, length, Bool, true, false, ◌&&◌, ◌||◌, is_some, Option, None, Some, cond, slice_get, option_and_then}
use Rattle.std.specs.Prelude.{option_map}
use Rattle.hir_scope.specs.HirIds.BuiltinType.{builtin_named}
use Rattle.hir_scope.specs.HirIds.MacroKind.{styles_of}
use Rattle.hir_scope.specs.HirIds.declared.builtin_type.BuiltinType.{BuiltinType as AnyBuiltin}
use Rattle.hir_base.specs.declared.resolve_mode.BuiltinShadowMode.{BuiltinShadowMode}
use Rattle.hir_scope.specs.HirIds.declared.ids.ExternCrateId.{ExternCrateId}
use Rattle.hir_scope.specs.HirIds.declared.macro_kind.MacroId.{MacroId}
use Rattle.hir_base.specs.declared.resolve_mode.MacroSubNs.{MacroSubNs}
use Rattle.hir_scope.specs.HirIds.declared.ids.ModuleDefId.{ModuleDefId}
use Rattle.hir_scope.specs.HirIds.declared.ids.UseId.{UseId}
use Rattle.hir_scope.specs.HirIds.declared.ids.ModuleId.{ModuleId as AnyModule}
use Rattle.hir_scope.specs.HirIds.declared.ids.ModuleDefId.TheVariants.{ModuleId, BuiltinType}
use Rattle.hir_scope.specs.HirPerNs.declared.imports.ImportOrExternCrate.{ImportOrExternCrate}
use Rattle.hir_scope.specs.HirPerNs.declared.per_ns.PerNs.{PerNs}
use Rattle.hir_scope.specs.HirPerNs.declared.imports.ImportOrExternCrate.TheVariants as ways
use Rattle.hir_scope.specs.HirPerNs.PerNs.{Item, nothing, types_only, macros_only, or_of}
use Rattle.hir_scope.specs.HirPerNs.declared.visibility.Visibility.TheVariants.{Public}
use Rattle.hir_scope.specs.Scope.Reads.{last_legacy_at}
use Rattle.hir_def_map_rules.specs.State.{Local, Map, ModuleValue, at_name, crate_root}
use Rattle.hir_def_map_rules.specs.Overlay.{Maps, entry_in, map_in, module_in}
use Rattle.hir_base.specs.declared.resolve_mode.BuiltinShadowMode.TheVariants as shadow_modes
use Rattle.hir_base.specs.declared.resolve_mode.MacroSubNs.TheVariants.{Bang, Attr}

-- ---- styles of macros

-- whether a macro may be asked for in a style
abbrev pub fits : Option MacroSubNs → MacroId → Bool
fits None makro = true
fits (Some Bang) makro = (styles_of makro).fn_like
fits (Some Attr) makro = (styles_of makro).attr || (styles_of makro).derive

abbrev pub keep_fitting : Option MacroSubNs → Option (Item MacroId ImportOrExternCrate) → Option (Item MacroId ImportOrExternCrate)
keep_fitting sub_ns None = None
keep_fitting sub_ns (Some item) = cond (fits sub_ns item.def) (Some item) None

-- the items, a macro only if it may be asked for in the style
abbrev pub of_style : Option MacroSubNs → PerNs → PerNs
of_style sub_ns items = record items { macros = keep_fitting sub_ns items.macros }

-- ---- the places where a name is looked for

-- a macro in textual scope, which all may see
abbrev pub legacy_bound : Option MacroSubNs → Option MacroId → PerNs
legacy_bound sub_ns None = nothing
legacy_bound sub_ns (Some makro) = cond (fits sub_ns makro) (macros_only makro Public None) nothing

-- the last of the macros of a name that are in textual scope in a module
abbrev pub legacy_of : Option ModuleValue → List ℕ → Option MacroId
legacy_of None name = None
legacy_of (Some m) name = last_legacy_at m.scope name

-- it, where its style is asked for
abbrev pub legacy_name : Maps → Option MacroSubNs → AnyModule → List ℕ → PerNs
legacy_name maps sub_ns at name = legacy_bound sub_ns (legacy_of (module_in maps at) name)

-- what the scope of the module has
abbrev pub scope_name : Maps → Option MacroSubNs → AnyModule → List ℕ → PerNs
scope_name maps sub_ns at name = of_style sub_ns (entry_in maps at name)

-- a builtin type, which all may see
abbrev pub builtin_bound : Option AnyBuiltin → PerNs
builtin_bound None = nothing
builtin_bound (Some b) = types_only (BuiltinType b) Public None

-- the builtin type of a name; the map of a block has none
unfoldable pub builtin_name : AnyModule → List ℕ → PerNs
builtin_name at name = cond (is_some at.map.block) nothing (builtin_bound (builtin_named name))

-- a crate's root that a path may begin with, which all may see, by the `extern crate` that names it
abbrev pub extern_bound : Option (AnyModule × Option ExternCrateId) → PerNs
extern_bound None = nothing
extern_bound (Some entry) = types_only (ModuleId entry.0) Public (option_map ways.ExternCrate entry.1)

-- the crate of a name
abbrev pub extern_name : Local → List ℕ → PerNs
extern_name local name = extern_bound (at_name local name)

-- a macro of a `macro_use` prelude, which all may see, by the `extern crate` that brought it
abbrev pub macro_use_bound : Option (MacroId × Option ExternCrateId) → PerNs
macro_use_bound None = nothing
macro_use_bound (Some entry) = macros_only entry.0 Public (option_map ways.ExternCrate entry.1)

abbrev pub macro_use_of : Option Map → List ℕ → Option (MacroId × Option ExternCrateId)
macro_use_of None name = None
macro_use_of (Some map) name = at_name map.macro_use_prelude name

-- what the `macro_use` prelude of a module's map has
abbrev pub macro_use_name : Maps → AnyModule → List ℕ → PerNs
macro_use_name maps at name = macro_use_bound (macro_use_of (map_in maps at.map) name)

abbrev pub prelude_of : Option Map → Option (AnyModule × Option UseId)
prelude_of None = None
prelude_of (Some map) = map.prelude

abbrev pub prelude_bound : Maps → Option (AnyModule × Option UseId) → List ℕ → PerNs
prelude_bound maps None name = nothing
prelude_bound maps (Some prelude) name = entry_in maps prelude.0 name

-- what the prelude module of a module's map has
abbrev pub prelude_name : Maps → AnyModule → List ℕ → PerNs
prelude_name maps at name = prelude_bound maps (prelude_of (map_in maps at.map)) name

-- ---- joined

-- whether a definition is a module
abbrev pub is_module : ModuleDefId → Bool
is_module (ModuleId m) = true
is_module _ = false

-- whether a type is a module
abbrev pub names_module : Option (Item ModuleDefId ImportOrExternCrate) → Bool
names_module None = false
names_module (Some item) = is_module item.def

-- what a scope has comes before a builtin type; in mode Other a module comes after it
abbrev pub with_builtin : BuiltinShadowMode → PerNs → PerNs → PerNs
with_builtin shadow_modes.Module scope builtin = or_of scope builtin
with_builtin shadow_modes.Other scope builtin = cond (names_module scope.types) (or_of builtin scope) (or_of scope builtin)

-- the mode in which a first segment is looked up: where others follow, a module is wanted
abbrev pub shadow_before : List (List ℕ) → BuiltinShadowMode → BuiltinShadowMode
shadow_before [] shadow = shadow
shadow_before (segment ∷ others) shadow = shadow_modes.Module

-- the root of a block's map
abbrev pub is_block_root : AnyModule → Bool
is_block_root m = is_some m.map.block && (m.index == 0)

-- a block's root asks neither the extern prelude nor the prelude module
abbrev pub unless_block_root : AnyModule → PerNs → PerNs
unless_block_root at names = cond (is_block_root at) nothing names

-- what a name stands for where it is the first of a path: a macro in textual scope, what the scope has or a
-- builtin type, a crate, a macro of the `macro_use` prelude, what the prelude module has
abbrev pub name_in_module : Maps → Local → Option MacroSubNs → BuiltinShadowMode → AnyModule → List ℕ → PerNs
name_in_module maps local sub_ns shadow at name =
    or_of (or_of (or_of (or_of (legacy_name maps sub_ns at name)
    (with_builtin shadow (scope_name maps sub_ns at name) (builtin_name at name)))
    (unless_block_root at (extern_name local name)))
    (macro_use_name maps at name))
    (unless_block_root at (prelude_name maps at name))

-- what it stands for in the preludes alone
abbrev pub name_in_preludes : Maps → Local → AnyModule → List ℕ → PerNs
name_in_preludes maps local at name =
    or_of (or_of (extern_name local name) (macro_use_name maps at name)) (prelude_name maps at name)

-- what it stands for in the root of its crate, or else among the crates
abbrev pub name_in_crate_root_or_extern_prelude : Maps → Local → AnyModule → List ℕ → PerNs
name_in_crate_root_or_extern_prelude maps local at name =
    or_of (entry_in maps (crate_root at.map.krate) name) (unless_block_root at (extern_name local name))
