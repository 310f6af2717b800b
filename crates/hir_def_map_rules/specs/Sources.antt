-- Where is written what a map binds, and what a path answers?
use Rattle.std.specs.Prelude.{◌≡◌, Bool, true, false, ◌||◌, List, Option, None, Some, option_map}
use Rattle.std.specs.List.{list_any}
use Rattle.hir_base.specs.ModPath.{Path}
use Rattle.hir_scope.specs.HirIds.declared.ids.AdtId.{AdtId}
use Rattle.hir_scope.specs.HirIds.declared.ast_id.BlockId.{BlockId}
use Rattle.hir_scope.specs.HirIds.declared.ids.ExternCrateId.{ExternCrateId}
use Rattle.hir_scope.specs.HirIds.declared.ast_id.HirFileId.{HirFileId}
use Rattle.hir_scope.specs.HirIds.declared.macro_kind.MacroId.{MacroId}
use Rattle.hir_scope.specs.HirIds.declared.ids.MapId.{MapId}
use Rattle.hir_scope.specs.HirIds.declared.ids.ModuleDefId.{ModuleDefId}
use Rattle.hir_scope.specs.HirIds.declared.ids.ModuleId.{ModuleId}
use Rattle.hir_scope.specs.HirIds.declared.ids.AdtId.TheVariants as adt
use Rattle.hir_scope.specs.HirIds.declared.ids.ModuleDefId.TheVariants as def
use Rattle.hir_scope.specs.HirIds.declared.macro_kind.MacroId.TheVariants as macro
use Rattle.hir_scope.specs.HirTextualScope.declared.textual_scope.TextualMacro.{TextualMacro}
use Rattle.hir_scope.specs.HirPerNs.declared.imports.ImportOrExternCrate.{ImportOrExternCrate}
use Rattle.hir_scope.specs.HirPerNs.declared.imports.ImportOrGlob.{ImportOrGlob}
use Rattle.hir_scope.specs.HirPerNs.declared.per_ns.PerNs.{PerNs}
use Rattle.hir_scope.specs.HirPerNs.declared.visibility.Visibility.{Visibility}
use Rattle.hir_scope.specs.HirPerNs.declared.imports.ImportOrExternCrate.TheVariants as import
use Rattle.hir_scope.specs.HirPerNs.declared.imports.ImportOrGlob.TheVariants as value_import
use Rattle.hir_scope.specs.HirPerNs.PerNs.{Item}
use Rattle.hir_scope.specs.HirPerNs.declared.visibility.Visibility.TheVariants as vis
use Rattle.hir_def_map_rules.specs.State.{Local, Map, ModuleValue, Variants}
use Rattle.hir_def_map_rules.specs.Overlay.{Maps, Placed}
use Rattle.hir_def_map_rules.specs.Scoping.{resolution_of}
use Rattle.hir_def_map_rules.specs.Scoping.Asking.{Asking}
use Rattle.hir_map_parts.specs.declared.enum_variants.EnumVariant.{EnumVariant}
use Rattle.hir_map_parts.specs.declared.origin.ModuleOrigin.{ModuleOrigin}
use Rattle.hir_map_parts.specs.declared.origin.ModuleOrigin.TheVariants as origin

-- a test of sources: of what holds the syntax of an item, and of a module that a visibility names
pub record SourceTest : Type 0 where
  pub holder : HirFileId → Option BlockId → Bool
  pub shown : ModuleId → Bool

-- whether a test holds of what is there, if it is
abbrev pub on_some : {A : Type 0} → (A → Bool) → Option A → Bool
on_some test None = false
on_some test (Some a) = test a

-- whether a test holds of a value of a list by keys
abbrev pub on_values : {K V : Type 0} → (V → Bool) → List (K × V) → Bool
on_values test entries = list_any (λ e. test e.1) entries

-- ---- whether a test holds of where something is written

abbrev pub on_adt : SourceTest → AdtId → Bool
on_adt t (adt.StructId i) = t.holder i.loc.file_id i.loc.block
on_adt t (adt.UnionId i) = t.holder i.loc.file_id i.loc.block
on_adt t (adt.EnumId i) = t.holder i.loc.file_id i.loc.block

abbrev pub on_macro : SourceTest → MacroId → Bool
on_macro t (macro.Macro2Id i) = t.holder i.loc.file_id i.loc.block
on_macro t (macro.MacroRulesId i) = t.holder i.loc.file_id i.loc.block
on_macro t (macro.ProcMacroId i) = t.holder i.loc.file_id i.loc.block

-- a definition; a builtin type is written nowhere, and a module is by its origin
abbrev pub on_def : SourceTest → ModuleDefId → Bool
on_def t (def.ModuleId m) = false
on_def t (def.FunctionId i) = t.holder i.loc.file_id i.loc.block
on_def t (def.AdtId i) = on_adt t i
on_def t (def.EnumVariantId i) = t.holder i.parent.loc.file_id i.parent.loc.block
on_def t (def.ConstId i) = t.holder i.loc.file_id i.loc.block
on_def t (def.StaticId i) = t.holder i.loc.file_id i.loc.block
on_def t (def.TraitId i) = t.holder i.loc.file_id i.loc.block
on_def t (def.TypeAliasId i) = t.holder i.loc.file_id i.loc.block
on_def t (def.BuiltinType b) = false
on_def t (def.MacroId i) = on_macro t i

-- a definition as a value; it holds of each module, and no value is one
abbrev pub on_value_def : SourceTest → ModuleDefId → Bool
on_value_def t (def.ModuleId m) = true
on_value_def t (def.FunctionId i) = t.holder i.loc.file_id i.loc.block
on_value_def t (def.AdtId i) = on_adt t i
on_value_def t (def.EnumVariantId i) = t.holder i.parent.loc.file_id i.parent.loc.block
on_value_def t (def.ConstId i) = t.holder i.loc.file_id i.loc.block
on_value_def t (def.StaticId i) = t.holder i.loc.file_id i.loc.block
on_value_def t (def.TraitId i) = t.holder i.loc.file_id i.loc.block
on_value_def t (def.TypeAliasId i) = t.holder i.loc.file_id i.loc.block
on_value_def t (def.BuiltinType b) = false
on_value_def t (def.MacroId i) = on_macro t i

-- a module, by the item or the block that it is; a crate's root is none
abbrev pub on_origin : SourceTest → ModuleOrigin → Bool
on_origin t (origin.CrateRoot file) = false
on_origin t (origin.File is_mod_rs at tree file) = t.holder at.file_id tree.block
on_origin t (origin.Inline tree at) = t.holder at.file_id tree.block
on_origin t (origin.BlockExpr id block) = t.holder block.file_id (Some id)

-- what brought a binding
abbrev pub on_import : SourceTest → ImportOrExternCrate → Bool
on_import t (import.Glob g) = t.holder g.use_.loc.file_id g.use_.loc.block
on_import t (import.Import i) = t.holder i.use_.loc.file_id i.use_.loc.block
on_import t (import.ExternCrate i) = t.holder i.loc.file_id i.loc.block

abbrev pub on_value_import : SourceTest → ImportOrGlob → Bool
on_value_import t (value_import.Glob g) = t.holder g.use_.loc.file_id g.use_.loc.block
on_value_import t (value_import.Import i) = t.holder i.use_.loc.file_id i.use_.loc.block

-- an `extern crate` that names a crate or brought a macro, if one does
abbrev pub on_extern : SourceTest → Option ExternCrateId → Bool
on_extern t by = on_some (on_import t) (option_map import.ExternCrate by)

-- the module that a visibility names
abbrev pub on_visibility : SourceTest → Visibility → Bool
on_visibility t vis.Public = false
on_visibility t (vis.PubCrate c) = false
on_visibility t (vis.Module m written) = t.shown m

-- ---- whether it holds of some part of what a name stands for

abbrev pub on_item : {D I : Type 0} → SourceTest → (D → Bool) → (I → Bool) → Item D I → Bool
on_item t defs imports i = defs i.def || (on_visibility t i.vis || on_some imports i.import)

abbrev pub on_type : SourceTest → Item ModuleDefId ImportOrExternCrate → Bool
on_type t i = on_item t (on_def t) (on_import t) i

abbrev pub on_value : SourceTest → Item ModuleDefId ImportOrGlob → Bool
on_value t i = on_item t (on_value_def t) (on_value_import t) i

abbrev pub on_macro_item : SourceTest → Item MacroId ImportOrExternCrate → Bool
on_macro_item t i = on_item t (on_macro t) (on_import t) i

-- it holds of nothing for which a name stands
pub record HoldsOfNone (t : SourceTest) (items : PerNs) : Type 0 where
  pub types : on_some (on_type t) items.types ≡ false
  pub values : on_some (on_value t) items.values ≡ false
  pub macros : on_some (on_macro_item t) items.macros ≡ false

-- ---- whether it holds of some part of a map

abbrev pub on_variant : SourceTest → EnumVariant → Bool
on_variant t v = on_def t (def.EnumVariantId v.id)

-- a macro of a `macro_use` prelude, or the `extern crate` that brought it
abbrev pub on_macro_use : SourceTest → MacroId × Option ExternCrateId → Bool
on_macro_use t e = on_macro t e.0 || on_extern t e.1

-- the `extern crate` that names a crate with which a path may begin
abbrev pub on_extern_entry : SourceTest → ModuleId × Option ExternCrateId → Bool
on_extern_entry t e = on_extern t e.1

abbrev pub on_types_in : SourceTest → ModuleValue → Bool
on_types_in t m = on_values (on_type t) m.scope.types

abbrev pub on_values_in : SourceTest → ModuleValue → Bool
on_values_in t m = on_values (on_value t) m.scope.values

abbrev pub on_macros_in : SourceTest → ModuleValue → Bool
on_macros_in t m = on_values (on_macro_item t) m.scope.macros

abbrev pub on_legacy_in : SourceTest → ModuleValue → Bool
on_legacy_in t m = list_any (λ (x : TextualMacro). on_macro t x.makro) m.scope.legacy_macros

-- it holds of nothing that a map binds, of no variant of its enums, and of none of its modules
pub record HoldsNowhereIn (t : SourceTest) (map : Map) : Type 0 where
  pub origins : list_any (λ (m : ModuleValue). on_origin t m.origin) map.modules ≡ false
  pub types : list_any (on_types_in t) map.modules ≡ false
  pub values : list_any (on_values_in t) map.modules ≡ false
  pub macros : list_any (on_macros_in t) map.modules ≡ false
  pub legacy : list_any (on_legacy_in t) map.modules ≡ false
  pub enums : on_values (λ (vs : Variants). on_values (on_variant t) vs) map.enums ≡ false
  pub macro_use : on_values (on_macro_use t) map.macro_use_prelude ≡ false

-- so it is of each of the maps
abbrev pub HoldsNowhere : SourceTest → Maps → Type 0
HoldsNowhere t maps = (id : MapId) (placed : Placed) → maps id ≡ Some placed → HoldsNowhereIn t placed.map

-- it holds of no `extern crate` that names a crate with which a path may begin
abbrev pub HoldsOfNoExtern : SourceTest → Local → Type 0
HoldsOfNoExtern t local = on_values (on_extern_entry t) local ≡ false

-- a path answers only what is written where the maps bind, by items there, seen from modules that are named there
abbrev pub PathsAnswerFromSources : Type 0
PathsAnswerFromSources = (t : SourceTest) (maps : Maps) (asking : Asking) (from : ModuleId) (path : Path)
    → HoldsNowhere t maps → HoldsOfNoExtern t asking.local → HoldsOfNone t (resolution_of maps asking from path).resolved_def
