-- Which source item does an id stand for?
use Rattle.std.specs.Prelude.{Bool, true, false, Option, None, Some, option_map}
use Rattle.std.specs.Option.{option_and_then}
use Rattle.hir_session_state.specs.HirIds.declared.ast_id.AstKind.TheVariants as kind
use Rattle.hir_session_state.specs.HirIds.declared.ids.AdtId.{AdtId}
use Rattle.hir_session_state.specs.HirIds.declared.ast_id.BlockId.{BlockId}
use Rattle.hir_session_state.specs.HirBase.declared.place.BlockPlace.{BlockPlace}
use Rattle.hir_session_state.specs.HirIds.declared.ids.Crate.{Crate}
use Rattle.hir_session_state.specs.HirIds.declared.ast_id.HirFileId.{HirFileId}
use Rattle.hir_session_state.specs.HirIds.declared.ids.ItemContainerId.{ItemContainerId}
use Rattle.hir_session_state.specs.HirIds.declared.macro_kind.MacroId.{MacroId}
use Rattle.hir_session_state.specs.HirIds.declared.ids.ModuleDefId.{ModuleDefId}
use Rattle.hir_session_state.specs.HirIds.declared.ids.ModuleId.{ModuleId}
use Rattle.hir_session_state.specs.HirIds.declared.ast_id.SyntaxId.{SyntaxId}
use Rattle.hir_session_state.specs.HirIds.declared.ids.UseId.{UseId}
use Rattle.hir_session_state.specs.HirIds.declared.ids.AdtId.TheVariants as adt
use Rattle.hir_session_state.specs.HirIds.declared.ids.ItemContainerId.TheVariants as container
use Rattle.hir_session_state.specs.HirIds.declared.ids.ModuleDefId.TheVariants as def
use Rattle.hir_session_state.specs.HirIds.declared.macro_kind.MacroId.TheVariants as macro
use Rattle.hir_session_state.specs.HirIds.declared.explicitness.VisibilityExplicitness.{VisibilityExplicitness}
use Rattle.hir_session_state.specs.HirIds.declared.explicitness.VisibilityExplicitness.TheVariants as explicitness
use Rattle.hir_session_state.specs.HirPerNs.declared.imports.ImportOrExternCrate.{ImportOrExternCrate}
use Rattle.hir_session_state.specs.HirPerNs.declared.imports.ImportOrGlob.{ImportOrGlob}
use Rattle.hir_session_state.specs.HirPerNs.declared.visibility.Visibility.{Visibility}
use Rattle.hir_session_state.specs.HirPerNs.declared.imports.ImportOrExternCrate.TheVariants as import
use Rattle.hir_session_state.specs.HirPerNs.declared.imports.ImportOrGlob.TheVariants as value_import
use Rattle.hir_session_state.specs.HirPerNs.PerNs.{Item}
use Rattle.hir_session_state.specs.HirPerNs.declared.visibility.Visibility.TheVariants as vis
use Rattle.hir_session_state.specs.HirDefMapRules.Overlay.{Maps, module_in}
use Rattle.hir_session_state.specs.HirMapParts.declared.origin.ModuleOrigin.{ModuleOrigin}
use Rattle.hir_session_state.specs.HirMapParts.declared.origin.ModuleOrigin.TheVariants as origin
use Rattle.hir_session_state.specs.HirTables.Tables.{TablesValue, block_at}
use Rattle.hir_session_state.specs.Blocks.{place_of_block}
use Rattle.hir_session_state.specs.HirMessages.declared.answer.AnswerItem.{AnswerItem}
use Rattle.hir_session_state.specs.HirMessages.declared.answer.AnswerVisibility.{AnswerVisibility}
use Rattle.hir_session_state.specs.HirMessages.declared.answer.Definition.{Definition}
use Rattle.hir_session_state.specs.HirMessages.declared.answer.ImportOrigin.{ImportOrigin}
use Rattle.hir_session_state.specs.HirMessages.declared.answer.ImportSource.{ImportSource}
use Rattle.hir_session_state.specs.HirMessages.declared.answer.ItemSource.{ItemSource}
use Rattle.hir_session_state.specs.HirMessages.declared.answer.SourceKind.{SourceKind}
use Rattle.hir_session_state.specs.HirMessages.declared.answer.AnswerVisibility.TheVariants as answer_vis
use Rattle.hir_session_state.specs.HirMessages.declared.answer.Definition.TheVariants as definition
use Rattle.hir_session_state.specs.HirMessages.declared.answer.ImportOrigin.TheVariants as how
use Rattle.hir_session_state.specs.HirMessages.declared.answer.SourceKind.TheVariants as source
use Rattle.hir_session_answers.specs.SourceCalls.{source_of}

-- an item of a crate, by what holds it and its node there
abbrev pub item_in : Crate → SourceKind → SyntaxId → ItemSource → Definition
item_in krate kind id held = definition.Item krate (record { source = held; kind = kind; id = id })

-- the item of a crate that a node of what holds it writes
abbrev pub item_of : TablesValue → Crate → SourceKind → HirFileId → Option BlockId → SyntaxId → Option Definition
item_of tables krate kind file block id = option_map (item_in krate kind id) (source_of tables file block)

-- the crate of what holds an item
abbrev pub crate_of : ItemContainerId → Crate
crate_of (container.ExternBlockId b) = b.loc.container.map.krate
crate_of (container.ModuleId m) = m.map.krate
crate_of (container.ImplId i) = i.loc.container.map.krate
crate_of (container.TraitId t) = t.loc.container.map.krate

-- the root of a block, where it has a place
abbrev pub block_definition : Crate → BlockPlace → Definition
block_definition krate b = definition.BlockRoot krate (place_of_block b)

-- the crate's root, the block, or the module's node
abbrev pub module_by : TablesValue → Crate → ModuleOrigin → Option Definition
module_by tables krate (origin.CrateRoot file) = Some (definition.CrateRoot krate)
module_by tables krate (origin.File is_mod_rs at tree file) = item_of tables krate (source.Node kind.Module) at.file_id tree.block at.id
module_by tables krate (origin.Inline tree at) = item_of tables krate (source.Node kind.Module) at.file_id tree.block at.id
module_by tables krate (origin.BlockExpr id block) = option_map (block_definition krate) (block_at tables id)

-- a module of one of the maps, by its node
abbrev pub module_definition : TablesValue → Maps → ModuleId → Option Definition
module_definition tables maps m = option_and_then (λ found. module_by tables m.map.krate found.origin) (module_in maps m)

-- a struct, a union or an enum
abbrev pub adt_definition : TablesValue → AdtId → Option Definition
adt_definition tables (adt.StructId i) = item_of tables i.loc.container.map.krate (source.Node kind.Struct) i.loc.file_id i.loc.block i.loc.id
adt_definition tables (adt.UnionId i) = item_of tables i.loc.container.map.krate (source.Node kind.Union) i.loc.file_id i.loc.block i.loc.id
adt_definition tables (adt.EnumId i) = item_of tables i.loc.container.map.krate (source.Node kind.Enum) i.loc.file_id i.loc.block i.loc.id

-- a macro; a procedural one is named by its function
abbrev pub macro_definition : TablesValue → MacroId → Option Definition
macro_definition tables (macro.Macro2Id i) = item_of tables i.loc.container.map.krate (source.Node kind.MacroDef) i.loc.file_id i.loc.block i.loc.id
macro_definition tables (macro.MacroRulesId i) = item_of tables i.loc.container.map.krate (source.Node kind.MacroRules) i.loc.file_id i.loc.block i.loc.id
macro_definition tables (macro.ProcMacroId i) = item_of tables i.loc.container.map.krate source.ProcMacro i.loc.file_id i.loc.block i.loc.id

-- what a type or a value stands for
abbrev pub definition_of : TablesValue → Maps → ModuleDefId → Option Definition
definition_of tables maps (def.ModuleId m) = module_definition tables maps m
definition_of tables maps (def.FunctionId i) = item_of tables (crate_of i.loc.container) (source.Node kind.Fn) i.loc.file_id i.loc.block i.loc.id
definition_of tables maps (def.AdtId i) = adt_definition tables i
definition_of tables maps (def.EnumVariantId i) =
    item_of tables i.parent.loc.container.map.krate (source.Node kind.Variant) i.parent.loc.file_id i.parent.loc.block i.id
definition_of tables maps (def.ConstId i) = item_of tables (crate_of i.loc.container) (source.Node kind.Const) i.loc.file_id i.loc.block i.loc.id
definition_of tables maps (def.StaticId i) = item_of tables (crate_of i.loc.container) (source.Node kind.Static) i.loc.file_id i.loc.block i.loc.id
definition_of tables maps (def.TraitId i) = item_of tables i.loc.container.map.krate (source.Node kind.Trait) i.loc.file_id i.loc.block i.loc.id
definition_of tables maps (def.TypeAliasId i) = item_of tables (crate_of i.loc.container) (source.Node kind.TypeAlias) i.loc.file_id i.loc.block i.loc.id
definition_of tables maps (def.BuiltinType b) = Some (definition.Builtin b)
definition_of tables maps (def.MacroId i) = macro_definition tables i

-- whether a visibility was written
abbrev pub is_explicit : VisibilityExplicitness → Bool
is_explicit explicitness.Explicit = true
is_explicit explicitness.Implicit = false

-- the modules that see what a module shows
abbrev pub module_visibility : VisibilityExplicitness → Definition → AnswerVisibility
module_visibility written shown = answer_vis.Module (is_explicit written) shown

-- from where a binding is visible
abbrev pub visibility_source : TablesValue → Maps → Visibility → Option AnswerVisibility
visibility_source tables maps vis.Public = Some answer_vis.Public
visibility_source tables maps (vis.PubCrate c) = Some (answer_vis.Crate c)
visibility_source tables maps (vis.Module m written) = option_map (module_visibility written) (module_definition tables maps m)

-- the item that made a binding, by what holds it
abbrev pub import_in : SyntaxId → ImportOrigin → ItemSource → ImportSource
import_in id made held = record { source = held; id = id; origin = made }

-- a `use` item, with the kind and the place of its leaf
abbrev pub use_source : TablesValue → UseId → ImportOrigin → Option ImportSource
use_source tables i made = option_map (import_in i.loc.id made) (source_of tables i.loc.file_id i.loc.block)

-- what made a type or a macro
abbrev pub import_source : TablesValue → ImportOrExternCrate → Option ImportSource
import_source tables (import.Glob g) = use_source tables g.use_ (how.Glob g.idx)
import_source tables (import.Import i) = use_source tables i.use_ (how.Import i.idx)
import_source tables (import.ExternCrate i) = option_map (import_in i.loc.id how.ExternCrate) (source_of tables i.loc.file_id i.loc.block)

-- what made a value
abbrev pub value_import_source : TablesValue → ImportOrGlob → Option ImportSource
value_import_source tables (value_import.Glob g) = use_source tables g.use_ (how.Glob g.idx)
value_import_source tables (value_import.Import i) = use_source tables i.use_ (how.Import i.idx)

-- the source of an import, where there is an import
abbrev pub maybe_source : {I : Type 0} → (I → Option ImportSource) → Option I → Option (Option ImportSource)
maybe_source f None = Some None
maybe_source f (Some i) = option_map (λ held. Some held) (f i)

-- the parts of an answer together, if all are there
abbrev pub together : Option Definition → Option (Option ImportSource) → Option AnswerVisibility → Option AnswerItem
together None import visible = None
together (Some d) None visible = None
together (Some d) (Some import) None = None
together (Some d) (Some import) (Some visible) = Some (record { def = d; import = import; vis = visible })

-- what a type is answered
abbrev pub answered_type : TablesValue → Maps → Item ModuleDefId ImportOrExternCrate → Option AnswerItem
answered_type tables maps i = together (definition_of tables maps i.def) (maybe_source (import_source tables) i.import) (visibility_source tables maps i.vis)

-- what a value is answered
abbrev pub answered_value : TablesValue → Maps → Item ModuleDefId ImportOrGlob → Option AnswerItem
answered_value tables maps i =
    together (definition_of tables maps i.def) (maybe_source (value_import_source tables) i.import) (visibility_source tables maps i.vis)

-- what a macro is answered
abbrev pub answered_macro : TablesValue → Maps → Item MacroId ImportOrExternCrate → Option AnswerItem
answered_macro tables maps i = together (macro_definition tables i.def) (maybe_source (import_source tables) i.import) (visibility_source tables maps i.vis)
