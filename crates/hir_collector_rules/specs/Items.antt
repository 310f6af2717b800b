-- What does an item declare?
use Rattle.std.specs.Prelude.{ℕ, List, [], ◌∷◌, Option, None, Some, map, unwrap_or}
use Rattle.std.specs.Option.{option_and_then}
use Rattle.hir_nameres.specs.HirIds.declared.ast_id.AstKind.TheVariants as kinds
use Rattle.hir_nameres.specs.HirIds.declared.edition.Edition.{Edition}
use Rattle.hir_nameres.specs.HirIds.declared.ids.ModuleDefId.{ModuleDefId}
use Rattle.hir_nameres.specs.HirIds.declared.ast_id.SyntaxId.{SyntaxId}
use Rattle.hir_nameres.specs.HirIds.declared.ids.AdtId.TheVariants as adts
use Rattle.hir_nameres.specs.HirIds.declared.ids.ModuleDefId.TheVariants as definitions
use Rattle.hir_item_tree.specs.KeptForest.{Head, Leaf, import, extern_crate, function, structure, union_structure, enumeration, constant, static_item}
use Rattle.hir_item_tree.specs.KeptForest.{trait_item, implementation, type_alias, outline_module, macro_call, macro_rules, macro_def, KeptItem, leaf, holder}
use Rattle.hir_nameres.specs.HirBase.declared.shape.FieldsShape.{FieldsShape}
use Rattle.hir_nameres.specs.HirBase.declared.tree_id.TreeId.{TreeId}
use Rattle.hir_nameres.specs.HirBase.declared.shape.FieldsShape.TheVariants.{Record, Tuple, Unit as UnitShape}
use Rattle.hir_nameres.specs.HirPerNs.declared.per_ns.PerNs.{PerNs}
use Rattle.hir_nameres.specs.HirPerNs.declared.visibility.Visibility.{Visibility}
use Rattle.hir_nameres.specs.HirDefMapRules.State.{Local, Map, new_id}
use Rattle.hir_nameres.specs.HirDefMapRules.Overlay.{Maps}
use Rattle.hir_nameres.specs.HirMapParts.declared.origin.ModuleOrigin.{ModuleOrigin}
use Rattle.hir_nameres.specs.HirMapParts.declared.origin.ModuleOrigin.TheVariants as origins
use Rattle.hir_import_rules.specs.Visibilities.{lesser_in, visibility_in}
use Rattle.hir_collector_rules.specs.declared.declaration.Declaration.{Declaration}
use Rattle.hir_collector_rules.specs.declared.site.Site.{Site}
use Rattle.hir_collector_rules.specs.State.{Visit}
use Rattle.hir_collector_rules.specs.ModuleFiles.{ModuleFile}
use Rattle.hir_collector_rules.specs.ItemIds.{node_of, module_id, function_id, const_id, static_id, type_alias_id, struct_id, union_id, trait_id}

-- ---- what a name stands for

-- a type that was declared, and not imported
abbrev pub declared_type : ModuleDefId → Visibility → PerNs
declared_type def vis = record { types = Some (record { def = def; vis = vis; import = None }); values = None; macros = None }

-- the next module of a map, as its parent binds it
abbrev pub declared_module : Map → Visibility → PerNs
declared_module m vis = declared_type (definitions.ModuleId (new_id m)) vis

-- a value that was declared
abbrev pub declared_value : ModuleDefId → Visibility → PerNs
declared_value def vis = record { types = None; values = Some (record { def = def; vis = vis; import = None }); macros = None }

-- a type, and where its shape has a constructor a value of the constructor's visibility
abbrev pub declared_struct : ModuleDefId → Visibility → Option Visibility → PerNs
declared_struct def vis None = declared_type def vis
declared_struct def vis (Some constructor) = record {
  types = Some (record { def = def; vis = vis; import = None });
  values = Some (record { def = def; vis = constructor; import = None });
  macros = None;
}

-- ---- visibilities

-- the visibility of an item at a site
abbrev pub own_visibility : Maps → Local → Map → Site → Head → Visibility
own_visibility finished local m s head = visibility_in finished local m (module_id m s.home) head.visibility

-- the meet of visibilities, none where it comes upon two that are unrelated
abbrev pub meet_of : Maps → Map → Visibility → List Visibility → Option Visibility
meet_of finished m least [] = Some least
meet_of finished m least (v ∷ vs) = option_and_then (λ next. meet_of finished m next vs) (lesser_in finished m least v)

-- the visibility of a struct's constructor, if its shape has one: a tuple's is the meet of those that
-- it has to meet, and the struct's own where two are unrelated
abbrev pub constructor_of : Maps → Map → Visibility → FieldsShape → List Visibility → Option Visibility
constructor_of finished m own Record vs = None
constructor_of finished m own Tuple vs = Some (unwrap_or (meet_of finished m own vs) own)
constructor_of finished m own UnitShape vs = Some own

-- ---- what an item binds

-- a definition that a name stands for as a type
abbrev pub type_declaration : List ℕ → ModuleDefId → Visibility → Declaration
type_declaration name def vis = record { name = name; def = def; items = declared_type def vis }

-- one that it stands for as a value
abbrev pub value_declaration : List ℕ → ModuleDefId → Visibility → Declaration
value_declaration name def vis = record { name = name; def = def; items = declared_value def vis }

-- a struct, with the visibilities that its constructor has to meet
abbrev pub struct_declaration : Maps → Local → Map → Site → Head → List ℕ → FieldsShape → List Visibility → Declaration
struct_declaration finished local m s head name shape fields =
    let def = definitions.AdtId (adts.StructId (struct_id m s head.id)) in
    let own = own_visibility finished local m s head in
    record { name = name; def = def; items = declared_struct def own (constructor_of finished m own shape fields) }

-- what an item that holds no others declares under its name, enums and macros aside
abbrev pub declared_by_leaf : Maps → Local → Map → Site → Head → Leaf → Option Declaration
declared_by_leaf finished local m s h (import tree) = None
declared_by_leaf finished local m s h (extern_crate name alias) = None
declared_by_leaf finished local m s h (function name) =
    Some (value_declaration name (definitions.FunctionId (function_id m s h.id)) (own_visibility finished local m s h))
declared_by_leaf finished local m s h (structure name shape fields) =
    Some (struct_declaration finished local m s h name shape (map (visibility_in finished local m (module_id m s.home)) fields))
declared_by_leaf finished local m s h (union_structure name fields) =
    Some (type_declaration name (definitions.AdtId (adts.UnionId (union_id m s h.id))) (own_visibility finished local m s h))
declared_by_leaf finished local m s h (enumeration name) = None
declared_by_leaf finished local m s h (constant None) = None
declared_by_leaf finished local m s h (constant (Some name)) =
    Some (value_declaration name (definitions.ConstId (const_id m s h.id)) (own_visibility finished local m s h))
declared_by_leaf finished local m s h (static_item name) =
    Some (value_declaration name (definitions.StaticId (static_id m s h.id)) (own_visibility finished local m s h))
declared_by_leaf finished local m s h (trait_item name) =
    Some (type_declaration name (definitions.TraitId (trait_id m s h.id)) (own_visibility finished local m s h))
declared_by_leaf finished local m s h (implementation of_trait) = None
declared_by_leaf finished local m s h (type_alias name) =
    Some (type_declaration name (definitions.TypeAliasId (type_alias_id m s h.id)) (own_visibility finished local m s h))
declared_by_leaf finished local m s h (outline_module name) = None
declared_by_leaf finished local m s h (macro_call path) = None
declared_by_leaf finished local m s h (macro_rules name expander helpers) = None
declared_by_leaf finished local m s h (macro_def name expander helpers) = None

-- what an item of a site declares under its name, modules, enums and macros aside
abbrev pub declared_by : Maps → Local → Map → Site → KeptItem → Option Declaration
declared_by finished local m s (leaf head l) = declared_by_leaf finished local m s head l
declared_by finished local m s (holder head k items) = None

-- what the visited item declares
abbrev pub declaration_of : Maps → Local → Map → Visit → Option Declaration
declaration_of finished local m v = declared_by finished local m v.site v.item

-- the origin of a module that is written where it is declared
abbrev pub inline_origin : TreeId → SyntaxId → ModuleOrigin
inline_origin tree id = origins.Inline tree (node_of tree kinds.Module id)

-- the origin of a module whose items are in a file of its own, which is read in an edition
abbrev pub file_origin : TreeId → SyntaxId → Edition → ModuleFile → ModuleOrigin
file_origin tree id edition file = origins.File file.is_mod_rs (node_of tree kinds.Module id) tree (record { file_id = file.id; edition = edition })
