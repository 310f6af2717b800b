-- What does a name stand for in each namespace?
use Rattle.hir_scope_item.specs.declared.item.Item.{Item as TableItem}
use Rattle.hir_scope_item.specs.Bindings.{first_of}
use Rattle.std.specs.Prelude.{Bool, ◌&&◌, not, is_some, Option, None, Some, cond, List, ◌++◌, ◌≡◌}
use Rattle.std.specs.Option.{option_map, option_to_list}
use Rattle.hir_ids.specs.declared.ids.AdtId.TheVariants as adt
use Rattle.hir_ids.specs.declared.ids.Crate.{Crate}
use Rattle.hir_ids.specs.declared.macro_kind.MacroId.{MacroId}
use Rattle.hir_ids.specs.declared.ids.ModuleDefId.{ModuleDefId}
use Rattle.hir_ids.specs.declared.ids.ModuleId.{ModuleId}
use Rattle.hir_ids.specs.declared.ids.ModuleDefId.TheVariants as def
use Rattle.hir_per_ns.specs.declared.imports.ImportOrExternCrate.{ImportOrExternCrate}
use Rattle.hir_per_ns.specs.declared.imports.ImportOrGlob.{ImportOrGlob}
use Rattle.hir_per_ns.specs.declared.item_in_ns.ItemInNs.{ItemInNs}
use Rattle.hir_per_ns.specs.declared.item_in_ns.ItemInNs.TheVariants.{Types, Values, Macros}
use Rattle.hir_per_ns.specs.declared.visibility.Visibility.{Visibility}
use Rattle.hir_per_ns.specs.declared.per_ns.PerNs.{PerNs}
use Rattle.hir_per_ns.specs.Imports.{import_or_glob_of, as_item_import}
use Rattle.hir_ids.specs.Ids.{definition_module, macro_module}
use Rattle.hir_per_ns.specs.declared.per_ns_items.PerNsItems.{PerNsItems}

-- an item of a namespace: a definition, who may see it, and what brought it
abbrev pub Item : Type 0 → Type 0 → Type 0
Item D I = TableItem D Visibility I

-- nothing in any namespace
abbrev pub nothing : PerNs
nothing = record { types = None; values = None; macros = None }

-- an item in one namespace
abbrev pub item_of : {D I : Type 0} → D → Visibility → Option I → Item D I
item_of def vis import = record { def = def; vis = vis; import = import }

-- a definition in types alone
abbrev pub types_only : ModuleDefId → Visibility → Option ImportOrExternCrate → PerNs
types_only def vis import = record { types = Some (item_of def vis import); values = None; macros = None }

-- a definition in values alone
abbrev pub values_only : ModuleDefId → Visibility → Option ImportOrGlob → PerNs
values_only def vis import = record { types = None; values = Some (item_of def vis import); macros = None }

-- a macro alone
abbrev pub macros_only : MacroId → Visibility → Option ImportOrExternCrate → PerNs
macros_only def vis import = record { types = None; values = None; macros = Some (item_of def vis import) }

-- what brought a value: an `extern crate` brings none
abbrev pub value_import : Option ImportOrExternCrate → Option ImportOrGlob
value_import None = None
value_import (Some import) = import_or_glob_of import

-- a type and a value that one import brought
abbrev pub types_and_values : ModuleDefId → Visibility → ModuleDefId → Visibility → Option ImportOrExternCrate → PerNs
types_and_values ty type_vis value value_vis import =
    record { types = Some (item_of ty type_vis import); values = Some (item_of value value_vis (value_import import)); macros = None }

-- a definition with a constructor: a type, and a value where the constructor has a visibility
abbrev pub with_constructor : ModuleDefId → Visibility → Option Visibility → Option ImportOrExternCrate → PerNs
with_constructor def vis None import = types_only def vis import
with_constructor def vis (Some constructor) import = types_and_values def vis def constructor import

-- a definition in its namespaces
abbrev pub per_ns_of : ModuleDefId → Visibility → Option Visibility → Option ImportOrExternCrate → PerNs
per_ns_of (def.ModuleId id) vis constructor import = types_only (def.ModuleId id) vis import
per_ns_of (def.FunctionId id) vis constructor import = values_only (def.FunctionId id) vis (value_import import)
per_ns_of (def.AdtId (adt.StructId id)) vis constructor import = with_constructor (def.AdtId (adt.StructId id)) vis constructor import
per_ns_of (def.AdtId (adt.UnionId id)) vis constructor import = types_only (def.AdtId (adt.UnionId id)) vis import
per_ns_of (def.AdtId (adt.EnumId id)) vis constructor import = types_only (def.AdtId (adt.EnumId id)) vis import
per_ns_of (def.EnumVariantId id) vis constructor import = with_constructor (def.EnumVariantId id) vis constructor import
per_ns_of (def.ConstId id) vis constructor import = values_only (def.ConstId id) vis (value_import import)
per_ns_of (def.StaticId id) vis constructor import = values_only (def.StaticId id) vis (value_import import)
per_ns_of (def.TraitId id) vis constructor import = types_only (def.TraitId id) vis import
per_ns_of (def.TypeAliasId id) vis constructor import = types_only (def.TypeAliasId id) vis import
per_ns_of (def.BuiltinType id) vis constructor import = types_only (def.BuiltinType id) vis import
per_ns_of (def.MacroId id) vis constructor import = macros_only id vis import

-- no namespace is empty
abbrev pub is_full : PerNs → Bool
is_full p = is_some p.types && is_some p.values && is_some p.macros

-- each namespace is empty
abbrev pub is_nothing : PerNs → Bool
is_nothing p = not (is_some p.types) && not (is_some p.values) && not (is_some p.macros)

-- the definition of an item, where there is one
abbrev pub def_of : {D I : Type 0} → Option (Item D I) → Option D
def_of None = None
def_of (Some item) = Some item.def

-- in each namespace the first, or else the second
abbrev pub or_of : PerNs → PerNs → PerNs
or_of a b = record { types = first_of a.types b.types; values = first_of a.values b.values; macros = first_of a.macros b.macros }

-- an item whose visibility passes
abbrev pub keep_item : {D I : Type 0} → (Visibility → Bool) → Option (Item D I) → Option (Item D I)
keep_item keep None = None
keep_item keep (Some i) = cond (keep i.vis) (Some i) None

-- the items whose visibility passes
abbrev pub keep_of : (Visibility → Bool) → PerNs → PerNs
keep_of keep p = record { types = keep_item keep p.types; values = keep_item keep p.values; macros = keep_item keep p.macros }

-- an item under another visibility
abbrev pub item_seen_as : {D I : Type 0} → Visibility → Option (Item D I) → Option (Item D I)
item_seen_as vis None = None
item_seen_as vis (Some item) = Some (record item { vis = vis })

-- each item under one visibility
abbrev pub seen_as : Visibility → PerNs → PerNs
seen_as vis p = record { types = item_seen_as vis p.types; values = item_seen_as vis p.values; macros = item_seen_as vis p.macros }

-- the items, with what brought each: types, values, macros
abbrev pub items_of : PerNs → List (ItemInNs × Option ImportOrExternCrate)
items_of p =
    option_to_list (option_map (λ item. (Types item.def, item.import)) p.types)
    ++ (option_to_list (option_map (λ item. (Values item.def, option_map as_item_import item.import)) p.values)
    ++ option_to_list (option_map (λ item. (Macros item.def, item.import)) p.macros))

-- the definition of a type or value
abbrev pub def_of_item : ItemInNs → Option ModuleDefId
def_of_item (Types id) = Some id
def_of_item (Values id) = Some id
def_of_item (Macros id) = None

-- the module in which an item is defined
abbrev pub module_of_item : ItemInNs → Option ModuleId
module_of_item (Types id) = definition_module id
module_of_item (Values id) = definition_module id
module_of_item (Macros id) = Some (macro_module id)

-- the crate in which an item is defined
abbrev pub crate_of_item : ItemInNs → Option Crate
crate_of_item item = option_map (λ (m : ModuleId). m.map.krate) (module_of_item item)

-- an item is kept where a test passes its visibility, about which it is asked once; where there is no item, it isn't asked
abbrev pub Passes : {F D I : Type 0} → (F → Visibility → Bool → F → Type 0) → F → Option (Item D I) → Option (Item D I) → F → Type 0
Passes steps f None kept g = (kept ≡ None) × (g ≡ f)
Passes steps f (Some item) kept g = (answer : Bool) × steps f item.vis answer g × (kept ≡ cond answer (Some item) None)

-- types, values and macros are kept so, one after another
abbrev pub PassInOrder : {F : Type 0} → (F → Visibility → Bool → F → Type 0) → F → PerNs → PerNs → Type 0
PassInOrder {F} steps f items kept =
    (g : F) × (h : F) × (last : F) × Passes steps f items.types kept.types g
    × Passes steps g items.values kept.values h × Passes steps h items.macros kept.macros last

-- the items that are left
abbrev pub items_left : PerNsItems → List (ItemInNs × Option ImportOrExternCrate)
items_left walk = items_of walk.left
