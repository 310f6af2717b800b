-- Which module does an id belong to?
use Rattle.std.specs.Prelude.{Option, Some, None}
use Rattle.std.specs.Option.{option_map}
use Rattle.hir_ids.specs.declared.ids.Crate.{Crate}
use Rattle.hir_ids.specs.declared.ids.ModuleId.{ModuleId}
use Rattle.hir_ids.specs.declared.ids.ItemContainerId.{ItemContainerId}
use Rattle.hir_ids.specs.declared.ids.ItemContainerId.TheVariants as container
use Rattle.hir_ids.specs.declared.ids.AdtId.{AdtId}
use Rattle.hir_ids.specs.declared.ids.AdtId.TheVariants as adt
use Rattle.hir_ids.specs.declared.ids.AssocItemId.{AssocItemId}
use Rattle.hir_ids.specs.declared.ids.AssocItemId.TheVariants as assoc
use Rattle.hir_ids.specs.declared.ids.ModuleDefId.{ModuleDefId}
use Rattle.hir_ids.specs.declared.ids.ModuleDefId.TheVariants as definition
use Rattle.hir_ids.specs.declared.macro_kind.MacroId.{MacroId}
use Rattle.hir_ids.specs.declared.macro_kind.MacroId.TheVariants as macro

-- the module itself, or the one that holds the extern block, trait or impl
abbrev pub container_module : ItemContainerId → ModuleId
container_module (container.ExternBlockId id) = id.loc.container
container_module (container.ModuleId id) = id
container_module (container.ImplId id) = id.loc.container
container_module (container.TraitId id) = id.loc.container

-- the module that holds a struct, union or enum
abbrev pub adt_module : AdtId → ModuleId
adt_module (adt.StructId id) = id.loc.container
adt_module (adt.UnionId id) = id.loc.container
adt_module (adt.EnumId id) = id.loc.container

-- the module that holds a macro
abbrev pub macro_module : MacroId → ModuleId
macro_module (macro.Macro2Id id) = id.loc.container
macro_module (macro.MacroRulesId id) = id.loc.container
macro_module (macro.ProcMacroId id) = id.loc.container

-- the module that holds the trait or impl of an item
abbrev pub assoc_module : AssocItemId → ModuleId
assoc_module (assoc.FunctionId id) = container_module id.loc.container
assoc_module (assoc.ConstId id) = container_module id.loc.container
assoc_module (assoc.TypeAliasId id) = container_module id.loc.container

-- the module itself, or the one that holds a definition; a builtin type has none
abbrev pub definition_module : ModuleDefId → Option ModuleId
definition_module (definition.ModuleId id) = Some id
definition_module (definition.FunctionId id) = Some (container_module id.loc.container)
definition_module (definition.AdtId id) = Some (adt_module id)
definition_module (definition.EnumVariantId id) = Some id.parent.loc.container
definition_module (definition.ConstId id) = Some (container_module id.loc.container)
definition_module (definition.StaticId id) = Some (container_module id.loc.container)
definition_module (definition.TraitId id) = Some id.loc.container
definition_module (definition.TypeAliasId id) = Some (container_module id.loc.container)
definition_module (definition.BuiltinType kind) = None
definition_module (definition.MacroId id) = Some (macro_module id)

-- the crate of a definition
abbrev pub definition_krate : ModuleDefId → Option Crate
definition_krate id = option_map (λ m. m.map.krate) (definition_module id)
