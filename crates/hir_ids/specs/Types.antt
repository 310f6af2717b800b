-- The types of the crate and their variants, under their names.
-- names
pub use Rattle.hir_ids.specs.declared.name.NameError.{NameError}
pub use Rattle.hir_ids.specs.declared.edition.Edition.{Edition}
pub use Rattle.hir_ids.specs.declared.edition.Edition.TheVariants as edition
-- files and nodes
pub use Rattle.hir_ids.specs.declared.ast_id.FileId.{FileId}
pub use Rattle.hir_ids.specs.declared.ast_id.EditionedFileId.{EditionedFileId}
pub use Rattle.hir_ids.specs.declared.ast_id.MacroCallId.{MacroCallId}
pub use Rattle.hir_ids.specs.declared.ast_id.EntryId.{EntryId}
pub use Rattle.hir_ids.specs.declared.ast_id.BlockId.{BlockId}
pub use Rattle.hir_ids.specs.declared.ast_id.HirFileId.{HirFileId}
pub use Rattle.hir_ids.specs.declared.ast_id.HirFileId.TheVariants as hir_file
pub use Rattle.hir_ids.specs.declared.ast_id.AttrId.{AttrId}
pub use Rattle.hir_ids.specs.declared.ast_id.AstKind.{AstKind}
pub use Rattle.hir_ids.specs.declared.ast_id.AstKind.TheVariants as ast_kind
pub use Rattle.hir_ids.specs.declared.ast_id.SyntaxId.{SyntaxId}
pub use Rattle.hir_ids.specs.declared.ast_id.AstId.{AstId}
pub use Rattle.hir_ids.specs.declared.ast_id.InFile.{InFile}
-- crates, maps, modules and items
pub use Rattle.hir_ids.specs.declared.ids.Crate.{Crate}
pub use Rattle.hir_ids.specs.declared.ids.MapId.{MapId}
pub use Rattle.hir_ids.specs.declared.ids.ModuleId.{ModuleId}
pub use Rattle.hir_ids.specs.declared.ids.ItemLoc.{ItemLoc}
pub use Rattle.hir_ids.specs.declared.ids.ExternBlockId.{ExternBlockId}
pub use Rattle.hir_ids.specs.declared.ids.ImplId.{ImplId}
pub use Rattle.hir_ids.specs.declared.ids.TraitId.{TraitId}
pub use Rattle.hir_ids.specs.declared.ids.StructId.{StructId}
pub use Rattle.hir_ids.specs.declared.ids.UnionId.{UnionId}
pub use Rattle.hir_ids.specs.declared.ids.EnumId.{EnumId}
pub use Rattle.hir_ids.specs.declared.ids.UseId.{UseId}
pub use Rattle.hir_ids.specs.declared.ids.ExternCrateId.{ExternCrateId}
pub use Rattle.hir_ids.specs.declared.ids.ItemContainerId.{ItemContainerId}
pub use Rattle.hir_ids.specs.declared.ids.ItemContainerId.TheVariants as container
pub use Rattle.hir_ids.specs.declared.ids.FunctionId.{FunctionId}
pub use Rattle.hir_ids.specs.declared.ids.ConstId.{ConstId}
pub use Rattle.hir_ids.specs.declared.ids.StaticId.{StaticId}
pub use Rattle.hir_ids.specs.declared.ids.TypeAliasId.{TypeAliasId}
pub use Rattle.hir_ids.specs.declared.ids.EnumVariantId.{EnumVariantId}
pub use Rattle.hir_ids.specs.declared.ids.AdtId.{AdtId}
pub use Rattle.hir_ids.specs.declared.ids.AdtId.TheVariants as adt
pub use Rattle.hir_ids.specs.declared.ids.ModuleDefId.{ModuleDefId}
pub use Rattle.hir_ids.specs.declared.ids.ModuleDefId.TheVariants as definition
pub use Rattle.hir_ids.specs.declared.ids.AssocItemId.{AssocItemId}
pub use Rattle.hir_ids.specs.declared.ids.AssocItemId.TheVariants as assoc
-- macros
pub use Rattle.hir_ids.specs.declared.macro_kind.MacroCallStyles.{MacroCallStyles}
pub use Rattle.hir_ids.specs.declared.macro_kind.MacroExpander.{MacroExpander}
pub use Rattle.hir_ids.specs.declared.macro_kind.MacroExpander.TheVariants as expander
pub use Rattle.hir_ids.specs.declared.macro_kind.ProcMacroStyle.{ProcMacroStyle}
pub use Rattle.hir_ids.specs.declared.macro_kind.ProcMacroStyle.TheVariants as proc_macro
pub use Rattle.hir_ids.specs.declared.macro_kind.MacroLoc.{MacroLoc}
pub use Rattle.hir_ids.specs.declared.macro_kind.ProcMacroLoc.{ProcMacroLoc}
pub use Rattle.hir_ids.specs.declared.macro_kind.MacroRulesId.{MacroRulesId}
pub use Rattle.hir_ids.specs.declared.macro_kind.Macro2Id.{Macro2Id}
pub use Rattle.hir_ids.specs.declared.macro_kind.ProcMacroId.{ProcMacroId}
pub use Rattle.hir_ids.specs.declared.macro_kind.MacroId.{MacroId}
pub use Rattle.hir_ids.specs.declared.macro_kind.MacroId.TheVariants as macro
pub use Rattle.hir_ids.specs.declared.macro_kind.BuiltinDeriveImplId.{BuiltinDeriveImplId}
-- builtin types
pub use Rattle.hir_ids.specs.declared.builtin_type.BuiltinInt.{BuiltinInt}
pub use Rattle.hir_ids.specs.declared.builtin_type.BuiltinInt.TheVariants as int
pub use Rattle.hir_ids.specs.declared.builtin_type.BuiltinUint.{BuiltinUint}
pub use Rattle.hir_ids.specs.declared.builtin_type.BuiltinUint.TheVariants as uint
pub use Rattle.hir_ids.specs.declared.builtin_type.BuiltinFloat.{BuiltinFloat}
pub use Rattle.hir_ids.specs.declared.builtin_type.BuiltinFloat.TheVariants as float
pub use Rattle.hir_ids.specs.declared.builtin_type.BuiltinType.{BuiltinType}
pub use Rattle.hir_ids.specs.declared.builtin_type.BuiltinType.TheVariants as builtin
pub use Rattle.hir_ids.specs.declared.name.Name.{Name}
