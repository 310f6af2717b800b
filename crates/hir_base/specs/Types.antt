-- The types of the crate and their variants, under their names.

-- names, paths and places
pub use Rattle.hir_ids.specs.declared.name.NameError.{NameError}
pub use Rattle.hir_base.specs.ModPath.{Path}
pub use Rattle.hir_base.specs.declared.mod_path.PathKind.{PathKind}
pub use Rattle.hir_base.specs.declared.mod_path.PathKind.TheVariants as path_kind
pub use Rattle.hir_base.specs.declared.mod_path.ParseError.{ParseError}
pub use Rattle.hir_base.specs.declared.limit.Limit.{Limit}
pub use Rattle.hir_base.specs.declared.limit.Limit.TheVariants as limit
pub use Rattle.hir_ids.specs.declared.edition.Edition.{Edition}
pub use Rattle.hir_ids.specs.declared.edition.Edition.TheVariants as edition
pub use Rattle.hir_base.specs.Place.{PlaceValue}
pub use Rattle.hir_base.specs.declared.place.PlaceElement.{PlaceElement}
pub use Rattle.hir_base.specs.declared.place.PlaceElement.TheVariants as place_element
pub use Rattle.hir_base.specs.declared.place.BlockPlace.{BlockPlace}
-- files and nodes
pub use Rattle.hir_ids.specs.declared.ast_id.FileId.{FileId}
pub use Rattle.hir_ids.specs.declared.ast_id.EditionedFileId.{EditionedFileId}
pub use Rattle.hir_ids.specs.declared.ast_id.MacroCallId.{MacroCallId}
pub use Rattle.hir_ids.specs.declared.ast_id.EntryId.{EntryId}
pub use Rattle.hir_ids.specs.declared.ast_id.BlockId.{BlockId}
pub use Rattle.hir_ids.specs.declared.ast_id.HirFileId.{HirFileId}
pub use Rattle.hir_ids.specs.declared.ast_id.HirFileId.TheVariants as hir_file
pub use Rattle.hir_ids.specs.declared.ast_id.AttrId.{AttrId}
pub use Rattle.hir_ids.specs.declared.ast_id.AstKind.{AstKind}
pub use Rattle.hir_ids.specs.declared.ast_id.AstKind.TheVariants as ast_kind
pub use Rattle.hir_ids.specs.declared.ast_id.SyntaxId.{SyntaxId}
pub use Rattle.hir_ids.specs.declared.ast_id.AstId.{AstId}
pub use Rattle.hir_ids.specs.declared.ast_id.InFile.{InFile}
-- crates, maps, modules and items
pub use Rattle.hir_ids.specs.declared.ids.Crate.{Crate}
pub use Rattle.hir_ids.specs.declared.ids.MapId.{MapId}
pub use Rattle.hir_ids.specs.declared.ids.ModuleId.{ModuleId}
pub use Rattle.hir_ids.specs.declared.ids.ItemLoc.{ItemLoc}
pub use Rattle.hir_ids.specs.declared.ids.ExternBlockId.{ExternBlockId}
pub use Rattle.hir_ids.specs.declared.ids.ImplId.{ImplId}
pub use Rattle.hir_ids.specs.declared.ids.TraitId.{TraitId}
pub use Rattle.hir_ids.specs.declared.ids.StructId.{StructId}
pub use Rattle.hir_ids.specs.declared.ids.UnionId.{UnionId}
pub use Rattle.hir_ids.specs.declared.ids.EnumId.{EnumId}
pub use Rattle.hir_ids.specs.declared.ids.UseId.{UseId}
pub use Rattle.hir_ids.specs.declared.ids.ExternCrateId.{ExternCrateId}
pub use Rattle.hir_ids.specs.declared.ids.ItemContainerId.{ItemContainerId}
pub use Rattle.hir_ids.specs.declared.ids.ItemContainerId.TheVariants as container
pub use Rattle.hir_ids.specs.declared.ids.FunctionId.{FunctionId}
pub use Rattle.hir_ids.specs.declared.ids.ConstId.{ConstId}
pub use Rattle.hir_ids.specs.declared.ids.StaticId.{StaticId}
pub use Rattle.hir_ids.specs.declared.ids.TypeAliasId.{TypeAliasId}
pub use Rattle.hir_ids.specs.declared.ids.EnumVariantId.{EnumVariantId}
pub use Rattle.hir_ids.specs.declared.ids.AdtId.{AdtId}
pub use Rattle.hir_ids.specs.declared.ids.AdtId.TheVariants as adt
pub use Rattle.hir_ids.specs.declared.ids.ModuleDefId.{ModuleDefId}
pub use Rattle.hir_ids.specs.declared.ids.ModuleDefId.TheVariants as definition
pub use Rattle.hir_ids.specs.declared.ids.AssocItemId.{AssocItemId}
pub use Rattle.hir_ids.specs.declared.ids.AssocItemId.TheVariants as assoc
-- macros and their calls
pub use Rattle.hir_ids.specs.declared.macro_kind.MacroCallStyles.{MacroCallStyles}
pub use Rattle.hir_ids.specs.declared.macro_kind.MacroExpander.{MacroExpander}
pub use Rattle.hir_ids.specs.declared.macro_kind.MacroExpander.TheVariants as expander
pub use Rattle.hir_ids.specs.declared.macro_kind.ProcMacroStyle.{ProcMacroStyle}
pub use Rattle.hir_ids.specs.declared.macro_kind.ProcMacroStyle.TheVariants as proc_macro
pub use Rattle.hir_ids.specs.declared.macro_kind.MacroLoc.{MacroLoc}
pub use Rattle.hir_ids.specs.declared.macro_kind.ProcMacroLoc.{ProcMacroLoc}
pub use Rattle.hir_ids.specs.declared.macro_kind.MacroRulesId.{MacroRulesId}
pub use Rattle.hir_ids.specs.declared.macro_kind.Macro2Id.{Macro2Id}
pub use Rattle.hir_ids.specs.declared.macro_kind.ProcMacroId.{ProcMacroId}
pub use Rattle.hir_ids.specs.declared.macro_kind.MacroId.{MacroId}
pub use Rattle.hir_ids.specs.declared.macro_kind.MacroId.TheVariants as macro
pub use Rattle.hir_ids.specs.declared.macro_kind.BuiltinDeriveImplId.{BuiltinDeriveImplId}
pub use Rattle.hir_base.specs.declared.macro_kind.MacroCallKind.{MacroCallKind}
pub use Rattle.hir_base.specs.declared.macro_kind.MacroCallKind.TheVariants as call
pub use Rattle.hir_base.specs.declared.macro_kind.MacroCallLoc.{MacroCallLoc}
pub use Rattle.hir_base.specs.declared.macro_kind.CallStyle.{CallStyle}
pub use Rattle.hir_base.specs.declared.macro_kind.CallStyle.TheVariants as call_style
pub use Rattle.hir_base.specs.declared.macro_kind.MacroText.{MacroText}
pub use Rattle.hir_base.specs.declared.macro_kind.ExpansionKey.{ExpansionKey}
pub use Rattle.hir_base.specs.declared.resolve_mode.BuiltinShadowMode.{BuiltinShadowMode}
pub use Rattle.hir_base.specs.declared.resolve_mode.BuiltinShadowMode.TheVariants as shadow
pub use Rattle.hir_base.specs.declared.resolve_mode.MacroSubNs.{MacroSubNs}
pub use Rattle.hir_base.specs.declared.resolve_mode.MacroSubNs.TheVariants as sub_ns
-- builtin types and conditions
pub use Rattle.hir_ids.specs.declared.builtin_type.BuiltinInt.{BuiltinInt}
pub use Rattle.hir_ids.specs.declared.builtin_type.BuiltinInt.TheVariants as int
pub use Rattle.hir_ids.specs.declared.builtin_type.BuiltinUint.{BuiltinUint}
pub use Rattle.hir_ids.specs.declared.builtin_type.BuiltinUint.TheVariants as uint
pub use Rattle.hir_ids.specs.declared.builtin_type.BuiltinFloat.{BuiltinFloat}
pub use Rattle.hir_ids.specs.declared.builtin_type.BuiltinFloat.TheVariants as float
pub use Rattle.hir_ids.specs.declared.builtin_type.BuiltinType.{BuiltinType}
pub use Rattle.hir_ids.specs.declared.builtin_type.BuiltinType.TheVariants as builtin
pub use Rattle.hir_base.specs.declared.cfg.CfgAtom.{CfgAtom}
pub use Rattle.hir_base.specs.declared.cfg.CfgAtom.TheVariants as option
pub use Rattle.hir_base.specs.declared.cfg.CfgExpr.{CfgExpr}
pub use Rattle.hir_base.specs.Cfg.{Cfg, Cfgs}
pub use Rattle.hir_base.specs.declared.locations.LocationsError.{LocationsError}
pub use Rattle.hir_ids.specs.declared.name.Name.{Name}
