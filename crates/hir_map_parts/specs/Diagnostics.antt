-- What does a diagnostic tell?
use Rattle.std.specs.Prelude.{ℕ, List}
use Rattle.hir_base.specs.Cfg.{Cfg, cfg_view}
use Rattle.hir_base.specs.ModPath.{Path}
use Rattle.hir_ids.specs.declared.ast_id.AstId.{AstId}
use Rattle.hir_ids.specs.declared.ast_id.AttrId.{AttrId}
use Rattle.hir_base.specs.declared.cfg.CfgAtom.{CfgAtom}
use Rattle.hir_base.specs.declared.macro_kind.MacroCallKind.{MacroCallKind}
use Rattle.hir_ids.specs.declared.ids.ModuleId.{ModuleId}
use Rattle.hir_ids.specs.declared.ids.UseId.{UseId}
use Rattle.hir_ids.specs.declared.ast_id.AstKind.TheVariants as ast_kinds
use Rattle.hir_base.specs.declared.macro_kind.MacroCallKind.TheVariants as calls
use Rattle.hir_map_parts.specs.declared.diagnostics.DefDiagnostic.{DefDiagnostic}
use Rattle.hir_map_parts.specs.declared.diagnostics.DefDiagnosticKind.{DefDiagnosticKind}
use Rattle.hir_map_parts.specs.declared.diagnostics.DefDiagnosticKind.TheVariants as kinds

-- its kind with all its parts
pub data KindValue : Type 0 where
  -- a `mod` item, and the files that were looked for
  UnresolvedModule : (ast : AstId) (candidates : List (List ℕ)) → KindValue
  UnresolvedExternCrate : (ast : AstId) → KindValue
  -- a `use` item, and the number of the import in it
  UnresolvedImport : (id : UseId) (index : ℕ) → KindValue
  -- an item that a condition leaves out: the first one that doesn't hold, and the options of the crate
  UnconfiguredCode : (ast : AstId) (cfg : Cfg) (opts : List CfgAtom) → KindValue
  UnresolvedMacroCall : (call : MacroCallKind) (path : Path) → KindValue
  UnimplementedBuiltinMacro : (ast : AstId) → KindValue
  -- a `derive` on an item that is no struct, enum or union
  InvalidDeriveTarget : (ast : AstId) (id : AttrId) → KindValue
  -- a `derive` without paths
  MalformedDerive : (ast : AstId) (id : AttrId) → KindValue
  MacroDefError : (ast : AstId) (message : List ℕ) → KindValue
  -- a call whose macro is known and which didn't expand
  MacroError : (ast : AstId) (path : Path) (err : List ℕ) → KindValue

-- its kind, and the module that it is in
pub record DiagnosticValue : Type 0 where
  pub in_module : ModuleId
  pub kind : KindValue

abbrev pub kind_view : DefDiagnosticKind → KindValue
kind_view (kinds.UnresolvedModule ast candidates) = UnresolvedModule ast candidates.items
kind_view (kinds.UnresolvedExternCrate ast) = UnresolvedExternCrate ast
kind_view (kinds.UnresolvedImport id index) = UnresolvedImport id index
kind_view (kinds.UnconfiguredCode ast cfg opts) = UnconfiguredCode ast (cfg_view cfg) opts
kind_view (kinds.UnresolvedMacroCall call path) = UnresolvedMacroCall call path
kind_view (kinds.UnimplementedBuiltinMacro ast) = UnimplementedBuiltinMacro ast
kind_view (kinds.InvalidDeriveTarget ast id) = InvalidDeriveTarget ast id
kind_view (kinds.MalformedDerive ast id) = MalformedDerive ast id
kind_view (kinds.MacroDefError ast message) = MacroDefError ast message
kind_view (kinds.MacroError ast path err) = MacroError ast path err

abbrev pub diagnostic_view : DefDiagnostic → DiagnosticValue
diagnostic_view d = record { in_module = d.in_module; kind = kind_view d.kind }

-- the node of a macro call
abbrev pub call_node : MacroCallKind → AstId
call_node (calls.FnLike ast) = ast
call_node (calls.Derive ast attr index) = ast
call_node (calls.Attr ast attr) = ast

-- the node that it is about: the item, or the macro call
abbrev pub node_of : KindValue → AstId
node_of (UnresolvedModule ast candidates) = ast
node_of (UnresolvedExternCrate ast) = ast
node_of (UnresolvedImport id index) = record { file_id = id.loc.file_id; block = id.loc.block; kind = ast_kinds.Use; id = id.loc.id }
node_of (UnconfiguredCode ast cfg opts) = ast
node_of (UnresolvedMacroCall call path) = call_node call
node_of (UnimplementedBuiltinMacro ast) = ast
node_of (InvalidDeriveTarget ast id) = ast
node_of (MalformedDerive ast id) = ast
node_of (MacroDefError ast message) = ast
node_of (MacroError ast path err) = ast
