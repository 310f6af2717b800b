-- Which definition is an item of a source?
use Rattle.std.specs.Prelude.{ℕ, Option, None, Some}
use Rattle.hir_nameres.specs.HirIds.declared.ast_id.AstId.{AstId}
use Rattle.hir_nameres.specs.HirIds.declared.ast_id.AstKind.{AstKind}
use Rattle.hir_nameres.specs.HirIds.declared.ids.ConstId.{ConstId}
use Rattle.hir_nameres.specs.HirIds.declared.ids.EnumId.{EnumId}
use Rattle.hir_nameres.specs.HirIds.declared.ids.ExternBlockId.{ExternBlockId}
use Rattle.hir_nameres.specs.HirIds.declared.ids.ExternCrateId.{ExternCrateId}
use Rattle.hir_nameres.specs.HirIds.declared.ids.FunctionId.{FunctionId}
use Rattle.hir_nameres.specs.HirIds.declared.ids.ImplId.{ImplId}
use Rattle.hir_nameres.specs.HirIds.declared.ids.ItemContainerId.{ItemContainerId}
use Rattle.hir_nameres.specs.HirIds.declared.macro_kind.MacroExpander.{MacroExpander}
use Rattle.hir_nameres.specs.HirIds.declared.macro_kind.MacroId.{MacroId}
use Rattle.hir_nameres.specs.HirIds.declared.macro_kind.MacroLoc.{MacroLoc}
use Rattle.hir_nameres.specs.HirIds.declared.ids.ModuleId.{ModuleId}
use Rattle.hir_nameres.specs.HirIds.declared.ids.StaticId.{StaticId}
use Rattle.hir_nameres.specs.HirIds.declared.ids.StructId.{StructId}
use Rattle.hir_nameres.specs.HirIds.declared.ast_id.SyntaxId.{SyntaxId}
use Rattle.hir_nameres.specs.HirIds.declared.ids.TraitId.{TraitId}
use Rattle.hir_nameres.specs.HirIds.declared.ids.TypeAliasId.{TypeAliasId}
use Rattle.hir_nameres.specs.HirIds.declared.ids.UnionId.{UnionId}
use Rattle.hir_nameres.specs.HirIds.declared.ids.UseId.{UseId}
use Rattle.hir_nameres.specs.HirIds.declared.ids.ItemContainerId.TheVariants as containers
use Rattle.hir_nameres.specs.HirIds.declared.macro_kind.MacroId.TheVariants as macros
use Rattle.hir_nameres.specs.HirBase.declared.tree_id.TreeId.{TreeId}
use Rattle.hir_nameres.specs.HirDefMapRules.State.{Map, numbered}
use Rattle.hir_collector_rules.specs.declared.site.Site.{Site}

-- the module of a number
abbrev pub module_id : Map → ℕ → ModuleId
module_id m home = numbered m.id home

-- the node of an item of a tree
abbrev pub node_of : TreeId → AstKind → SyntaxId → AstId
node_of tree kind id = record { file_id = tree.file; block = tree.block; kind = kind; id = id }

-- what holds an item: an extern block, or else a module
abbrev pub container_by : ModuleId → Option ExternBlockId → ItemContainerId
container_by at None = containers.ModuleId at
container_by at (Some block) = containers.ExternBlockId block

-- what holds the items of a site
abbrev pub container_of : Map → Site → ItemContainerId
container_of m s = container_by (module_id m s.home) s.extern_block

-- the function, constant, static or type alias of a site that a node writes
abbrev pub function_id : Map → Site → SyntaxId → FunctionId
function_id m s id = record { loc = record { container = container_of m s; file_id = s.tree.file; block = s.tree.block; id = id } }

abbrev pub const_id : Map → Site → SyntaxId → ConstId
const_id m s id = record { loc = record { container = container_of m s; file_id = s.tree.file; block = s.tree.block; id = id } }

abbrev pub static_id : Map → Site → SyntaxId → StaticId
static_id m s id = record { loc = record { container = container_of m s; file_id = s.tree.file; block = s.tree.block; id = id } }

abbrev pub type_alias_id : Map → Site → SyntaxId → TypeAliasId
type_alias_id m s id = record { loc = record { container = container_of m s; file_id = s.tree.file; block = s.tree.block; id = id } }

-- the struct, union, enum, trait, impl, extern block, `use` item or `extern crate` of a site's module that a node writes
abbrev pub struct_id : Map → Site → SyntaxId → StructId
struct_id m s id = record { loc = record { container = module_id m s.home; file_id = s.tree.file; block = s.tree.block; id = id } }

abbrev pub union_id : Map → Site → SyntaxId → UnionId
union_id m s id = record { loc = record { container = module_id m s.home; file_id = s.tree.file; block = s.tree.block; id = id } }

abbrev pub enum_id : Map → Site → SyntaxId → EnumId
enum_id m s id = record { loc = record { container = module_id m s.home; file_id = s.tree.file; block = s.tree.block; id = id } }

abbrev pub trait_id : Map → Site → SyntaxId → TraitId
trait_id m s id = record { loc = record { container = module_id m s.home; file_id = s.tree.file; block = s.tree.block; id = id } }

abbrev pub impl_id : Map → Site → SyntaxId → ImplId
impl_id m s id = record { loc = record { container = module_id m s.home; file_id = s.tree.file; block = s.tree.block; id = id } }

abbrev pub extern_block_id : Map → Site → SyntaxId → ExternBlockId
extern_block_id m s id = record { loc = record { container = module_id m s.home; file_id = s.tree.file; block = s.tree.block; id = id } }

abbrev pub use_id : Map → Site → SyntaxId → UseId
use_id m s id = record { loc = record { container = module_id m s.home; file_id = s.tree.file; block = s.tree.block; id = id } }

abbrev pub extern_crate_id : Map → Site → SyntaxId → ExternCrateId
extern_crate_id m s id = record { loc = record { container = module_id m s.home; file_id = s.tree.file; block = s.tree.block; id = id } }

-- the macro that a `macro_rules` or a `macro` item of a site's module defines, with what expands it
abbrev pub macro_loc : Map → Site → SyntaxId → MacroExpander → MacroLoc
macro_loc m s id expander = record { container = module_id m s.home; file_id = s.tree.file; block = s.tree.block; id = id; expander = expander }

abbrev pub macro_rules_id : Map → Site → SyntaxId → MacroExpander → MacroId
macro_rules_id m s id expander = macros.MacroRulesId (record { loc = macro_loc m s id expander })

abbrev pub macro_def_id : Map → Site → SyntaxId → MacroExpander → MacroId
macro_def_id m s id expander = macros.Macro2Id (record { loc = macro_loc m s id expander })
