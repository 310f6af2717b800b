-- What does a scope hold?
use Rattle.hir_scope_table.specs.Entries.{item_at}
use Rattle.std.specs.Prelude.{ℕ, Bool, List, [], Option}
use Rattle.std.specs.Ordering.{nat_cmp}
use Rattle.std.specs.Cmp.Lexicographic.{slice_cmp}
use Rattle.std.specs.BTreeMap.{is_at}
use Rattle.std.specs.Map.{lookup}
use Rattle.either.specs.declared.Either.{Either}
use Rattle.hir_ids.specs.declared.ast_id.AstId.{AstId}
use Rattle.hir_ids.specs.declared.ast_id.AttrId.{AttrId}
use Rattle.hir_ids.specs.declared.macro_kind.BuiltinDeriveImplId.{BuiltinDeriveImplId}
use Rattle.hir_ids.specs.declared.ids.ConstId.{ConstId}
use Rattle.hir_ids.specs.declared.ids.ExternBlockId.{ExternBlockId}
use Rattle.hir_ids.specs.declared.ids.ExternCrateId.{ExternCrateId}
use Rattle.hir_ids.specs.declared.ids.ImplId.{ImplId}
use Rattle.hir_ids.specs.declared.ast_id.MacroCallId.{MacroCallId}
use Rattle.hir_ids.specs.declared.macro_kind.MacroId.{MacroId}
use Rattle.hir_ids.specs.declared.ids.ModuleDefId.{ModuleDefId}
use Rattle.hir_ids.specs.declared.ids.TraitId.{TraitId}
use Rattle.hir_ids.specs.declared.ids.UseId.{UseId}
use Rattle.hir_per_ns.specs.declared.imports.ImportId.{ImportId}
use Rattle.hir_per_ns.specs.declared.imports.ImportOrDef.{ImportOrDef}
use Rattle.hir_per_ns.specs.declared.imports.ImportOrExternCrate.{ImportOrExternCrate}
use Rattle.hir_per_ns.specs.declared.imports.ImportOrGlob.{ImportOrGlob}
use Rattle.hir_per_ns.specs.PerNs.{Item}
use Rattle.hir_textual_scope.specs.declared.textual_scope.TextualMacro.{TextualMacro}
use Rattle.hir_per_ns.specs.declared.per_ns.PerNs.{PerNs}
pub mod Push
pub mod Updates
pub mod Entries
pub mod Reads

-- what a derive path of an attribute became: a call, or the impl of a builtin macro
abbrev pub DeriveCall : Type 0
DeriveCall = Either MacroCallId BuiltinDeriveImplId

-- a `derive` attribute: its call, and one slot for each of its paths
pub record DeriveCalls : Type 0 where
  pub attr_id : AttrId
  pub attr_call_id : MacroCallId
  pub derive_call_ids : List (Option DeriveCall)

-- a scope: what its names stand for, by name, and what it declares, each list in the order of insertion
pub record ScopeValue : Type 0 where
  pub types : List (List ℕ × Item ModuleDefId ImportOrExternCrate)
  pub values : List (List ℕ × Item ModuleDefId ImportOrGlob)
  pub macros : List (List ℕ × Item MacroId ImportOrExternCrate)
  -- the unresolved names: they were pushed with nothing
  pub unresolved : List (List ℕ)
  pub declarations : List ModuleDefId
  -- the impls, and whether they are of a trait
  pub impls : List (ImplId × Bool)
  pub builtin_derive_impls : List BuiltinDeriveImplId
  pub extern_blocks : List ExternBlockId
  pub unnamed_consts : List ConstId
  -- the traits that are imported without a name, each once
  pub unnamed_traits : List (TraitId × Item (Unit {0}) ImportId)
  -- what each import reached, by namespace and by import
  pub type_imports : List (ImportOrExternCrate × ImportOrDef)
  pub value_imports : List (ImportOrGlob × ImportOrDef)
  pub macro_imports : List (ImportOrExternCrate × ImportOrDef)
  pub use_decls : List UseId
  pub extern_crate_decls : List ExternCrateId
  -- the macros in textual scope, as they were defined
  pub legacy_macros : List TextualMacro
  -- the calls that attributes, macro calls and derives became, by node
  pub attr_macros : List (AstId × MacroCallId)
  pub macro_calls : List (AstId × MacroCallId)
  pub derive_macros : List (AstId × List DeriveCalls)

-- a scope without anything
abbrev pub empty_scope : ScopeValue
empty_scope = record {
  types = [];
  values = [];
  macros = [];
  unresolved = [];
  declarations = [];
  impls = [];
  builtin_derive_impls = [];
  extern_blocks = [];
  unnamed_consts = [];
  unnamed_traits = [];
  type_imports = [];
  value_imports = [];
  macro_imports = [];
  use_decls = [];
  extern_crate_decls = [];
  legacy_macros = [];
  attr_macros = [];
  macro_calls = [];
  derive_macros = [];
}

-- what a name stands for in a scope
abbrev pub binding_of : ScopeValue → List ℕ → PerNs
binding_of scope name = record { types = item_at scope.types name; values = item_at scope.values name; macros = item_at scope.macros name }
