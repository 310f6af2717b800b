-- Which definition does an import reach in the end?
use Rattle.std.specs.Prelude.{ℕ, zero, suc, Option, None, Some}
use Rattle.hir_ids.specs.declared.macro_kind.MacroId.{MacroId}
use Rattle.hir_ids.specs.declared.ids.ModuleDefId.{ModuleDefId}
use Rattle.hir_ids.specs.declared.ids.ModuleId.{ModuleId}
use Rattle.hir_ids.specs.declared.ids.ModuleDefId.TheVariants as def
use Rattle.hir_per_ns.specs.contracts.imports.ImportOrExternCrateOrd.TheImpl as import_or_extern_crate
use Rattle.hir_per_ns.specs.contracts.imports.ImportOrGlobOrd.TheImpl as import_or_glob
use Rattle.hir_per_ns.specs.declared.imports.ImportId.{ImportId}
use Rattle.hir_per_ns.specs.declared.imports.ImportOrDef.{ImportOrDef}
use Rattle.hir_per_ns.specs.declared.imports.ImportOrDef.TheVariants as reached
use Rattle.hir_per_ns.specs.declared.imports.ImportOrExternCrate.TheVariants as item
use Rattle.hir_per_ns.specs.declared.imports.ImportOrGlob.TheVariants as value
use Rattle.hir_per_ns.specs.declared.per_ns.Namespace.{Namespace}
use Rattle.hir_per_ns.specs.declared.per_ns.Namespace.TheVariants.{Types, Values, Macros}
use Rattle.hir_per_ns.specs.PerNs.{Item}
use Rattle.hir_per_ns.specs.declared.per_ns.PerNs.{PerNs}
use Rattle.hir_per_ns.specs.declared.visibility.Visibility.TheVariants.{Public}
use Rattle.hir_scope.specs.Entries.{value_at}
use Rattle.hir_scope.specs.Scope.{ScopeValue}

-- how many records of a chain are read at most
abbrev pub record_limit : ℕ
record_limit = 4096

-- what an import reached in a namespace
abbrev pub record_of : Namespace → ScopeValue → ImportId → Option ImportOrDef
record_of Types scope import = value_at import_or_extern_crate.ghosts.cmp scope.type_imports (item.Import import)
record_of Values scope import = value_at import_or_glob.ghosts.cmp scope.value_imports (value.Import import)
record_of Macros scope import = value_at import_or_extern_crate.ghosts.cmp scope.macro_imports (item.Import import)

-- the rest of a chain, where the scope of the next import is there
abbrev pub rest_in : (ScopeValue → ImportId → Option ModuleDefId) → ImportId → Option ScopeValue → Option ModuleDefId
rest_in rest import None = None
rest_in rest import (Some scope) = rest scope import

-- the end of a chain that goes on by this record
abbrev pub goes_on : (ModuleId → Option ScopeValue) → (ScopeValue → ImportId → Option ModuleDefId) → Option ImportOrDef → Option ModuleDefId
goes_on scope_of rest None = None
goes_on scope_of rest (Some (reached.Glob glob)) = None
goes_on scope_of rest (Some (reached.ExternCrate declared)) = None
goes_on scope_of rest (Some (reached.Def def)) = Some def
goes_on scope_of rest (Some (reached.Import import)) = rest_in rest import (scope_of import.use_.loc.container)

-- the definition at the end of a chain of at most so many records, which begins at an import of a scope
unfoldable pub chain_end : (ModuleId → Option ScopeValue) → Namespace → ℕ → ScopeValue → ImportId → Option ModuleDefId
chain_end scope_of namespace zero scope import = None
chain_end scope_of namespace (suc left) scope import = goes_on scope_of (chain_end scope_of namespace left) (record_of namespace scope import)

-- a definition that everybody may see, and no import
abbrev pub public_item : {D I : Type 0} → Option D → Option (Item D I)
public_item None = None
public_item (Some def) = Some (record { def = def; vis = Public; import = None })

-- a macro, where the definition is one
abbrev pub macro_of : Option ModuleDefId → Option MacroId
macro_of None = None
macro_of (Some (def.MacroId id)) = Some id
macro_of (Some (def.ModuleId id)) = None
macro_of (Some (def.FunctionId id)) = None
macro_of (Some (def.AdtId id)) = None
macro_of (Some (def.EnumVariantId id)) = None
macro_of (Some (def.ConstId id)) = None
macro_of (Some (def.StaticId id)) = None
macro_of (Some (def.TraitId id)) = None
macro_of (Some (def.TypeAliasId id)) = None
macro_of (Some (def.BuiltinType id)) = None

-- what an import of a scope reaches in the end, by namespace
abbrev pub reached_at_last : (ModuleId → Option ScopeValue) → ScopeValue → ImportId → PerNs
reached_at_last scope_of scope import = record {
  types = public_item (chain_end scope_of Types record_limit scope import);
  values = public_item (chain_end scope_of Values record_limit scope import);
  macros = public_item (macro_of (chain_end scope_of Macros record_limit scope import));
}
