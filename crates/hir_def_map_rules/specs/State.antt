-- What a def map is, and what each building call makes of it.
use Rattle.std.specs.Prelude.{◌≡◌, ℕ, zero, suc, ◌<◌, ◌≤◌, ◌++◌, List, [], ◌∷◌, length, Option, None, Some, is_some, Bool, false, cond, slice_get}
use Rattle.std.specs.Prelude.{option_map}
use Rattle.std.specs.BTreeMap.{is_at, insert_entry}
use Rattle.std.specs.Map.{lookup}
use Rattle.hir_scope.specs.HirIds.declared.ast_id.AstId.{AstId}
use Rattle.hir_scope.specs.HirIds.declared.ids.ConstId.{ConstId}
use Rattle.hir_scope.specs.HirIds.declared.ids.Crate.{Crate}
use Rattle.hir_scope.specs.HirIds.declared.ids.EnumId.{EnumId}
use Rattle.hir_scope.specs.HirIds.declared.ids.ExternBlockId.{ExternBlockId}
use Rattle.hir_scope.specs.HirIds.declared.ids.ExternCrateId.{ExternCrateId}
use Rattle.hir_scope.specs.HirIds.declared.ids.FunctionId.{FunctionId}
use Rattle.hir_scope.specs.HirIds.declared.ids.ImplId.{ImplId}
use Rattle.hir_scope.specs.HirIds.declared.macro_kind.MacroId.{MacroId}
use Rattle.hir_scope.specs.HirIds.declared.ids.MapId.{MapId}
use Rattle.hir_scope.specs.HirIds.declared.ids.ModuleDefId.{ModuleDefId}
use Rattle.hir_scope.specs.HirIds.declared.ids.ModuleId.{ModuleId}
use Rattle.hir_scope.specs.HirIds.declared.macro_kind.ProcMacroId.{ProcMacroId}
use Rattle.hir_scope.specs.HirIds.declared.ids.UseId.{UseId}
use Rattle.hir_scope.specs.HirIds.contracts.ids.EnumIdOrd.TheImpl as enum_order
use Rattle.hir_scope.specs.HirPerNs.declared.imports.ImportOrExternCrate.{ImportOrExternCrate}
use Rattle.hir_scope.specs.HirPerNs.declared.per_ns.PerNs.{PerNs}
use Rattle.hir_scope.specs.HirPerNs.declared.visibility.Visibility.{Visibility}
use Rattle.hir_scope.specs.HirPerNs.PerNs.{nothing}
use Rattle.hir_scope.specs.Globs.{GlobNames, Place}
use Rattle.hir_scope.specs.Scope.{ScopeValue, binding_of, empty_scope}
use Rattle.hir_scope.specs.Scope.Push.{pushed_scope, pushed_globs, push_changes as scope_changes}
use Rattle.hir_map_parts.specs.declared.block_info.BlockInfo.{BlockInfo}
use Rattle.hir_def_map_rules.specs.declared.declaration.Declaration.TheVariants as declaration
use Rattle.hir_map_parts.specs.declared.derive_helpers.DeriveHelper.{DeriveHelper}
use Rattle.hir_map_parts.specs.declared.diagnostics.DefDiagnostic.{DefDiagnostic}
use Rattle.hir_map_parts.specs.declared.origin.ModuleOrigin.{ModuleOrigin}
use Rattle.hir_def_map_rules.specs.Declaration.{listed}
pub use Rattle.hir_map_parts.specs.State.{CrateData, new_data, Variants, MacroDataValue, Local, with_extern, at_name, with_name}

-- a module: where it is written, who may see it, what it is in, what it holds by name
pub record ModuleValue : Type 0 where
  pub origin : ModuleOrigin
  pub visibility : Visibility
  pub parent : Option ModuleId
  -- the first module of each name
  pub children : List (List ℕ × ModuleId)
  -- what each name stands for, and what the module declares
  pub scope : ScopeValue

-- the modules of a map by number, the root first, and the id of the map
pub record Modules : Type 0 where
  pub map : MapId
  pub modules : List ModuleValue

-- a def map, finished or still being built
pub record Map : Type 0 where
  pub id : MapId
  -- the module that holds the block, in a block's map
  pub holder : Option ModuleId
  -- the modules by number, the root first
  pub modules : List ModuleValue
  -- the variants of each enum that is declared
  pub enums : List (EnumId × Variants)
  -- the macros that are found by name in each module, and the `extern crate` that brought each, if one did
  pub macro_use_prelude : List (List ℕ × (MacroId × Option ExternCrateId))
  -- the module whose names are found in each module, and the `use` that names it, if one does
  pub prelude : Option (ModuleId × Option UseId)
  -- the macro that each item defines which defines one
  pub macro_ids : List (AstId × MacroId)
  -- the procedural macro that each function exports which exports one
  pub proc_macros : List (FunctionId × ProcMacroId)
  -- what is kept of each macro that the map defines
  pub macro_data : List (MacroId × MacroDataValue)
  -- the attributes that derives bring into scope on each item, in the order in which they come
  pub derive_helpers : List (AstId × List DeriveHelper)
  -- what went wrong, in the order in which it was met
  pub diagnostics : List DefDiagnostic
  pub crate_data : CrateData

-- ---- look-ups

-- what a name stands for in a module
abbrev pub entry_of : Option ModuleValue → List ℕ → PerNs
entry_of None name = nothing
entry_of (Some m) name = binding_of m.scope name

-- the module of this name below a module
abbrev pub child_of : Option ModuleValue → List ℕ → Option ModuleId
child_of None name = None
child_of (Some m) name = at_name m.children name

-- what a module is in
abbrev pub parent_of : Option ModuleValue → Option ModuleId
parent_of None = None
parent_of (Some m) = m.parent

-- the module of this number
abbrev pub module_at : Map → ℕ → Option ModuleValue
module_at map at = slice_get map.modules at

-- its scope, where it is there
abbrev pub scope_at : Map → ℕ → Option ScopeValue
scope_at map at = option_map (λ (m : ModuleValue). m.scope) (module_at map at)

abbrev pub entry_at : Map → ℕ → List ℕ → PerNs
entry_at map at name = entry_of (module_at map at) name

abbrev pub child_at : Map → ℕ → List ℕ → Option ModuleId
child_at map at name = child_of (module_at map at) name

abbrev pub parent_at : Map → ℕ → Option ModuleId
parent_at map at = parent_of (module_at map at)

-- the variants of an enum
abbrev pub variants_at : Map → EnumId → Option Variants
variants_at map id = lookup (is_at (enum_order.ghosts.cmp id)) map.enums

-- ---- building

-- the module of this number in a map
abbrev pub numbered : MapId → ℕ → ModuleId
numbered id index = record { map = id; index = index }

-- the root of a map
abbrev pub root_of : MapId → ModuleId
root_of id = numbered id 0

-- the map of a crate
abbrev pub crate_map : Crate → MapId
crate_map krate = record { krate = krate; block = None }

-- the root of a crate
abbrev pub crate_root : Crate → ModuleId
crate_root krate = root_of (crate_map krate)

-- a map with its root alone
abbrev pub root_map : MapId → Option ModuleId → CrateData → ModuleValue → Map
root_map id holder crate_data root = record {
  id = id;
  holder = holder;
  modules = root ∷ [];
  enums = [];
  macro_use_prelude = [];
  prelude = None;
  macro_ids = [];
  proc_macros = [];
  macro_data = [];
  derive_helpers = [];
  diagnostics = [];
  crate_data = crate_data;
}

-- the map of a crate, or of a block that a module holds
abbrev pub map_id_of : Crate → Option BlockInfo → MapId
map_id_of krate block = record { krate = krate; block = option_map (λ (b : BlockInfo). b.block) block }

abbrev pub empty_map : Crate → CrateData → ModuleValue → Option BlockInfo → Map
empty_map krate crate_data root block = root_map (map_id_of krate block) (option_map (λ (b : BlockInfo). b.parent) block) crate_data root

-- the id of the next module
abbrev pub new_id : Map → ModuleId
new_id map = numbered map.id (length map.modules)

-- the list with one value changed, where it is there
abbrev pub changed_at : {A : Type 0} → List A → ℕ → (A → A) → List A
changed_at [] at change = []
changed_at (x ∷ xs) zero change = change x ∷ xs
changed_at (x ∷ xs) (suc at) change = x ∷ changed_at xs at change

-- the module with one more child, unless the name is taken
abbrev pub with_child : List ℕ → ModuleId → ModuleValue → ModuleValue
with_child name id m = record m { children = cond (is_some (at_name m.children name)) m.children (with_name m.children name id) }

-- a module without children and bindings
abbrev pub new_module : ModuleOrigin → Visibility → Option ModuleId → ModuleValue
new_module origin visibility parent = record {
  origin = origin;
  visibility = visibility;
  parent = parent;
  children = [];
  scope = empty_scope;
}

-- the map with one more module; a module gains it as a child, unless the name is taken
abbrev pub with_module : Map → ℕ → List ℕ → ModuleValue → Map
with_module map parent name new =
    record map { modules = changed_at map.modules parent (with_child name (new_id map)) ++ new ∷ [] }

-- the module with its scope changed
abbrev pub with_module_scope : (ScopeValue → ScopeValue) → ModuleValue → ModuleValue
with_module_scope change m = record m { scope = change m.scope }

-- the map with the scope of one module changed, where that is there
abbrev pub with_scope : Map → ℕ → (ScopeValue → ScopeValue) → Map
with_scope map at change = record map { modules = changed_at map.modules at (with_module_scope change) }

-- the map where a module declares one more definition
abbrev pub with_declared : Map → ℕ → ModuleDefId → Map
with_declared map at def = with_scope map at (listed (declaration.Def def))

-- the map where a module has one more `use` item
abbrev pub with_use : Map → ℕ → UseId → Map
with_use map at use_ = with_scope map at (listed (declaration.Use use_))

-- the map where a module has one more `extern crate` item
abbrev pub with_extern_crate : Map → ℕ → ExternCrateId → Map
with_extern_crate map at extern_crate = with_scope map at (listed (declaration.ExternCrate extern_crate))

-- the map where a module has one more impl, of a trait or not
abbrev pub with_impl : Map → ℕ → ImplId → Bool → Map
with_impl map at imp is_trait_impl = with_scope map at (listed (declaration.Impl imp is_trait_impl))

-- the map where a module has one more extern block
abbrev pub with_extern_block : Map → ℕ → ExternBlockId → Map
with_extern_block map at extern_block = with_scope map at (listed (declaration.ExternBlock extern_block))

-- the map where a module has one more constant without a name
abbrev pub with_unnamed_const : Map → ℕ → ConstId → Map
with_unnamed_const map at konst = with_scope map at (listed (declaration.UnnamedConst konst))

-- the names that globs brought, where none has brought any
abbrev pub no_globs : GlobNames
no_globs = record { types = []; values = []; macros = [] }

-- a name in the module of a number
abbrev pub place_at : MapId → ℕ → List ℕ → Place
place_at id at name = (numbered id at, name)

-- the module once items were pushed to a place by an import
abbrev pub pushed_module : GlobNames → Place → PerNs → Option ImportOrExternCrate → ModuleValue → ModuleValue
pushed_module globs place items import m = record m { scope = pushed_scope globs place items import m.scope }

-- the map once items were pushed under a name in a module by an import
abbrev pub pushed : Map → GlobNames → ℕ → List ℕ → PerNs → Option ImportOrExternCrate → Map
pushed map globs at name items import =
    record map { modules = changed_at map.modules at (pushed_module globs (place_at map.id at name) items import) }

-- the names that globs brought, once items were pushed to a place in a module
abbrev pub globs_in : Option ModuleValue → GlobNames → Place → PerNs → Option ImportOrExternCrate → GlobNames
globs_in None globs place items import = globs
globs_in (Some m) globs place items import = pushed_globs m.scope place items import globs

-- the names that globs brought, once items were pushed under a name in a module by an import
abbrev pub globs_after : Map → GlobNames → ℕ → List ℕ → PerNs → Option ImportOrExternCrate → GlobNames
globs_after map globs at name items import = globs_in (module_at map at) globs (place_at map.id at name) items import

-- whether a push to a place changes anything in a module
abbrev pub changes_module : Option ModuleValue → GlobNames → Place → PerNs → Option ImportOrExternCrate → Bool
changes_module None globs place items import = false
changes_module (Some m) globs place items import = scope_changes m.scope globs place items import

-- whether a push changes anything
abbrev pub push_changes : Map → GlobNames → ℕ → List ℕ → PerNs → Option ImportOrExternCrate → Bool
push_changes map globs at name items import = changes_module (module_at map at) globs (place_at map.id at name) items import

-- ---- the other parts of a map

-- the map with the variants of an enum
abbrev pub with_enum : Map → EnumId → Variants → Map
with_enum map id variants = record map { enums = insert_entry (enum_order.ghosts.cmp) map.enums id variants }

-- the map with a macro in its macro-use prelude, in place of another of its name
abbrev pub with_macro_use : Map → List ℕ → MacroId → Option ExternCrateId → Map
with_macro_use map name makro by = record map { macro_use_prelude = with_name map.macro_use_prelude name (makro, by) }

-- the map with a prelude module
abbrev pub with_prelude : Map → Option (ModuleId × Option UseId) → Map
with_prelude map prelude = record map { prelude = prelude }

-- ---- what holds of every def map

-- the root is there, and numbers fit
pub record IsNumbered (modules : List ModuleValue) : Type 0 where
  pub root : 0 < length modules
  pub numbers : length modules ≤ 2147483647

-- ---- what holds where each module has a parent that comes before

-- a parent is a module of the map that comes before
abbrev pub IsBefore : MapId → ℕ → Option ModuleId → Type 0
IsBefore id at None = Unit {0}
IsBefore id at (Some p) = (p.map ≡ id) × (p.index < at)

-- parents come before their children
abbrev pub IsInOrder : Map → Type 0
IsInOrder map = (at : ℕ) (m : ModuleValue) → module_at map at ≡ Some m → IsBefore map.id at m.parent
