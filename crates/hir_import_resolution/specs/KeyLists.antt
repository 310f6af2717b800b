-- At which keys does a target have something, in the order in which a glob brings it?
use Rattle.std.specs.Prelude.{ℕ, Bool, false, List, [], ◌∷◌, ◌++◌, Option, None, Some, is_some, cond, map, option_map}
use Rattle.std.specs.Map.{values_of}
use Rattle.hir_nameres.specs.HirIds.declared.ids.ModuleId.{ModuleId}
use Rattle.hir_nameres.specs.HirIds.declared.ids.TraitId.{TraitId}
use Rattle.hir_nameres.specs.HirPerNs.PerNs.{Item}
use Rattle.hir_nameres.specs.HirScope.Scope.{ScopeValue}
use Rattle.hir_nameres.specs.HirScope.Scope.Reads.{traits_among, unnamed_vis}
use Rattle.hir_nameres.specs.HirPerNs.declared.imports.ImportId.{ImportId}
use Rattle.hir_nameres.specs.HirPerNs.declared.per_ns.Namespace.{Namespace}
use Rattle.hir_nameres.specs.HirPerNs.declared.per_ns.PerNs.{PerNs}
use Rattle.hir_nameres.specs.HirPerNs.declared.visibility.Visibility.{Visibility}
use Rattle.hir_nameres.specs.HirPerNs.declared.per_ns.Namespace.TheVariants as namespaces
use Rattle.hir_def_map_rules.specs.Overlay.{Maps, module_in, overlay, variants_in}
use Rattle.hir_def_map_rules.specs.State.{ModuleValue, Variants, scope_at}
use Rattle.hir_glob_imports.specs.declared.edge.Key.{Key}
use Rattle.hir_glob_imports.specs.declared.edge.Target.{Target}
use Rattle.hir_glob_imports.specs.declared.edge.Key.TheVariants.{Types, Values, Macros, Unnamed}
use Rattle.hir_glob_imports.specs.declared.edge.Target.TheVariants as targets
use Rattle.hir_import_rules.specs.Names.{ScopesValue, is_foreign, is_open, variant_items}

abbrev pub key_in : Namespace → List ℕ → Key
key_in namespaces.Types name = Types name
key_in namespaces.Values name = Values name
key_in namespaces.Macros name = Macros name

-- the keys of names in a namespace, of those that are open
abbrev pub name_keys : {D I : Type 0} → Namespace → Bool → List (List ℕ × Item D I) → List Key
name_keys namespace crossing [] = []
name_keys namespace crossing (e ∷ es) =
    cond (is_open crossing e.1.vis) (key_in namespace e.0 ∷ name_keys namespace crossing es) (name_keys namespace crossing es)

-- the key of a trait that has this visibility without a name, where that is open
abbrev pub trait_key : Bool → TraitId → Option Visibility → List Key
trait_key crossing id None = []
trait_key crossing id (Some vis) = cond (is_open crossing vis) (Unnamed id ∷ []) []

-- the keys of those of some traits that a scope has without a name
abbrev pub trait_keys : Bool → ScopeValue → List TraitId → List Key
trait_keys crossing scope [] = []
trait_keys crossing scope (id ∷ ids) = trait_key crossing id (unnamed_vis scope id) ++ trait_keys crossing scope ids

-- the traits of a scope: those that names stand for, and those without one
abbrev pub traits_in : ScopeValue → List TraitId
traits_in scope = traits_among (values_of scope.types) ++ map (λ (entry : TraitId × Item (Unit {0}) ImportId). entry.0) scope.unnamed_traits

-- the keys of a scope: types, values and macros by name, and then traits without a name
abbrev pub scope_keys : Bool → ScopeValue → List Key
scope_keys crossing scope =
    ((name_keys namespaces.Types crossing scope.types ++ name_keys namespaces.Values crossing scope.values) ++ name_keys namespaces.Macros crossing
    scope.macros)
    ++ trait_keys crossing scope (traits_in scope)

abbrev pub keys_in : Bool → Option ScopeValue → List Key
keys_in crossing None = []
keys_in crossing (Some scope) = scope_keys crossing scope

-- whether something is bound in a namespace
abbrev pub has_namespace : Namespace → PerNs → Bool
has_namespace namespaces.Types items = is_some items.types
has_namespace namespaces.Values items = is_some items.values
has_namespace namespaces.Macros items = is_some items.macros

-- the keys of variants in a namespace
abbrev pub variant_keys : Namespace → Variants → List Key
variant_keys namespace [] = []
variant_keys namespace (v ∷ vs) =
    cond (has_namespace namespace (variant_items (Some v.1))) (key_in namespace v.0 ∷ variant_keys namespace vs) (variant_keys namespace vs)

-- the keys of an enum
abbrev pub enum_keys : Variants → List Key
enum_keys vs = variant_keys namespaces.Types vs ++ variant_keys namespaces.Values vs

abbrev pub keys_among : Option Variants → List Key
keys_among None = []
keys_among (Some vs) = enum_keys vs

-- the scope of a module
abbrev pub scope_in : Maps → ModuleId → Option ScopeValue
scope_in maps m = option_map (λ (m : ModuleValue). m.scope) (module_in maps m)

-- the keys of a target
abbrev pub keys_of : ScopesValue → Target → List Key
keys_of n (targets.Own at) = keys_in false (scope_at n.map at)
keys_of n (targets.Module m) = keys_in (is_foreign n.map.id m) (scope_in n.finished m)
keys_of n (targets.Enum id) = keys_among (variants_in (overlay n.finished n.map) id)
