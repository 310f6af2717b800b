-- What do globs read and write of the map that is built?
use Rattle.std.specs.Prelude.{ℕ, Bool, ◌||◌, not, nat_lt, length, List, Option, None, Some, unwrap_or, cond}
use Rattle.hir_nameres.specs.HirIds.declared.ids.MapId.{MapId}
use Rattle.hir_nameres.specs.HirIds.declared.ids.ModuleId.{ModuleId}
use Rattle.hir_nameres.specs.HirIds.declared.ids.TraitId.{TraitId}
use Rattle.hir_nameres.specs.HirIds.declared.ids.ModuleDefId.TheVariants as definitions
use Rattle.hir_nameres.specs.HirScope.Globs.{GlobNames}
use Rattle.hir_nameres.specs.HirPerNs.ModuleTree.{same_crate}
use Rattle.hir_nameres.specs.HirPerNs.PerNs.{Item, macros_only, nothing, types_only, values_only}
use Rattle.hir_nameres.specs.HirScope.Scope.{ScopeValue}
use Rattle.hir_nameres.specs.HirScope.Scope.Reads.{unnamed_vis}
use Rattle.hir_nameres.specs.HirPerNs.declared.imports.GlobId.{GlobId}
use Rattle.hir_nameres.specs.HirPerNs.declared.item_in_ns.ItemInNs.{ItemInNs}
use Rattle.hir_nameres.specs.HirPerNs.declared.per_ns.PerNs.{PerNs}
use Rattle.hir_nameres.specs.HirPerNs.declared.visibility.Visibility.{Visibility}
use Rattle.hir_nameres.specs.HirPerNs.declared.imports.ImportOrExternCrate.TheVariants as ways
use Rattle.hir_nameres.specs.HirPerNs.declared.item_in_ns.ItemInNs.TheVariants as in_ns
use Rattle.hir_nameres.specs.HirPerNs.declared.visibility.Visibility.TheVariants.{Public}
use Rattle.hir_nameres.specs.HirDefMapRules.Overlay.{Maps, entry_in, module_in, overlay}
use Rattle.hir_nameres.specs.HirDefMapRules.Scoping.Segments.{variant_bound, variant_in}
use Rattle.hir_nameres.specs.HirDefMapRules.State.{Map, ModuleValue, entry_at, globs_after, module_at, numbered, pushed, with_scope}
use Rattle.hir_nameres.specs.HirMapParts.declared.enum_variants.EnumVariant.{EnumVariant}
pub use Rattle.hir_def_map_laws.specs.SlotChanges.{with_macro, with_macro_vis, with_trait, with_type, with_type_vis, with_value, with_value_vis}
use Rattle.hir_glob_imports.specs.View.{NameTable, View}
use Rattle.hir_glob_imports.specs.declared.edge.Bound.{Bound}
use Rattle.hir_glob_imports.specs.declared.edge.Key.{Key}
use Rattle.hir_glob_imports.specs.declared.edge.Slot.{Slot}
use Rattle.hir_glob_imports.specs.declared.edge.Target.{Target}
use Rattle.hir_glob_imports.specs.declared.edge.Key.TheVariants.{Types, Values, Macros, Unnamed}
use Rattle.hir_glob_imports.specs.declared.edge.Target.TheVariants as targets
use Rattle.hir_import_rules.specs.Directives.{open_items}
use Rattle.hir_import_rules.specs.Visibilities.{greater_in, is_public, lesser_in, sees_in}

-- the scopes of a map that is built, beside finished maps, and which of their names globs brought
pub record ScopesValue : Type 0 where
  pub finished : Maps
  pub map : Map
  pub globs : GlobNames

-- ---- what stands at a key

-- a definition with what makes an item of it
abbrev pub bound_by : {D I : Type 0} → (D → ItemInNs) → Option (Item D I) → Option Bound
bound_by in_namespace None = None
bound_by in_namespace (Some item) = Some (record { def = in_namespace item.def; vis = item.vis })

-- a trait that has this visibility without a name
abbrev pub bound_trait : TraitId → Option Visibility → Option Bound
bound_trait id None = None
bound_trait id (Some vis) = Some (record { def = in_ns.Types (definitions.TraitId id); vis = vis })

-- what stands at a key, by what names stand for and who may see the traits without a name
abbrev pub bound_at : (List ℕ → PerNs) → (TraitId → Option Visibility) → Key → Option Bound
bound_at entries traits (Types name) = bound_by in_ns.Types (entries name).types
bound_at entries traits (Values name) = bound_by in_ns.Values (entries name).values
bound_at entries traits (Macros name) = bound_by in_ns.Macros (entries name).macros
bound_at entries traits (Unnamed id) = bound_trait id (traits id)

-- who may see a trait that a module has without a name
abbrev pub trait_vis : Option ModuleValue → TraitId → Option Visibility
trait_vis None id = None
trait_vis (Some m) id = unnamed_vis m.scope id

-- whether a glob through another crate brings what has this visibility: it brings what all may see alone
abbrev pub is_open : Bool → Visibility → Bool
is_open crossing vis = not crossing || is_public vis

abbrev pub open_vis : Bool → Option Visibility → Option Visibility
open_vis crossing None = None
open_vis crossing (Some vis) = cond (is_open crossing vis) (Some vis) None

-- whether a module lies in another crate than a map
abbrev pub is_foreign : MapId → ModuleId → Bool
is_foreign own m = not (same_crate m.map.krate own.krate)

-- a variant as a glob brings it: the glob alone says who may see it
abbrev pub variant_items : Option EnumVariant → PerNs
variant_items None = nothing
variant_items (Some variant) = variant_bound Public variant

-- what a name of a target stands for
abbrev pub entries_of : ScopesValue → Target → List ℕ → PerNs
entries_of n (targets.Own at) name = entry_at n.map at name
entries_of n (targets.Module m) name = open_items (is_foreign n.map.id m) (entry_in n.finished m name)
entries_of n (targets.Enum id) name = variant_items (variant_in (overlay n.finished n.map) id name)

-- who may see a trait that a target has without a name
abbrev pub traits_of : ScopesValue → Target → TraitId → Option Visibility
traits_of n (targets.Own at) id = trait_vis (module_at n.map at) id
traits_of n (targets.Module m) id = open_vis (is_foreign n.map.id m) (trait_vis (module_in n.finished m) id)
traits_of n (targets.Enum e) id = None

-- what stands at a key of a target
abbrev pub bound_of : ScopesValue → Target → Key → Option Bound
bound_of n of key = bound_at (entries_of n of) (traits_of n of) key

-- what globs read
abbrev pub view_of : ScopesValue → View
view_of n = record {
  has = λ at. nat_lt at (length n.map.modules);
  bound = bound_of n;
  sees = λ at vis. sees_in n.finished n.map (numbered n.map.id at) vis;
  lesser = λ glob source. unwrap_or (lesser_in n.finished n.map glob source) glob;
  greater = greater_in n.finished n.map;
}

-- ---- what they write

-- the items that a definition is alone
abbrev pub items_by : ItemInNs → Visibility → PerNs
items_by (in_ns.Types def) vis = types_only def vis None
items_by (in_ns.Values def) vis = values_only def vis None
items_by (in_ns.Macros def) vis = macros_only def vis None

-- items pushed to a name by a glob
abbrev pub pushed_by : ScopesValue → ℕ → List ℕ → PerNs → GlobId → ScopesValue
pushed_by n at name items by = record n {
  map = pushed n.map n.globs at name items (Some (ways.Glob by));
  globs = globs_after n.map n.globs at name items (Some (ways.Glob by));
}

-- the scopes where a module has a trait without a name
abbrev pub with_trait_at : ScopesValue → ℕ → TraitId → Visibility → ScopesValue
with_trait_at n at id vis = record n { map = with_scope n.map at (with_trait id vis None) }

-- a vacant slot takes what a target has there
abbrev pub copied_to : ScopesValue → ℕ → Key → Visibility → GlobId → Bound → ScopesValue
copied_to n at (Types name) vis by b = pushed_by n at name (items_by b.def vis) by
copied_to n at (Values name) vis by b = pushed_by n at name (items_by b.def vis) by
copied_to n at (Macros name) vis by b = pushed_by n at name (items_by b.def vis) by
copied_to n at (Unnamed id) vis by b = with_trait_at n at id vis

abbrev pub copied_where : ScopesValue → Slot → Visibility → GlobId → Option Bound → ScopesValue
copied_where n s vis by None = n
copied_where n s vis by (Some b) = copied_to n s.at s.key vis by b

abbrev pub copied : ScopesValue → Slot → Target → Visibility → GlobId → ScopesValue
copied n s of vis by = copied_where n s vis by (bound_of n of s.key)

-- a scope where a name stands for another definition
abbrev pub redefined : List ℕ → ItemInNs → Visibility → ScopeValue → ScopeValue
redefined name (in_ns.Types def) vis scope = with_type name def vis scope
redefined name (in_ns.Values def) vis scope = with_value name def vis scope
redefined name (in_ns.Macros def) vis scope = with_macro name def vis scope

abbrev pub redefined_at : ScopesValue → ℕ → List ℕ → ItemInNs → Visibility → ScopesValue
redefined_at n at name def vis = record n { map = with_scope n.map at (redefined name def vis) }

-- a slot takes the definition that a target has there
abbrev pub followed_to : ScopesValue → ℕ → Key → Visibility → Bound → ScopesValue
followed_to n at (Types name) vis b = redefined_at n at name b.def vis
followed_to n at (Values name) vis b = redefined_at n at name b.def vis
followed_to n at (Macros name) vis b = redefined_at n at name b.def vis
followed_to n at (Unnamed id) vis b = with_trait_at n at id vis

abbrev pub followed_where : ScopesValue → Slot → Visibility → Option Bound → ScopesValue
followed_where n s vis None = n
followed_where n s vis (Some b) = followed_to n s.at s.key vis b

abbrev pub followed : ScopesValue → Slot → Target → Visibility → ScopesValue
followed n s of vis = followed_where n s vis (bound_of n of s.key)

-- a scope where others may see what stands at a key
abbrev pub revised : Key → Visibility → ScopeValue → ScopeValue
revised (Types name) vis scope = with_type_vis name vis scope
revised (Values name) vis scope = with_value_vis name vis scope
revised (Macros name) vis scope = with_macro_vis name vis scope
revised (Unnamed id) vis scope = with_trait id vis None scope

abbrev pub raised : ScopesValue → Slot → Visibility → ScopesValue
raised n s vis = record n { map = with_scope n.map s.at (revised s.key vis) }

-- the names that globs read and write
abbrev pub scope_table : NameTable ScopesValue
scope_table = record { view = view_of; copied = copied; followed = followed; raised = raised }
