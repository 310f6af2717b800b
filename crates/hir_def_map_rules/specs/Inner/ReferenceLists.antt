-- The references of a map, one after another, as the code walks over them; `None` stands for what has no reference.
use Rattle.std.specs.Prelude.{ℕ, Bool, ◌||◌, List, [], ◌∷◌, ◌++◌, Option, None, Some, is_some, cond, map, option_map}
use Rattle.std.specs.List.{list_any}
use Rattle.hir_scope.specs.HirIds.declared.ids.Crate.{Crate}
use Rattle.hir_scope.specs.HirIds.declared.ids.ExternCrateId.{ExternCrateId}
use Rattle.hir_scope.specs.HirIds.declared.macro_kind.MacroId.{MacroId}
use Rattle.hir_scope.specs.HirIds.declared.ids.MapId.{MapId}
use Rattle.hir_scope.specs.HirIds.declared.ids.ModuleDefId.{ModuleDefId}
use Rattle.hir_scope.specs.HirIds.declared.ids.ModuleId.{ModuleId}
use Rattle.hir_scope.specs.HirIds.declared.ids.TraitId.{TraitId}
use Rattle.hir_scope.specs.HirIds.declared.ids.UseId.{UseId}
use Rattle.hir_scope.specs.Scope.{ScopeValue}
use Rattle.hir_scope.specs.HirPerNs.declared.imports.ImportId.{ImportId}
use Rattle.hir_scope.specs.HirPerNs.declared.imports.ImportOrExternCrate.{ImportOrExternCrate}
use Rattle.hir_scope.specs.HirPerNs.declared.imports.ImportOrGlob.{ImportOrGlob}
use Rattle.hir_scope.specs.HirPerNs.declared.visibility.Visibility.{Visibility}
use Rattle.hir_scope.specs.HirPerNs.PerNs.{Item}
use Rattle.hir_def_map_rules.specs.declared.reference.Reference.{Reference}
use Rattle.hir_def_map_rules.specs.declared.reference.Reference.TheVariants as reference
use Rattle.hir_def_map_rules.specs.References.{reference_to, test_of, visibility_reference}
use Rattle.hir_def_map_rules.specs.State.{Local, Map, ModuleValue, crate_map}

-- a module before other references, if there is one
abbrev pub module_before : Option ModuleId → List (Option Reference) → List (Option Reference)
module_before None rest = rest
module_before (Some m) rest = Some (reference.Module m) ∷ rest

-- so a crate's map
abbrev pub crate_before : Option Crate → List (Option Reference) → List (Option Reference)
crate_before None rest = rest
crate_before (Some c) rest = Some (reference.Map (crate_map c)) ∷ rest

abbrev pub child_reference : (List ℕ × ModuleId) → Option Reference
child_reference child = Some (reference.Module child.1)

-- what an item is, and who may see it
abbrev pub item_reference : {K I : Type 0} → (K × Item ModuleDefId I) → Option Reference
item_reference item = reference_to item.1.def

abbrev pub item_visibility : {K D I : Type 0} → (K × Item D I) → Option Reference
item_visibility item = visibility_reference item.1.vis

abbrev pub extern_reference : (List ℕ × (ModuleId × Option ExternCrateId)) → Option Reference
extern_reference entry = Some (reference.Module entry.1.0)

abbrev pub crate_reference : Crate → Option Reference
crate_reference c = Some (reference.Map (crate_map c))

-- a visibility before other references, if there is one
abbrev pub visibility_before : Option Visibility → List (Option Reference) → List (Option Reference)
visibility_before None rest = rest
visibility_before (Some vis) rest = visibility_reference vis ∷ rest

-- what items are and who may see each, one item after another, before other references
abbrev pub items_before : {K I : Type 0} → List (K × Item ModuleDefId I) → List (Option Reference) → List (Option Reference)
items_before [] rest = rest
items_before (item ∷ items) rest = item_reference item ∷ item_visibility item ∷ items_before items rest

-- types and values, each behind who may see the one before, if that is next, and then who may see macros, and traits without names
abbrev pub scope_list : Option Visibility → List (List ℕ × Item ModuleDefId ImportOrExternCrate) → Option Visibility
    → List (List ℕ × Item ModuleDefId ImportOrGlob)
    → List (List ℕ × Item MacroId ImportOrExternCrate) → List (TraitId × Item (Unit {0}) ImportId) → List (Option Reference)
scope_list type_vis types value_vis values macros traits =
    visibility_before type_vis (items_before types
    (visibility_before value_vis (items_before values (map item_visibility macros ++ map item_visibility traits))))

-- a parent, a visibility, children and what a scope refers to
abbrev pub module_list : Option ModuleId → Option Visibility → List (List ℕ × ModuleId) → List (Option Reference) → List (Option Reference)
module_list parent vis children scope = module_before parent (visibility_before vis (map child_reference children ++ scope))

-- a prelude, a holder, the crates that paths may begin with, those that are depended on, and a block's crate
abbrev pub besides_list : Option ModuleId → Option ModuleId → Local → List Crate → Option Crate → List (Option Reference)
besides_list prelude holder externs crates own =
    module_before prelude (module_before holder (map extern_reference externs ++ (map crate_reference crates ++ crate_before own [])))

-- the crate of a block's map
abbrev pub block_crate : MapId → Option Crate
block_crate id = cond (is_some id.block) (Some id.krate) None

-- the references of a scope
abbrev pub references_in_scope : ScopeValue → List (Option Reference)
references_in_scope scope = scope_list None scope.types None scope.values scope.macros scope.unnamed_traits

-- the references of a module
abbrev pub references_in : ModuleValue → List (Option Reference)
references_in m = module_list m.parent (Some m.visibility) m.children (references_in_scope m.scope)

-- those of a map besides the ones of its modules
abbrev pub references_besides : Map → Local → List (Option Reference)
references_besides map local =
    besides_list (option_map (λ (p : ModuleId × Option UseId). p.0) map.prelude) map.holder local map.crate_data.dependencies (block_crate map.id)

-- ---- whether a test holds of some reference of these lists

abbrev pub listed_in : (Reference → Bool) → ModuleValue → Bool
listed_in test m = list_any (test_of test) (references_in m)

abbrev pub listed_besides : (Reference → Bool) → Map → Local → Bool
listed_besides test map local = list_any (test_of test) (references_besides map local)

abbrev pub any_listed : (Reference → Bool) → Map → Local → Bool
any_listed test map local = list_any (listed_in test) map.modules || listed_besides test map local
