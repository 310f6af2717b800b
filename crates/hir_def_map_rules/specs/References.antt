-- What does a map refer to, and is that there?
use Rattle.std.specs.Prelude.{◌≡◌, ℕ, zero, suc, Bool, true, false, ◌&&◌, ◌||◌, not, is_some, Option, None, Some, List, length, option_map}
use Rattle.std.specs.List.{list_any, list_all}
use Rattle.std.specs.BTreeMap.{is_at}
use Rattle.hir_scope.specs.HirIds.declared.ids.AdtId.TheVariants as adt
use Rattle.hir_scope.specs.HirIds.declared.ids.Crate.{Crate}
use Rattle.hir_scope.specs.HirIds.declared.ids.EnumId.{EnumId}
use Rattle.hir_scope.specs.HirIds.declared.ids.ExternCrateId.{ExternCrateId}
use Rattle.hir_scope.specs.HirIds.declared.macro_kind.MacroId.{MacroId}
use Rattle.hir_scope.specs.HirIds.declared.ids.MapId.{MapId}
use Rattle.hir_scope.specs.HirIds.declared.ids.ModuleDefId.{ModuleDefId}
use Rattle.hir_scope.specs.HirIds.declared.ids.ModuleId.{ModuleId}
use Rattle.hir_scope.specs.HirIds.declared.ids.TraitId.{TraitId}
use Rattle.hir_scope.specs.HirIds.declared.ids.UseId.{UseId}
use Rattle.hir_scope.specs.HirIds.declared.ids.ModuleDefId.TheVariants as def
use Rattle.hir_scope.specs.HirIds.contracts.ids.MapIdOrd.TheImpl as map_order
use Rattle.hir_scope.specs.HirIds.contracts.ids.MapIdPartialEq.TheImpl as map_id
use Rattle.hir_scope.specs.HirPerNs.ModuleTree.{same_crate}
use Rattle.hir_scope.specs.Scope.{ScopeValue}
use Rattle.hir_scope.specs.HirPerNs.declared.imports.ImportId.{ImportId}
use Rattle.hir_scope.specs.HirPerNs.declared.imports.ImportOrExternCrate.{ImportOrExternCrate}
use Rattle.hir_scope.specs.HirPerNs.declared.imports.ImportOrGlob.{ImportOrGlob}
use Rattle.hir_scope.specs.HirPerNs.declared.per_ns.PerNs.{PerNs}
use Rattle.hir_scope.specs.HirPerNs.declared.visibility.Visibility.{Visibility}
use Rattle.hir_scope.specs.HirPerNs.declared.visibility.Visibility.TheVariants as visibility
use Rattle.hir_scope.specs.HirPerNs.PerNs.{Item}
use Rattle.hir_def_map_rules.specs.declared.reference.Reference.{Reference}
use Rattle.hir_def_map_rules.specs.declared.reference.Reference.TheVariants as named
pub use Rattle.hir_def_map_rules.specs.State.{crate_map}
use Rattle.hir_def_map_rules.specs.State.{Local, Map, ModuleValue, Variants}
use Rattle.hir_def_map_rules.specs.Overlay.{Maps, overlay, module_in, variants_in}
use Rattle.hir_def_map_rules.specs.Ancestors.{leads_to_root, own_frame}
pub use Rattle.hir_map_parts.specs.References.{are_variants_of}

-- ---- one reference

-- what has to be there for a definition: a module itself, an enum itself, and a variant's enum
abbrev pub reference_to : ModuleDefId → Option Reference
reference_to (def.ModuleId m) = Some (named.Module m)
reference_to (def.AdtId (adt.EnumId e)) = Some (named.Enum e)
reference_to (def.AdtId (adt.StructId id)) = None
reference_to (def.AdtId (adt.UnionId id)) = None
reference_to (def.FunctionId id) = None
reference_to (def.EnumVariantId id) = Some (named.Enum id.parent)
reference_to (def.ConstId id) = None
reference_to (def.StaticId id) = None
reference_to (def.TraitId id) = None
reference_to (def.TypeAliasId id) = None
reference_to (def.BuiltinType id) = None
reference_to (def.MacroId id) = None

-- the module that a visibility names
abbrev pub visibility_reference : Visibility → Option Reference
visibility_reference (visibility.Module m explicitness) = Some (named.Module m)
visibility_reference (visibility.PubCrate krate) = None
visibility_reference visibility.Public = None

-- the map in which it has to be
abbrev pub map_of_reference : Reference → MapId
map_of_reference (named.Module m) = m.map
map_of_reference (named.Enum e) = e.loc.container.map
map_of_reference (named.Map id) = id

abbrev pub lies_in : MapId → Reference → Bool
lies_in id n = is_at (map_order.ghosts.cmp (map_of_reference n)) id

abbrev pub is_there : Maps → Reference → Bool
is_there maps (named.Module m) = is_some (module_in maps m)
is_there maps (named.Enum e) = is_some (variants_in maps e)
is_there maps (named.Map id) = is_some (maps id)

abbrev pub is_missing : Maps → Reference → Bool
is_missing maps n = not (is_there maps n)

-- ---- all references of a map: whether a test holds of some

abbrev pub test_of : (Reference → Bool) → Option Reference → Bool
test_of test None = false
test_of test (Some n) = test n

abbrev pub test_child : (Reference → Bool) → (List ℕ × ModuleId) → Bool
test_child test child = test (named.Module child.1)

abbrev pub test_visibility : (Reference → Bool) → Visibility → Bool
test_visibility test vis = test_of test (visibility_reference vis)

-- a type or a value refers by its definition and by its visibility
abbrev pub test_item : {I : Type 0} → (Reference → Bool) → Item ModuleDefId I → Bool
test_item test item = test_of test (reference_to item.def) || test_visibility test item.vis

abbrev pub test_type : (Reference → Bool) → (List ℕ × Item ModuleDefId ImportOrExternCrate) → Bool
test_type test type = test_item test type.1

abbrev pub test_value : (Reference → Bool) → (List ℕ × Item ModuleDefId ImportOrGlob) → Bool
test_value test value = test_item test value.1

-- macros, and traits without names, by their visibility alone
abbrev pub test_macro : (Reference → Bool) → (List ℕ × Item MacroId ImportOrExternCrate) → Bool
test_macro test makro = test_visibility test makro.1.vis

abbrev pub test_trait : (Reference → Bool) → (TraitId × Item (Unit {0}) ImportId) → Bool
test_trait test trait_ = test_visibility test trait_.1.vis

-- of nothing does a test hold to which items refer
abbrev pub FailsAtItem : {I : Type 0} → (Reference → Bool) → Option (Item ModuleDefId I) → Type 0
FailsAtItem test None = Unit {0}
FailsAtItem test (Some item) = test_item test item ≡ false

abbrev pub FailsAtMacro : (Reference → Bool) → Option (Item MacroId ImportOrExternCrate) → Type 0
FailsAtMacro test None = Unit {0}
FailsAtMacro test (Some item) = test_visibility test item.vis ≡ false

pub record Fails (test : Reference → Bool) (items : PerNs) : Type 0 where
  pub types : FailsAtItem test items.types
  pub values : FailsAtItem test items.values
  pub macros : FailsAtMacro test items.macros

-- a scope refers by what its names stand for, and by its traits without names
abbrev pub any_reference_in_scope : (Reference → Bool) → ScopeValue → Bool
any_reference_in_scope test scope =
    list_any (test_type test) scope.types
    || (list_any (test_value test) scope.values || (list_any (test_macro test) scope.macros || list_any (test_trait test) scope.unnamed_traits))

-- a module refers to its parent, to the module that may see it, to its children, and by its scope
abbrev pub any_reference_in : (Reference → Bool) → ModuleValue → Bool
any_reference_in test m =
    test_of test (option_map named.Module m.parent)
    || (test_visibility test m.visibility || (list_any (test_child test) m.children || any_reference_in_scope test m.scope))

abbrev pub test_extern : (Reference → Bool) → (List ℕ × (ModuleId × Option ExternCrateId)) → Bool
test_extern test entry = test (named.Module entry.1.0)

abbrev pub test_crate : (Reference → Bool) → Crate → Bool
test_crate test krate = test (named.Map (crate_map krate))

abbrev pub prelude_reference : Option (ModuleId × Option UseId) → Option Reference
prelude_reference prelude = option_map (λ (p : ModuleId × Option UseId). named.Module p.0) prelude

-- a block's map refers to that of its crate
abbrev pub any_own_crate : (Reference → Bool) → MapId → Bool
any_own_crate test id = is_some id.block && test_crate test id.krate

-- besides its modules' a map has as references its prelude, its holder, the crates that its paths may begin with, those on which its crate depends, and a block's its crate
abbrev pub any_reference_besides : (Reference → Bool) → Map → Local → Bool
any_reference_besides test map local =
    test_of test (prelude_reference map.prelude)
    || (test_of test (option_map named.Module map.holder)
    || (list_any (test_extern test) local
    || (list_any (test_crate test) map.crate_data.dependencies
    || any_own_crate test map.id)))

-- whether a test holds of some reference of a map
abbrev pub any_reference : (Reference → Bool) → Map → Local → Bool
any_reference test map local = list_any (any_reference_in test) map.modules || any_reference_besides test map local

-- whether a map refers to another one, or to something in that
abbrev pub refers_to : Map → Local → MapId → Bool
refers_to map local id = not (is_at (map_order.ghosts.cmp map.id) id) && any_reference (lies_in id) map local

-- ---- well-formed maps

-- whether a test holds below a number
abbrev pub all_below : (ℕ → Bool) → ℕ → Bool
all_below test zero = true
all_below test (suc n) = test n && all_below test n

-- whether parents lead from each module to a root
abbrev pub each_leads_to_root : Map → Bool
each_leads_to_root map = all_below (leads_to_root (own_frame map)) (length map.modules)

-- whether a parent, if there is one, lies in the map of this id
abbrev pub is_parent_in : MapId → Option ModuleId → Bool
is_parent_in id None = true
is_parent_in id (Some p) = map_id.ghosts.eq p.map id

-- whether each parent lies in the map itself
abbrev pub has_its_parents : Map → Bool
has_its_parents map = list_all (λ (m : ModuleValue). is_parent_in map.id m.parent) map.modules

-- whether each enum has its own variants
abbrev pub has_its_variants : Map → Bool
has_its_variants map = list_all (λ (e : EnumId × Variants). are_variants_of e.0 e.1) map.enums

-- whether a holder, if there is one, is a module of a finished map of the crate
abbrev pub is_holder_for : Maps → MapId → Option ModuleId → Bool
is_holder_for finished id None = true
is_holder_for finished id (Some h) = same_crate h.map.krate id.krate && is_some (module_in finished h)

-- whether a map is well-formed over finished ones: parents lead to a root, variants are their enum's, the holder is finished, and no reference is dangling
abbrev pub is_well_formed : Maps → Map → Local → Bool
is_well_formed finished map local =
    each_leads_to_root map
    && (has_its_parents map
    && (has_its_variants map
    && (is_holder_for finished map.id map.holder
    && not (any_reference (is_missing (overlay finished map)) map local))))
