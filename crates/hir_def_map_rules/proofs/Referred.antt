-- What a module refers to, part by part.
use Rattle.std.proofs.Common.{◌≡◌, refl, ℕ, Bool, false, ◌||◌, Option, None, Some, List, option_map}
use Rattle.std.specs.BTreeMap.{is_at}
use Rattle.std.specs.Cmp.Lexicographic.{slice_cmp}
use Rattle.std.specs.List.{list_any}
use Rattle.std.specs.Ordering.{nat_cmp}
use Rattle.hir_scope.specs.HirIds.declared.macro_kind.MacroId.{MacroId}
use Rattle.hir_scope.specs.HirIds.declared.ids.ModuleDefId.{ModuleDefId}
use Rattle.hir_scope.specs.Entries.{item_at}
use Rattle.hir_scope.specs.HirPerNs.PerNs.{Item}
use Rattle.hir_scope.specs.Scope.{ScopeValue, binding_of}
use Rattle.hir_scope.specs.HirPerNs.declared.imports.ImportOrExternCrate.{ImportOrExternCrate}
use Rattle.hir_def_map_rules.specs.References.{any_reference_in, any_reference_in_scope, test_child, test_item, test_macro, test_of, test_trait, test_type}
use Rattle.hir_def_map_rules.specs.References.{test_value, test_visibility, Fails, FailsAtItem, FailsAtMacro}
use Rattle.hir_def_map_rules.specs.State.{ModuleValue, entry_of}
use Rattle.hir_def_map_rules.specs.Types.{Reference}
use Rattle.hir_def_map_rules.specs.declared.reference.Reference.TheVariants as named
use Rattle.hir_def_map_rules.proofs.Fails.{Fails-nothing, item_less, of_less, visibility_less}
use Rattle.hir_def_map_rules.proofs.NoneOf.{neither, none_found, none_of_less, not_first, not_second}

module _ (test : Reference → Bool) where
  -- of nothing does a test hold to which a scope refers
  pub record FailsInScope (scope : ScopeValue) : Type 0 where
    pub types : list_any (test_type test) scope.types ≡ false
    pub values : list_any (test_value test) scope.values ≡ false
    pub macros : list_any (test_macro test) scope.macros ≡ false
    pub traits : list_any (test_trait test) scope.unnamed_traits ≡ false

  -- or a module
  pub record FailsInModule (m : ModuleValue) : Type 0 where
    pub parent : test_of test (option_map named.Module m.parent) ≡ false
    pub visibility : test_visibility test m.visibility ≡ false
    pub children : list_any (test_child test) m.children ≡ false
    pub scope : any_reference_in_scope test m.scope ≡ false

  pub scope_parts : (scope : ScopeValue) → any_reference_in_scope test scope ≡ false → FailsInScope scope
  scope_parts scope f =
      let a = list_any (test_type test) scope.types in
      let b = list_any (test_value test) scope.values in
      let c = list_any (test_macro test) scope.macros in
      let d = list_any (test_trait test) scope.unnamed_traits in
      let past_types = not_second a (b || (c || d)) f in
      let past_values = not_second b (c || d) past_types in
      record {
        types = not_first a (b || (c || d)) f;
        values = not_first b (c || d) past_types;
        macros = not_first c d past_values;
        traits = not_second c d past_values;
      }

  pub scope_whole : (scope : ScopeValue) → FailsInScope scope → any_reference_in_scope test scope ≡ false
  scope_whole scope f =
      let b = list_any (test_value test) scope.values in
      let c = list_any (test_macro test) scope.macros in
      let d = list_any (test_trait test) scope.unnamed_traits in
      neither (list_any (test_type test) scope.types) (b || (c || d)) f.types (neither b (c || d) f.values (neither c d f.macros f.traits))

  pub module_parts : (m : ModuleValue) → any_reference_in test m ≡ false → FailsInModule m
  module_parts m f =
      let a = test_of test (option_map named.Module m.parent) in
      let b = test_visibility test m.visibility in
      let c = list_any (test_child test) m.children in
      let d = any_reference_in_scope test m.scope in
      let past_parent = not_second a (b || (c || d)) f in
      let past_visibility = not_second b (c || d) past_parent in
      record {
        parent = not_first a (b || (c || d)) f;
        visibility = not_first b (c || d) past_parent;
        children = not_first c d past_visibility;
        scope = not_second c d past_visibility;
      }

  pub module_whole : (m : ModuleValue) → FailsInModule m → any_reference_in test m ≡ false
  module_whole m f =
      let b = test_visibility test m.visibility in
      let c = list_any (test_child test) m.children in
      let d = any_reference_in_scope test m.scope in
      neither (test_of test (option_map named.Module m.parent)) (b || (c || d)) f.parent (neither b (c || d) f.visibility (neither c d f.children f.scope))

  -- ---- what names stand for

  found_item : {I : Type 0} (items : List (List ℕ × Item ModuleDefId I)) (name : List ℕ) → list_any (λ (e : List ℕ × Item ModuleDefId I). test_item test e.1)
      items ≡ false
      → FailsAtItem test (item_at items name)
  found_item {I} items name f = go (item_at items name) refl
    where
      go : (o : Option (Item ModuleDefId I)) → item_at items name ≡ o → FailsAtItem test o
      go None e = tt
      go (Some item) e = none_found (λ (i : Item ModuleDefId I). test_item test i) (is_at (slice_cmp nat_cmp name)) items item f e

  found_macro : (items : List (List ℕ × Item MacroId ImportOrExternCrate)) (name : List ℕ) → list_any (test_macro test) items ≡ false
      → FailsAtMacro test (item_at items name)
  found_macro items name f = go (item_at items name) refl
    where
      go : (o : Option (Item MacroId ImportOrExternCrate)) → item_at items name ≡ o → FailsAtMacro test o
      go None e = tt
      go (Some item) e = none_found (λ (i : Item MacroId ImportOrExternCrate). test_visibility test i.vis) (is_at (slice_cmp nat_cmp name)) items item f e

  pub binding_fails : (scope : ScopeValue) → any_reference_in_scope test scope ≡ false → (name : List ℕ) → Fails test (binding_of scope name)
  binding_fails scope f name =
      let parts = scope_parts scope f in
      record {
        types = found_item scope.types name parts.types;
        values = found_item scope.values name parts.values;
        macros = found_macro scope.macros name
            parts.macros;
      }

  pub entry_fails : (o : Option ModuleValue) → ((m : ModuleValue) → o ≡ Some m → any_reference_in test m ≡ false) → (name : List ℕ)
      → Fails test (entry_of o name)
  entry_fails None names name = Fails-nothing test
  entry_fails (Some m) names name = binding_fails m.scope (module_parts m (names m refl)).scope name

-- ---- a test that implies another

module _ (test less : Reference → Bool) (weaker : (n : Reference) → test n ≡ false → less n ≡ false) where
  pub scope_less : (scope : ScopeValue) → any_reference_in_scope test scope ≡ false → any_reference_in_scope less scope ≡ false
  scope_less scope f =
      let parts = scope_parts test scope f in
      scope_whole less scope (record {
        types = none_of_less (test_type test) (test_type less) (λ x g. item_less test less weaker x.1 g) scope.types parts.types;
        values = none_of_less (test_value test) (test_value less) (λ x g. item_less test less weaker x.1 g) scope.values parts.values;
        macros = none_of_less (test_macro test) (test_macro less) (λ x g. visibility_less test less weaker x.1.vis g) scope.macros parts.macros;
        traits = none_of_less (test_trait test) (test_trait less) (λ x g. visibility_less test less weaker x.1.vis g) scope.unnamed_traits parts.traits;
      })

  pub module_less : (m : ModuleValue) → any_reference_in test m ≡ false → any_reference_in less m ≡ false
  module_less m f =
      let parts = module_parts test m f in
      module_whole less m (record {
        parent = of_less test less weaker (option_map named.Module m.parent) parts.parent;
        visibility = visibility_less test less weaker m.visibility parts.visibility;
        children = none_of_less (test_child test) (test_child less) (λ x g. weaker (named.Module x.1) g) m.children parts.children;
        scope = scope_less m.scope parts.scope;
      })
