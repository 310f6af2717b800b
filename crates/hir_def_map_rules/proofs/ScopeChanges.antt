-- Changes of a scope leave one that refers only to what is there.
use Rattle.std.proofs.Common.{◌≡◌, refl, ap, sym, ◌∙◌, ℕ, Bool, true, false, ◌||◌, cond, Option, None, Some, List, [], ◌∷◌}
use Rattle.std.specs.BTreeMap.{is_at}
use Rattle.std.specs.Cmp.Lexicographic.{slice_cmp}
use Rattle.std.specs.List.{list_any}
use Rattle.std.specs.Map.{lookup}
use Rattle.std.specs.Ordering.{nat_cmp}
use Rattle.hir_scope.specs.HirIds.contracts.ids.ModuleDefIdPartialEq.TheImpl as module_def
use Rattle.hir_scope.specs.HirIds.contracts.ids.TraitIdPartialEq.TheImpl as trait_id
use Rattle.hir_scope.specs.HirIds.contracts.macro_kind.MacroIdPartialEq.TheImpl as makro
use Rattle.hir_scope.specs.HirIds.declared.macro_kind.MacroId.{MacroId}
use Rattle.hir_scope.specs.HirIds.declared.ids.ModuleDefId.{ModuleDefId}
use Rattle.hir_scope.specs.HirIds.declared.ids.TraitId.{TraitId}
use Rattle.hir_scope.specs.Bindings.{Candidate, macro_candidate, taken, takes, type_candidate, value_candidate, with_item_definition, with_item_visibility}
use Rattle.hir_scope.specs.Bindings.{written_items}
use Rattle.hir_scope.specs.Entries.{item_at}
use Rattle.hir_scope.specs.Globs.{GlobNames, Place, has_place}
use Rattle.hir_scope.specs.HirPerNs.PerNs.{Item, is_nothing}
use Rattle.hir_scope.specs.Scope.{ScopeValue}
use Rattle.hir_scope.specs.Scope.Push.{pushed_scope, taken_candidates, with_unresolved, written_scope}
use Rattle.hir_scope.specs.Scope.Updates.{unnamed_import, with_definition, with_unnamed_trait, with_visibility}
use Rattle.hir_scope.specs.Table.{rewritten}
use Rattle.hir_scope.specs.HirPerNs.contracts.imports.ImportOrExternCratePartialEq.TheImpl as item_import
use Rattle.hir_scope.specs.HirPerNs.contracts.imports.ImportOrGlobPartialEq.TheImpl as glob_import
use Rattle.hir_scope.specs.HirPerNs.declared.imports.ImportId.{ImportId}
use Rattle.hir_scope.specs.HirPerNs.declared.imports.ImportOrExternCrate.{ImportOrExternCrate}
use Rattle.hir_scope.specs.HirPerNs.declared.imports.ImportOrGlob.{ImportOrGlob}
use Rattle.hir_scope.specs.HirPerNs.declared.per_ns.PerNs.{PerNs}
use Rattle.hir_scope.specs.HirPerNs.declared.visibility.Visibility.{Visibility}
use Rattle.hir_def_map_rules.specs.Declaration.{listed}
use Rattle.hir_def_map_rules.specs.References.{any_reference_in, any_reference_in_scope, reference_to, test_item, test_of, test_visibility, Fails, FailsAtItem}
use Rattle.hir_def_map_rules.specs.References.{FailsAtMacro}
use Rattle.hir_def_map_rules.specs.State.{ModuleValue, with_module_scope}
use Rattle.hir_def_map_rules.specs.Types.{Declaration, Reference}
use Rattle.hir_def_map_rules.specs.declared.declaration.Declaration.TheVariants as declaration
use Rattle.hir_def_map_rules.proofs.NoneOf.{neither, none_found, none_inserted_last, none_set, none_with_entry, not_first}
use Rattle.hir_def_map_rules.proofs.Referred.{FailsInScope, module_parts, module_whole, scope_parts, scope_whole}

-- ---- one list of items by names, and a test of items

module _ {D I : Type 0} (p : Item D I → Bool) where
  -- of the items of none of these names
  abbrev Fail : List (List ℕ × Item D I) → Type 0
  Fail items = list_any (λ (e : List ℕ × Item D I). p e.1) items ≡ false

  abbrev FailsAtCandidate : Option (Candidate D I) → Type 0
  FailsAtCandidate None = Unit {0}
  FailsAtCandidate (Some c) = p c.push.item ≡ false

  written_fail : (name : List ℕ) (items : List (List ℕ × Item D I)) (candidate : Option (Candidate D I)) → Fail items → FailsAtCandidate candidate
      → Fail (written_items name candidate items)
  written_fail name items None f g = f
  written_fail name items (Some c) f g = none_with_entry p (slice_cmp nat_cmp) items name c.push.item f g

  taken_fails : (same_def : D → D → Bool) (same_import : I → I → Bool) (items : List (List ℕ × Item D I)) (globs : List Place) (place : Place)
      (candidate : Option (Candidate D I))
      → FailsAtCandidate candidate → FailsAtCandidate (taken same_def same_import items globs place candidate)
  taken_fails same_def same_import items globs place None f = tt
  taken_fails same_def same_import items globs place (Some c) f = go (takes same_def same_import (has_place globs place) (item_at items place.1) c.push)
    where
      go : (b : Bool) → FailsAtCandidate (cond b (Some c) None)
      go true = f
      go false = tt

  rewritten_fail : (change : Item D I → Item D I) (items : List (List ℕ × Item D I)) (name : List ℕ) → ((i : Item D I) → p i ≡ false → p (change i) ≡ false)
      → Fail items
      → Fail (rewritten change items name (item_at items name))
  rewritten_fail change items name keeps f = go (item_at items name) refl
    where
      go : (o : Option (Item D I)) → item_at items name ≡ o → Fail (rewritten change items name o)
      go None e = f
      go (Some i) e = none_set p (is_at (slice_cmp nat_cmp name)) items (change i) f (keeps i (none_found p (is_at (slice_cmp nat_cmp name)) items i f e))

-- ---- whole scopes

module _ (test : Reference → Bool) where
  abbrev on_item : {I : Type 0} → Item ModuleDefId I → Bool
  on_item i = test_item test i

  abbrev on_macro : Item MacroId ImportOrExternCrate → Bool
  on_macro i = test_visibility test i.vis

  type_fails : (o : Option (Item ModuleDefId ImportOrExternCrate)) (import : Option ImportOrExternCrate) → FailsAtItem test o
      → FailsAtCandidate on_item (type_candidate o import)
  type_fails None import f = tt
  type_fails (Some i) import f = f

  value_fails : (o : Option (Item ModuleDefId ImportOrGlob)) (import : Option ImportOrExternCrate) → FailsAtItem test o
      → FailsAtCandidate on_item (value_candidate o import)
  value_fails None import f = tt
  value_fails (Some i) import f = f

  macro_fails : (o : Option (Item MacroId ImportOrExternCrate)) (import : Option ImportOrExternCrate) → FailsAtMacro test o
      → FailsAtCandidate on_macro (macro_candidate o import)
  macro_fails None import f = tt
  macro_fails (Some i) import f = f

  -- items to which a test doesn't apply, pushed
  pub pushed_fails : (globs : GlobNames) (place : Place) (items : PerNs) (import : Option ImportOrExternCrate) (scope : ScopeValue) → Fails test items
      → any_reference_in_scope test scope ≡ false → any_reference_in_scope test (pushed_scope globs place items import scope) ≡ false
  pushed_fails globs place items import scope there f = go (is_nothing items)
    where
      parts : FailsInScope test scope
      parts = scope_parts test scope f

      written : FailsInScope test (written_scope place.1 (taken_candidates scope globs place items import) scope)
      written = record {
        types =
            written_fail on_item place.1 scope.types (taken module_def.ghosts.eq item_import.ghosts.eq scope.types globs.types place
            (type_candidate items.types import)) parts.types
            (taken_fails on_item module_def.ghosts.eq item_import.ghosts.eq scope.types globs.types place (type_candidate items.types import)
            (type_fails items.types import there.types));
        values =
            written_fail on_item place.1 scope.values (taken module_def.ghosts.eq glob_import.ghosts.eq scope.values globs.values place
            (value_candidate items.values import)) parts.values
            (taken_fails on_item module_def.ghosts.eq glob_import.ghosts.eq scope.values globs.values place (value_candidate items.values import)
            (value_fails items.values import there.values));
        macros =
            written_fail on_macro place.1 scope.macros (taken makro.ghosts.eq item_import.ghosts.eq scope.macros globs.macros place
            (macro_candidate items.macros import)) parts.macros
            (taken_fails on_macro makro.ghosts.eq item_import.ghosts.eq scope.macros globs.macros place (macro_candidate items.macros import)
            (macro_fails items.macros import there.macros));
        traits = parts.traits;
      }

      go : (b : Bool) → any_reference_in_scope test
          (cond b (with_unresolved scope place.1) (written_scope place.1 (taken_candidates scope globs place items import) scope)) ≡ false
      go true = f
      go false = scope_whole test (written_scope place.1 (taken_candidates scope globs place items import) scope) written

  -- a declaration that is listed
  pub listed_fails : (d : Declaration) (scope : ScopeValue) → any_reference_in_scope test scope ≡ false → any_reference_in_scope test (listed d scope) ≡ false
  listed_fails (declaration.Def def) scope f = f
  listed_fails other scope f = f

  -- ---- updates

  new_item : {I : Type 0} (def : ModuleDefId) (vis : Visibility) → test_of test (reference_to def) ≡ false → test_visibility test vis ≡ false
      → (i : Item ModuleDefId I)
      → on_item (with_item_definition def vis i) ≡ false
  new_item def vis f g i = neither (test_of test (reference_to def)) (test_visibility test vis) f g

  pub defined_fail : {I : Type 0} (items : List (List ℕ × Item ModuleDefId I)) (name : List ℕ) (def : ModuleDefId) (vis : Visibility)
      → test_of test (reference_to def) ≡ false
      → test_visibility test vis ≡ false → list_any (λ (e : List ℕ × Item ModuleDefId I). on_item e.1) items ≡ false
      → list_any (λ (e : List ℕ × Item ModuleDefId I). on_item e.1) (with_definition items name def vis) ≡ false
  defined_fail items name def vis f g h = rewritten_fail on_item (with_item_definition def vis) items name (λ i e. new_item def vis f g i) h

  pub seen_fail : {I : Type 0} (items : List (List ℕ × Item ModuleDefId I)) (name : List ℕ) (vis : Visibility) → test_visibility test vis ≡ false
      → list_any (λ (e : List ℕ × Item ModuleDefId I). on_item e.1) items ≡ false → list_any (λ (e : List ℕ × Item ModuleDefId I). on_item e.1)
      (with_visibility items name vis) ≡ false
  seen_fail items name vis g h =
      rewritten_fail on_item (with_item_visibility vis) items name
      (λ i e. neither (test_of test (reference_to i.def)) (test_visibility test vis) (not_first (test_of test (reference_to i.def)) (test_visibility test i.vis)
      e) g) h

  pub macros_defined_fail : (items : List (List ℕ × Item MacroId ImportOrExternCrate)) (name : List ℕ) (def : MacroId) (vis : Visibility)
      → test_visibility test vis ≡ false
      → list_any (λ (e : List ℕ × Item MacroId ImportOrExternCrate). on_macro e.1) items ≡ false
      → list_any (λ (e : List ℕ × Item MacroId ImportOrExternCrate). on_macro e.1) (with_definition items name def vis) ≡ false
  macros_defined_fail items name def vis g h = rewritten_fail on_macro (with_item_definition def vis) items name (λ i e. g) h

  pub macros_seen_fail : (items : List (List ℕ × Item MacroId ImportOrExternCrate)) (name : List ℕ) (vis : Visibility) → test_visibility test vis ≡ false
      → list_any (λ (e : List ℕ × Item MacroId ImportOrExternCrate). on_macro e.1) items ≡ false
      → list_any (λ (e : List ℕ × Item MacroId ImportOrExternCrate). on_macro e.1) (with_visibility items name vis) ≡ false
  macros_seen_fail items name vis g h = rewritten_fail on_macro (with_item_visibility vis) items name (λ i e. g) h

  pub trait_fails : (traits : List (TraitId × Item (Unit {0}) ImportId)) (tr : TraitId) (vis : Visibility) (import : Option ImportId) → test_visibility test vis
      ≡ false
      → list_any (λ (e : TraitId × Item (Unit {0}) ImportId). test_visibility test e.1.vis) traits ≡ false
      → list_any (λ (e : TraitId × Item (Unit {0}) ImportId). test_visibility test e.1.vis) (with_unnamed_trait traits tr vis import) ≡ false
  trait_fails traits tr vis import g h =
      none_inserted_last (λ (i : Item (Unit {0}) ImportId). test_visibility test i.vis) trait_id.ghosts.eq traits tr
      (record { def = tt; vis = vis; import = unnamed_import (lookup (trait_id.ghosts.eq tr) traits) import }) h g

  -- ---- a module

  -- whose scope changes
  pub module_scope_fails : (change : ScopeValue → ScopeValue) (m : ModuleValue)
      → (any_reference_in_scope test m.scope ≡ false → any_reference_in_scope test (change m.scope) ≡ false)
      → any_reference_in test m ≡ false → any_reference_in test (with_module_scope change m) ≡ false
  module_scope_fails change m keeps f =
      let parts = module_parts test m f in
      module_whole test (with_module_scope change m) (record {
        parent = parts.parent;
        visibility = parts.visibility;
        children = parts.children;
        scope = keeps parts.scope;
      })
