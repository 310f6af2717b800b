-- What others see of a procedural-macro crate names only what is there.
use Rattle.std.proofs.Common.{◌≡◌, ℕ, Bool, true, false, List, [], ◌∷◌, Option, None, Some, refl, cond}
use Rattle.std.specs.BTreeMap.{is_at}
use Rattle.std.specs.Cmp.Lexicographic.{slice_cmp}
use Rattle.std.specs.List.{list_any}
use Rattle.std.specs.Map.{remove_entry}
use Rattle.std.specs.Ordering.{nat_cmp}
use Rattle.hir_collector_rules.specs.HirIds.declared.ids.Crate.{Crate}
use Rattle.hir_collector_rules.specs.HirIds.declared.ids.FunctionId.{FunctionId}
use Rattle.hir_collector_rules.specs.HirIds.declared.macro_kind.MacroId.{MacroId}
use Rattle.hir_collector_rules.specs.HirIds.declared.ids.ModuleDefId.{ModuleDefId}
use Rattle.hir_collector_rules.specs.HirIds.declared.ids.TraitId.{TraitId}
use Rattle.hir_collector_rules.specs.HirIds.declared.ids.ModuleDefId.TheVariants as definitions
use Rattle.hir_collector_rules.specs.HirIds.contracts.ids.ModuleDefIdPartialEq.TheImpl as module_def
use Rattle.hir_collector_rules.specs.HirIds.declared.macro_kind.MacroId.TheVariants as macros
use Rattle.hir_collector_rules.specs.HirPerNs.PerNs.{Item}
use Rattle.hir_collector_rules.specs.HirScope.Scope.{ScopeValue}
use Rattle.hir_collector_rules.specs.HirScope.Scope.Updates.{censored, censored_item, censored_macro, censored_macros}
use Rattle.hir_collector_rules.specs.HirScope.Scope.Updates.{censored_scope, censored_vis, is_definition}
use Rattle.hir_collector_rules.specs.HirScopeTable.Entries.{item_at}
use Rattle.hir_collector_rules.specs.HirPerNs.declared.imports.ImportId.{ImportId}
use Rattle.hir_collector_rules.specs.HirPerNs.declared.imports.ImportOrExternCrate.{ImportOrExternCrate}
use Rattle.hir_collector_rules.specs.HirPerNs.declared.imports.ImportOrGlob.{ImportOrGlob}
use Rattle.hir_collector_rules.specs.HirPerNs.declared.visibility.Visibility.{Visibility}
use Rattle.hir_collector_rules.specs.HirDefMapRules.References.{any_reference_in_scope, is_missing, reference_to, test_item}
use Rattle.hir_collector_rules.specs.HirDefMapRules.References.{test_macro, test_of, test_trait, test_visibility}
use Rattle.hir_collector_rules.specs.HirDefMapRules.Overlay.{Maps, overlay}
use Rattle.hir_collector_rules.specs.HirDefMapRules.State.{with_scope}
use Rattle.hir_collector_rules.specs.HirDefMapRules.WellFormed.{Extends, HasNoDanglingReference}
use Rattle.hir_collector_rules.specs.HirDefMapRules.declared.reference.Reference.{Reference}
use Rattle.hir_collector_rules.proofs.HirDefMapRules.NoneOf.{neither, not_first, not_second}
use Rattle.hir_collector_rules.proofs.HirDefMapRules.Referred.{FailsInScope, scope_parts, scope_whole}
use Rattle.hir_collector_rules.proofs.HirDefMapRules.StaysWellFormed.{Extends-scope, HasNoDanglingReference-scope}
use Rattle.hir_collector_rules.specs.declared.exported.ExportedFunction.{ExportedFunction}
use Rattle.hir_collector_rules.specs.Ended.{ended, exporting_scope, without_function, without_functions}
use Rattle.hir_collector_rules.specs.State.{Core}

module _ (test : Reference → Bool) where
  -- items of which the crate alone may see each refer by their definitions alone
  none_censored : {K I : Type 0} (krate : Crate) (es : List (K × Item ModuleDefId I)) → list_any (λ (e : K × Item ModuleDefId I). test_item test e.1) es ≡ false
      → list_any (λ (e : K × Item ModuleDefId I). test_item test e.1) (censored krate es) ≡ false
  none_censored krate [] f = refl
  none_censored {K} {I} krate (e ∷ es) f =
      let first : test_item test e.1 ≡ false = not_first (test_item test e.1) (list_any (λ (x : K × Item ModuleDefId I). test_item test x.1) es) f in
      neither (test_item test (censored_item krate e.1)) (list_any (λ (x : K × Item ModuleDefId I). test_item test x.1) (censored krate es))
      (neither (test_of test (reference_to e.1.def)) false (not_first (test_of test (reference_to e.1.def)) (test_visibility test e.1.vis) first) refl)
      (none_censored krate es (not_second (test_item test e.1) (list_any (λ (x : K × Item ModuleDefId I). test_item test x.1) es) f))

  -- traits without names refer to nothing then
  none_hidden : (krate : Crate) (es : List (TraitId × Item (Unit {0}) ImportId)) → list_any (test_trait test) (censored krate es) ≡ false
  none_hidden krate [] = refl
  none_hidden krate (e ∷ es) = none_hidden krate es

  -- and macros to no more than before
  seen_before : (krate : Crate) (makro : MacroId) (import : Option ImportOrExternCrate) (vis : Visibility) → test_visibility test vis ≡ false
      → test_visibility test (censored_vis krate makro import vis) ≡ false
  seen_before krate (macros.ProcMacroId id) None vis f = f
  seen_before krate (macros.ProcMacroId id) (Some import) vis f = refl
  seen_before krate (macros.Macro2Id id) import vis f = refl
  seen_before krate (macros.MacroRulesId id) import vis f = refl

  none_censored_macros : (krate : Crate) (es : List (List ℕ × Item MacroId ImportOrExternCrate)) → list_any (test_macro test) es ≡ false
      → list_any (test_macro test) (censored_macros krate es) ≡ false
  none_censored_macros krate [] f = refl
  none_censored_macros krate (e ∷ es) f =
      neither (test_visibility test (censored_macro krate e.1).vis) (list_any (test_macro test) (censored_macros krate es))
      (seen_before krate e.1.def e.1.import e.1.vis (not_first (test_macro test e) (list_any (test_macro test) es) f))
      (none_censored_macros krate es (not_second (test_macro test e) (list_any (test_macro test) es) f))

  -- a scope that others see less of
  pub scope_censored : (krate : Crate) (scope : ScopeValue) → any_reference_in_scope test scope ≡ false
      → any_reference_in_scope test (censored_scope krate scope) ≡ false
  scope_censored krate scope f =
      let parts : FailsInScope test scope = scope_parts test scope f in
      scope_whole test (censored_scope krate scope) (record {
        types = none_censored krate scope.types parts.types;
        values = none_censored krate scope.values parts.values;
        macros = none_censored_macros krate scope.macros parts.macros;
        traits = none_hidden krate scope.unnamed_traits;
      })

  -- entries of which one was removed
  none_removed : {K V : Type 0} (p : K × V → Bool) (at : K → Bool) (es : List (K × V)) → list_any p es ≡ false → list_any p (remove_entry at es) ≡ false
  none_removed p at [] f = refl
  none_removed {K} {V} p at (e ∷ es) f = go (at e.0) (none_removed p at es (not_second (p e) (list_any p es) f))
    where
      go : (b : Bool) → list_any p (remove_entry at es) ≡ false → list_any p (cond b es (e ∷ remove_entry at es)) ≡ false
      go true below = not_second (p e) (list_any p es) f
      go false below = neither (p e) (list_any p (remove_entry at es)) (not_first (p e) (list_any p es) f) below

  scope_without : (name : List ℕ) (f : FunctionId) (scope : ScopeValue) → any_reference_in_scope test scope ≡ false
      → any_reference_in_scope test (without_function name f scope) ≡ false
  scope_without name f scope none =
      let parts : FailsInScope test scope = scope_parts test scope none in
      scope_whole test (without_function name f scope) (record {
        types = parts.types;
        values = go (is_definition module_def.ghosts.eq (definitions.FunctionId f) (item_at scope.values name)) parts.values;
        macros = parts.macros;
        traits = parts.traits;
      })
    where
      on_value : List ℕ × Item ModuleDefId ImportOrGlob → Bool
      on_value e = test_item test e.1

      go : (b : Bool) → list_any on_value scope.values ≡ false
          → list_any on_value (cond b (remove_entry (is_at (slice_cmp nat_cmp name)) scope.values) scope.values) ≡ false
      go true f = none_removed on_value (is_at (slice_cmp nat_cmp name)) scope.values f
      go false f = f

  scope_without_all : (fs : List ExportedFunction) (scope : ScopeValue) → any_reference_in_scope test scope ≡ false
      → any_reference_in_scope test (without_functions fs scope) ≡ false
  scope_without_all [] scope none = none
  scope_without_all (f ∷ fs) scope none = scope_without_all fs (without_function f.name f.id scope) (scope_without f.name f.id scope none)

  pub scope_exporting : (krate : Crate) (fs : List ExportedFunction) (scope : ScopeValue) → any_reference_in_scope test scope ≡ false
      → any_reference_in_scope test (exporting_scope krate fs scope) ≡ false
  scope_exporting krate fs scope none = scope_censored krate (without_functions fs scope) (scope_without_all fs scope none)

-- the map that a run leaves has what its core's has
module _ (finished : Maps) (c : Core) where
  pub Extends-ended : Extends (overlay finished c.map) (overlay finished (ended c))
  Extends-ended = go c.is_proc_macro
    where
      go : (b : Bool) → Extends (overlay finished c.map) (overlay finished (cond b (with_scope c.map 0 (exporting_scope c.map.id.krate c.exported)) c.map))
      go true = Extends-scope finished c.map 0 (exporting_scope c.map.id.krate c.exported)
      go false = λ n there. there

  pub HasNoDanglingReference-ended : HasNoDanglingReference (overlay finished c.map) c.map → HasNoDanglingReference (overlay finished (ended c)) (ended c)
  HasNoDanglingReference-ended f = go c.is_proc_macro
    where
      go : (b : Bool) → HasNoDanglingReference (overlay finished (cond b (with_scope c.map 0 (exporting_scope c.map.id.krate c.exported)) c.map))
          (cond b (with_scope c.map 0 (exporting_scope c.map.id.krate c.exported)) c.map)
      go true = HasNoDanglingReference-scope finished c.map 0 (exporting_scope c.map.id.krate c.exported)
          (λ scope none. scope_exporting (is_missing (overlay finished c.map)) c.map.id.krate c.exported scope none) f
      go false = f
