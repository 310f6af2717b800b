-- What others see of a procedural-macro crate binds only from sources.
use Rattle.std.proofs.Common.{◌≡◌, ◌≤◌, ℕ, Bool, true, false, ◌||◌, List, [], ◌∷◌, Option, None, Some, refl, arith, cond, length}
use Rattle.std.specs.BTreeMap.{is_at}
use Rattle.std.specs.Cmp.Lexicographic.{slice_cmp}
use Rattle.std.specs.Map.{remove_entry}
use Rattle.std.specs.Ordering.{nat_cmp}
use Rattle.hir_collector_rules.specs.HirIds.declared.macro_kind.BuiltinDeriveImplId.{BuiltinDeriveImplId}
use Rattle.hir_collector_rules.specs.HirIds.declared.ids.Crate.{Crate}
use Rattle.hir_collector_rules.specs.HirIds.declared.ids.FunctionId.{FunctionId}
use Rattle.hir_collector_rules.specs.HirIds.declared.macro_kind.MacroId.{MacroId}
use Rattle.hir_collector_rules.specs.HirIds.declared.ids.ModuleId.{ModuleId}
use Rattle.hir_collector_rules.specs.HirIds.declared.ids.ModuleDefId.TheVariants as definitions
use Rattle.hir_collector_rules.specs.HirIds.contracts.ids.ModuleDefIdPartialEq.TheImpl as module_def
use Rattle.hir_collector_rules.specs.HirIds.declared.macro_kind.MacroId.TheVariants as macros
use Rattle.hir_collector_rules.specs.HirPerNs.PerNs.{Item}
use Rattle.hir_collector_rules.specs.HirScope.Scope.{ScopeValue}
use Rattle.hir_collector_rules.specs.HirScope.Scope.Updates.{censored, censored_macros, censored_vis, is_definition}
use Rattle.hir_collector_rules.specs.HirScopeTable.Entries.{item_at}
use Rattle.hir_collector_rules.specs.HirPerNs.declared.imports.ImportOrExternCrate.{ImportOrExternCrate}
use Rattle.hir_collector_rules.specs.HirPerNs.declared.visibility.Visibility.{Visibility}
use Rattle.hir_collector_rules.specs.HirPerNs.declared.visibility.Visibility.TheVariants.{PubCrate}
use Rattle.hir_collector_rules.specs.HirDefMapRules.Closed.{ModuleIsThere}
use Rattle.hir_collector_rules.specs.HirDefMapRules.Overlay.{Maps, overlay}
use Rattle.hir_collector_rules.specs.HirDefMapRules.Sources.{HoldsNowhereIn, SourceTest, on_def, on_import, on_item}
use Rattle.hir_collector_rules.specs.HirDefMapRules.Sources.{on_macro, on_macro_item, on_some, on_value, on_value_def}
use Rattle.hir_collector_rules.specs.HirDefMapRules.Sources.{on_value_import, on_values, on_visibility}
use Rattle.hir_collector_rules.specs.HirDefMapRules.State.{Map, with_module_scope, with_scope}
use Rattle.hir_collector_rules.proofs.HirDefMapRules.Grown.{length-changed}
use Rattle.hir_collector_rules.proofs.HirDefMapRules.NoneOf.{neither, not_first, not_second}
use Rattle.hir_collector_rules.proofs.HirDefMapRules.StaysSourced.{HoldsNowhereIn-scope, KeepsScope}
use Rattle.hir_collector_rules.specs.declared.exported.ExportedFunction.{ExportedFunction}
use Rattle.hir_collector_rules.specs.Changes.{with_builtin_derive, with_derived}
use Rattle.hir_collector_rules.specs.Invocations.{Invocation, with_invocation, with_noted}
use Rattle.hir_collector_rules.specs.Ended.{ended, exporting_scope, without_function, without_functions}
use Rattle.hir_collector_rules.specs.State.{Core}
use Rattle.hir_def_collector_laws.proofs.SourcedState.{stays_longer}

module _ (t : SourceTest) where
  -- an impl of a builtin derive binds nothing
  pub HoldsNowhereIn-derived : (m : Map) (home : ℕ) (imp : BuiltinDeriveImplId) → HoldsNowhereIn t m → HoldsNowhereIn t (with_derived m home imp)
  HoldsNowhereIn-derived m home imp f =
      HoldsNowhereIn-scope t m home (with_builtin_derive imp) (record { types = λ s g. g; values = λ s g. g; macros = λ s g. g; legacy = λ s g. g }) f

  -- nor does what is noted of calls, attributes and derives
  pub HoldsNowhereIn-noted : (m : Map) (home : ℕ) (invocation : Invocation) → HoldsNowhereIn t m → HoldsNowhereIn t (with_noted m home invocation)
  HoldsNowhereIn-noted m home invocation f =
      HoldsNowhereIn-scope t m home (with_invocation invocation) (record { types = λ s g. g; values = λ s g. g; macros = λ s g. g; legacy = λ s g. g }) f

  -- ---- items that others see less of

  item_censored : {D I : Type 0} (defs : D → Bool) (imports : I → Bool) (i : Item D I) (vis : Visibility) → on_visibility t vis ≡ false
      → on_item t defs imports i ≡ false
      → on_item t defs imports (record i { vis = vis }) ≡ false
  item_censored defs imports i vis seen f =
      let by = on_some imports i.import in
      let rest = on_visibility t i.vis || by in
      neither (defs i.def) (on_visibility t vis || by) (not_first (defs i.def) rest f)
      (neither (on_visibility t vis) by seen (not_second (on_visibility t i.vis) by (not_second (defs i.def) rest f)))

  none_censored : {K D I : Type 0} (defs : D → Bool) (imports : I → Bool) (krate : Crate) (es : List (K × Item D I)) → on_values (on_item t defs imports) es
      ≡ false
      → on_values (on_item t defs imports) (censored krate es) ≡ false
  none_censored defs imports krate [] f = refl
  none_censored defs imports krate (e ∷ es) f =
      let first = on_item t defs imports e.1 in
      let others = on_values (on_item t defs imports) es in
      neither (on_item t defs imports (record e.1 { vis = PubCrate krate })) (on_values (on_item t defs imports) (censored krate es))
      (item_censored defs imports e.1 (PubCrate krate) refl (not_first first others f)) (none_censored defs imports krate es (not_second first others f))

  seen_less : (krate : Crate) (makro : MacroId) (import : Option ImportOrExternCrate) (vis : Visibility) → on_visibility t vis ≡ false
      → on_visibility t (censored_vis krate makro import vis) ≡ false
  seen_less krate (macros.ProcMacroId id) None vis f = f
  seen_less krate (macros.ProcMacroId id) (Some import) vis f = refl
  seen_less krate (macros.Macro2Id id) import vis f = refl
  seen_less krate (macros.MacroRulesId id) import vis f = refl

  macros_censored : (krate : Crate) (es : List (List ℕ × Item MacroId ImportOrExternCrate)) → on_values (on_macro_item t) es ≡ false
      → on_values (on_macro_item t) (censored_macros krate es) ≡ false
  macros_censored krate [] f = refl
  macros_censored krate (e ∷ es) f =
      let i : Item MacroId ImportOrExternCrate = e.1 in
      let first = on_macro_item t i in
      let others = on_values (on_macro_item t) es in
      let by = on_some (on_import t) i.import in
      let own : first ≡ false = not_first first others f in
      let vis : on_visibility t i.vis ≡ false = not_first (on_visibility t i.vis) by (not_second (on_macro t i.def) (on_visibility t i.vis || by) own) in
      neither (on_macro_item t (record i { vis = censored_vis krate i.def i.import i.vis })) (on_values (on_macro_item t) (censored_macros krate es))
      (item_censored (on_macro t) (on_import t) i (censored_vis krate i.def i.import i.vis) (seen_less krate i.def i.import i.vis vis) own)
      (macros_censored krate es (not_second first others f))

  -- ---- names that stand for functions no more

  none_removed : {K V : Type 0} (p : V → Bool) (at : K → Bool) (es : List (K × V)) → on_values p es ≡ false → on_values p (remove_entry at es) ≡ false
  none_removed p at [] f = refl
  none_removed {K} {V} p at (e ∷ es) f = go (at e.0) (none_removed p at es (not_second (p e.1) (on_values p es) f))
    where
      go : (b : Bool) → on_values p (remove_entry at es) ≡ false → on_values p (cond b es (e ∷ remove_entry at es)) ≡ false
      go true below = not_second (p e.1) (on_values p es) f
      go false below = neither (p e.1) (on_values p (remove_entry at es)) (not_first (p e.1) (on_values p es) f) below

  values_without : (name : List ℕ) (x : FunctionId) (s : ScopeValue) → on_values (on_value t) s.values ≡ false
      → on_values (on_value t) (without_function name x s).values ≡ false
  values_without name x s f = go (is_definition module_def.ghosts.eq (definitions.FunctionId x) (item_at s.values name))
    where
      go : (b : Bool) → on_values (on_value t) (cond b (remove_entry (is_at (slice_cmp nat_cmp name)) s.values) s.values) ≡ false
      go true = none_removed (on_value t) (is_at (slice_cmp nat_cmp name)) s.values f
      go false = f

  -- what stays of a scope
  keeps_without : (xs : List ExportedFunction) → KeepsScope t (without_functions xs)
  keeps_without [] = record { types = λ s g. g; values = λ s g. g; macros = λ s g. g; legacy = λ s g. g }
  keeps_without (x ∷ xs) =
      let later : KeepsScope t (without_functions xs) = keeps_without xs in
      record {
        types = λ s g. later.types (without_function x.name x.id s) g;
        values = λ s g. later.values (without_function x.name x.id s) (values_without x.name x.id s g);
        macros = λ s g. later.macros (without_function x.name x.id s) g;
        legacy = λ s g. later.legacy (without_function x.name x.id s) g;
      }

  keeps_exporting : (krate : Crate) (xs : List ExportedFunction) → KeepsScope t (exporting_scope krate xs)
  keeps_exporting krate xs =
      let before : KeepsScope t (without_functions xs) = keeps_without xs in
      record {
        types = λ s g. none_censored (on_def t) (on_import t) krate (without_functions xs s).types (before.types s g);
        values = λ s g. none_censored (on_value_def t) (on_value_import t) krate (without_functions xs s).values (before.values s g);
        macros = λ s g. macros_censored krate (without_functions xs s).macros (before.macros s g);
        legacy = λ s g. before.legacy s g;
      }

  pub HoldsNowhereIn-ended : (c : Core) → HoldsNowhereIn t c.map → HoldsNowhereIn t (ended c)
  HoldsNowhereIn-ended c f = go c.is_proc_macro
    where
      go : (b : Bool) → HoldsNowhereIn t (cond b (with_scope c.map 0 (exporting_scope c.map.id.krate c.exported)) c.map)
      go true = HoldsNowhereIn-scope t c.map 0 (exporting_scope c.map.id.krate c.exported) (keeps_exporting c.map.id.krate c.exported) f
      go false = f

-- modules stay there
pub stays_ended : (finished : Maps) (c : Core) (m : ModuleId) → ModuleIsThere (overlay finished c.map) m → ModuleIsThere (overlay finished (ended c)) m
stays_ended finished c m there = go c.is_proc_macro
  where
    changed : Map
    changed = with_scope c.map 0 (exporting_scope c.map.id.krate c.exported)

    longer : length c.map.modules ≤ length changed.modules
    longer =
        let same : length changed.modules ≡ length c.map.modules = length-changed c.map.modules 0
        (with_module_scope (exporting_scope c.map.id.krate c.exported)) in omega arith

    go : (b : Bool) → ModuleIsThere (overlay finished (cond b changed c.map)) m
    go true = stays_longer finished c.map changed refl longer m there
    go false = there
