-- A test that fails of what is looked up fails of what a first segment names.
use Rattle.std.proofs.Common.{◌≡◌, refl, List, ℕ, Bool, true, false, cond, Option, None, Some}
use Rattle.std.specs.Option.{option_map}
use Rattle.std.specs.Prelude.{is_some}
use Rattle.hir_scope.specs.HirIds.BuiltinType.{builtin_named}
use Rattle.hir_scope.specs.HirIds.declared.builtin_type.BuiltinType.{BuiltinType as AnyBuiltin}
use Rattle.hir_base.specs.declared.resolve_mode.BuiltinShadowMode.{BuiltinShadowMode}
use Rattle.hir_scope.specs.HirIds.declared.ids.ExternCrateId.{ExternCrateId}
use Rattle.hir_scope.specs.HirIds.declared.macro_kind.MacroId.{MacroId}
use Rattle.hir_base.specs.declared.resolve_mode.MacroSubNs.{MacroSubNs}
use Rattle.hir_scope.specs.HirIds.declared.ids.ModuleDefId.{ModuleDefId}
use Rattle.hir_scope.specs.HirIds.declared.ids.ModuleId.{ModuleId}
use Rattle.hir_scope.specs.HirIds.declared.ids.ModuleDefId.TheVariants.{BuiltinType}
use Rattle.hir_base.specs.declared.resolve_mode.BuiltinShadowMode.TheVariants as shadow_modes
use Rattle.hir_scope.specs.Bindings.{first_of}
use Rattle.hir_scope.specs.HirPerNs.PerNs.{Item, keep_item, keep_of, macros_only, nothing, or_of, types_only}
use Rattle.hir_scope.specs.HirPerNs.declared.imports.ImportOrExternCrate.{ImportOrExternCrate}
use Rattle.hir_scope.specs.HirPerNs.declared.per_ns.PerNs.{PerNs}
use Rattle.hir_scope.specs.HirPerNs.declared.visibility.Visibility.{Visibility}
use Rattle.hir_scope.specs.HirPerNs.declared.imports.ImportOrExternCrate.TheVariants as ways
use Rattle.hir_scope.specs.HirPerNs.declared.visibility.Visibility.TheVariants.{Public}
use Rattle.hir_def_map_rules.specs.References.{reference_to, test_item, test_of, test_visibility, visibility_reference, Fails, FailsAtItem, FailsAtMacro}
use Rattle.hir_def_map_rules.specs.Scoping.FirstSegment.{builtin_bound, builtin_name, extern_name, fits, is_block_root, keep_fitting, legacy_bound, legacy_name}
use Rattle.hir_def_map_rules.specs.Scoping.FirstSegment.{legacy_of, macro_use_bound, macro_use_name, macro_use_of, name_in_crate_root_or_extern_prelude}
use Rattle.hir_def_map_rules.specs.Scoping.FirstSegment.{name_in_module, name_in_preludes, names_module, of_style, prelude_name, scope_name, unless_block_root}
use Rattle.hir_def_map_rules.specs.Scoping.FirstSegment.{with_builtin}
use Rattle.hir_def_map_rules.specs.State.{Local, crate_root}
use Rattle.hir_def_map_rules.specs.Overlay.{Maps, entry_in, map_in, module_in}
use Rattle.hir_def_map_rules.specs.Types.{Reference}
use Rattle.hir_def_map_rules.proofs.NoneOf.{neither, not_first, not_second}

-- of nothing a test holds nowhere
pub Fails-nothing : (test : Reference → Bool) → Fails test nothing
Fails-nothing test = record { types = tt; values = tt; macros = tt }

-- a type that all may see
pub Fails-public : (test : Reference → Bool) (def : ModuleDefId) (by : Option ImportOrExternCrate) → test_of test (reference_to def) ≡ false
    → Fails test (types_only def Public by)
Fails-public test def by e = record { types = neither (test_of test (reference_to def)) false e refl; values = tt; macros = tt }

-- so does a macro
Fails-macro : (test : Reference → Bool) (def : MacroId) (by : Option ImportOrExternCrate) → Fails test (macros_only def Public by)
Fails-macro test def by = record { types = tt; values = tt; macros = refl }

-- ---- a test that implies another

module _ (test less : Reference → Bool) (weaker : (n : Reference) → test n ≡ false → less n ≡ false) where
  pub of_less : (o : Option Reference) → test_of test o ≡ false → test_of less o ≡ false
  of_less None e = refl
  of_less (Some n) e = weaker n e

  pub visibility_less : (vis : Visibility) → test_visibility test vis ≡ false → test_visibility less vis ≡ false
  visibility_less vis e = of_less (visibility_reference vis) e

  pub item_less : {I : Type 0} (item : Item ModuleDefId I) → test_item test item ≡ false → test_item less item ≡ false
  item_less item e =
      let d = test_of test (reference_to item.def) in
      let v = test_visibility test item.vis in
      neither (test_of less (reference_to item.def)) (test_visibility less item.vis) (of_less (reference_to item.def) (not_first d v e))
      (visibility_less item.vis (not_second d v e))

  at_item : {I : Type 0} (o : Option (Item ModuleDefId I)) → FailsAtItem test o → FailsAtItem less o
  at_item None f = tt
  at_item (Some item) f = item_less item f

  at_macro : (o : Option (Item MacroId ImportOrExternCrate)) → FailsAtMacro test o → FailsAtMacro less o
  at_macro None f = tt
  at_macro (Some item) f = visibility_less item.vis f

  -- it holds nowhere where the other does
  pub Fails-weaker : (p : PerNs) → Fails test p → Fails less p
  Fails-weaker p f = record { types = at_item p.types f.types; values = at_item p.values f.values; macros = at_macro p.macros f.macros }

-- ---- a test that holds of nothing

module _ (test : Reference → Bool) (none : (n : Reference) → test n ≡ false) where
  none_of : (o : Option Reference) → test_of test o ≡ false
  none_of None = refl
  none_of (Some n) = none n

  no_item : {I : Type 0} (o : Option (Item ModuleDefId I)) → FailsAtItem test o
  no_item None = tt
  no_item (Some item) =
      neither (test_of test (reference_to item.def)) (test_visibility test item.vis) (none_of (reference_to item.def)) (none_of (visibility_reference item.vis))

  no_macro : (o : Option (Item MacroId ImportOrExternCrate)) → FailsAtMacro test o
  no_macro None = tt
  no_macro (Some item) = none_of (visibility_reference item.vis)

  pub Fails-nowhere : (p : PerNs) → Fails test p
  Fails-nowhere p = record { types = no_item p.types; values = no_item p.values; macros = no_macro p.macros }

-- ---- names of first segments

module _ (test : Reference → Bool) where
  pub Fails-cond : (b : Bool) (p q : PerNs) → Fails test p → Fails test q → Fails test (cond b p q)
  Fails-cond true p q f g = f
  Fails-cond false p q f g = g

  first_item : {I : Type 0} (a b : Option (Item ModuleDefId I)) → FailsAtItem test a → FailsAtItem test b → FailsAtItem test (first_of a b)
  first_item None b f g = g
  first_item (Some i) b f g = f

  first_macro : (a b : Option (Item MacroId ImportOrExternCrate)) → FailsAtMacro test a → FailsAtMacro test b → FailsAtMacro test (first_of a b)
  first_macro None b f g = g
  first_macro (Some i) b f g = f

  pub Fails-or : (a b : PerNs) → Fails test a → Fails test b → Fails test (or_of a b)
  Fails-or a b f g = record {
    types = first_item a.types b.types f.types g.types;
    values = first_item a.values b.values f.values g.values;
    macros = first_macro a.macros b.macros f.macros g.macros;
  }

  kept_item : {I : Type 0} (keep : Visibility → Bool) (o : Option (Item ModuleDefId I)) → FailsAtItem test o → FailsAtItem test (keep_item keep o)
  kept_item keep None f = tt
  kept_item keep (Some i) f = go (keep i.vis)
    where
      go : (b : Bool) → FailsAtItem test (cond b (Some i) None)
      go true = f
      go false = tt

  one_macro : (b : Bool) (i : Item MacroId ImportOrExternCrate) → FailsAtMacro test (Some i) → FailsAtMacro test (cond b (Some i) None)
  one_macro true i f = f
  one_macro false i f = tt

  kept_macro : (keep : Visibility → Bool) (o : Option (Item MacroId ImportOrExternCrate)) → FailsAtMacro test o → FailsAtMacro test (keep_item keep o)
  kept_macro keep None f = tt
  kept_macro keep (Some i) f = one_macro (keep i.vis) i f

  pub Fails-keep : (keep : Visibility → Bool) (p : PerNs) → Fails test p → Fails test (keep_of keep p)
  Fails-keep keep p f = record { types = kept_item keep p.types f.types; values = kept_item keep p.values f.values; macros = kept_macro keep p.macros f.macros }

  fitting : (sub_ns : Option MacroSubNs) (o : Option (Item MacroId ImportOrExternCrate)) → FailsAtMacro test o → FailsAtMacro test (keep_fitting sub_ns o)
  fitting sub_ns None f = tt
  fitting sub_ns (Some i) f = one_macro (fits sub_ns i.def) i f

  pub Fails-style : (sub_ns : Option MacroSubNs) (p : PerNs) → Fails test p → Fails test (of_style sub_ns p)
  Fails-style sub_ns p f = record { types = f.types; values = f.values; macros = fitting sub_ns p.macros f.macros }

  Fails-legacy : (sub_ns : Option MacroSubNs) (o : Option MacroId) → Fails test (legacy_bound sub_ns o)
  Fails-legacy sub_ns None = Fails-nothing test
  Fails-legacy sub_ns (Some m) = go (fits sub_ns m)
    where
      go : (b : Bool) → Fails test (cond b (macros_only m Public None) nothing)
      go true = Fails-macro test m None
      go false = Fails-nothing test

  Fails-builtin : (at : ModuleId) (name : List ℕ) → Fails test (builtin_name at name)
  unfolding builtin_name
  Fails-builtin at name = go (is_some at.map.block) (builtin_named name)
    where
      go : (b : Bool) (o : Option AnyBuiltin) → Fails test (cond b nothing (builtin_bound o))
      go true o = Fails-nothing test
      go false None = Fails-nothing test
      go false (Some t) = Fails-public test (BuiltinType t) None refl

  Fails-macro_use : (o : Option (MacroId × Option ExternCrateId)) → Fails test (macro_use_bound o)
  Fails-macro_use None = Fails-nothing test
  Fails-macro_use (Some e) = Fails-macro test e.0 (option_map ways.ExternCrate e.1)

  Fails-unless : (at : ModuleId) (p : PerNs) → Fails test p → Fails test (unless_block_root at p)
  Fails-unless at p f = Fails-cond (is_block_root at) nothing p (Fails-nothing test) f

  Fails-with_builtin : (shadow : BuiltinShadowMode) (scope builtin : PerNs) → Fails test scope → Fails test builtin
      → Fails test (with_builtin shadow scope builtin)
  Fails-with_builtin shadow_modes.Module scope builtin f g = Fails-or scope builtin f g
  Fails-with_builtin shadow_modes.Other scope builtin f g =
      Fails-cond (names_module scope.types) (or_of builtin scope) (or_of scope builtin) (Fails-or builtin scope g f) (Fails-or scope builtin f g)

  module _ (maps : Maps) (local : Local) (at : ModuleId) (name : List ℕ) (externs : Fails test (extern_name local name)) where
    pub Fails-in_module : (sub_ns : Option MacroSubNs) (shadow : BuiltinShadowMode) → Fails test (entry_in maps at name)
        → Fails test (prelude_name maps at name)
        → Fails test (name_in_module maps local sub_ns shadow at name)
    Fails-in_module sub_ns shadow here prelude_ =
        let legacy : PerNs = legacy_name maps sub_ns at name in
        let scope : PerNs = with_builtin shadow (scope_name maps sub_ns at name) (builtin_name at name) in
        let crate_ : PerNs = unless_block_root at (extern_name local name) in
        let macro_use : PerNs = macro_use_name maps at name in
        let prelude : PerNs = unless_block_root at (prelude_name maps at name) in
        Fails-or (or_of (or_of (or_of legacy scope) crate_) macro_use) prelude
        (Fails-or (or_of (or_of legacy scope) crate_) macro_use
        (Fails-or (or_of legacy scope) crate_
        (Fails-or legacy scope
        (Fails-legacy sub_ns (legacy_of (module_in maps at) name))
        (Fails-with_builtin shadow (scope_name maps sub_ns at name) (builtin_name at name) (Fails-style sub_ns (entry_in maps at name) here)
        (Fails-builtin at name)))
        (Fails-unless at (extern_name local name) externs))
        (Fails-macro_use (macro_use_of (map_in maps at.map) name)))
        (Fails-unless at (prelude_name maps at name) prelude_)

    pub Fails-in_preludes : Fails test (prelude_name maps at name) → Fails test (name_in_preludes maps local at name)
    Fails-in_preludes prelude_ =
        let crate_ : PerNs = extern_name local name in
        let macro_use : PerNs = macro_use_name maps at name in
        Fails-or (or_of crate_ macro_use) (prelude_name maps at name)
        (Fails-or crate_ macro_use externs (Fails-macro_use (macro_use_of (map_in maps at.map) name)))
        prelude_

    pub Fails-in_root : Fails test (entry_in maps (crate_root at.map.krate) name) → Fails test (name_in_crate_root_or_extern_prelude maps local at name)
    Fails-in_root here =
        Fails-or (entry_in maps (crate_root at.map.krate) name) (unless_block_root at (extern_name local name)) here
        (Fails-unless at (extern_name local name) externs)
