-- Visibilities of whose modules a test fails.
use Rattle.std.specs.Prelude.{◌≡◌, ◌||◌, ◌&&◌, ℕ, zero, suc, List, [], ◌∷◌, Bool, true, false, Option, None, Some, cond, if◌then◌else◌, not, option_and_then}
use Rattle.std.specs.Prelude.{option_map, slice_set, unwrap_or}
use Rattle.std.specs.List.{list_any}
use Rattle.std.proofs.Common.{ap, refl, subst, sym}
use Rattle.hir_collector_rules.specs.HirIds.declared.macro_kind.MacroId.{MacroId}
use Rattle.hir_collector_rules.specs.HirIds.declared.ids.ModuleDefId.{ModuleDefId}
use Rattle.hir_collector_rules.specs.HirIds.declared.ids.ModuleId.{ModuleId}
use Rattle.hir_collector_rules.specs.HirIds.declared.ids.ModuleDefId.TheVariants as definitions
use Rattle.hir_collector_rules.specs.HirBase.declared.shape.FieldsShape.{FieldsShape}
use Rattle.hir_collector_rules.specs.HirRawVisibility.declared.raw_visibility.RawVisibility.{RawVisibility}
use Rattle.hir_collector_rules.specs.HirIds.declared.explicitness.VisibilityExplicitness.{VisibilityExplicitness}
use Rattle.hir_collector_rules.specs.HirRawVisibility.declared.raw_visibility.RawVisibility.TheVariants as raws
use Rattle.hir_collector_rules.specs.HirBase.declared.shape.FieldsShape.TheVariants.{Record, Tuple, Unit as UnitShape}
use Rattle.hir_collector_rules.specs.HirPerNs.ModuleTree.{is_at_or_above, same_crate, same_map, same_module}
use Rattle.hir_collector_rules.specs.HirPerNs.PerNs.{Item}
use Rattle.hir_collector_rules.specs.HirPerNs.Visibility.{both_in, either_written, lower_of, upper_of}
use Rattle.hir_collector_rules.specs.HirPerNs.declared.imports.ImportOrExternCrate.{ImportOrExternCrate}
use Rattle.hir_collector_rules.specs.HirPerNs.declared.per_ns.PerNs.{PerNs}
use Rattle.hir_collector_rules.specs.HirPerNs.declared.visibility.Visibility.{Visibility}
use Rattle.hir_collector_rules.specs.HirPerNs.declared.visibility.Visibility.TheVariants as visibilities
use Rattle.hir_def_map.proofs.Joined.{there_in}
use Rattle.hir_collector_rules.proofs.HirDefMapRules.NoneOf.{neither, none_at, none_more, not_first, not_second}
use Rattle.hir_collector_rules.specs.HirDefMapRules.Ancestors.{above_in}
use Rattle.hir_collector_rules.specs.HirDefMapRules.Closed.{IsClosed, IsThere, LocalIsThere, ModuleIsThere, PathsLeadToWhatIsThere, VisibilityIsThere}
use Rattle.hir_collector_rules.specs.HirDefMapRules.Overlay.{Maps, overlay}
use Rattle.hir_collector_rules.specs.HirDefMapRules.References.{is_missing, reference_to, test_item, test_of, test_visibility, Fails, FailsAtItem, FailsAtMacro}
use Rattle.hir_collector_rules.specs.HirDefMapRules.Scoping.{Resolution, resolution_of}
use Rattle.hir_collector_rules.specs.HirDefMapRules.Sources.{on_some}
use Rattle.hir_collector_rules.specs.HirDefMapRules.State.{Local, Map, root_of}
use Rattle.hir_collector_rules.specs.HirDefMapRules.Visibilities.{by_visibility, module_seen, path_seen, type_seen, written_visibility}
use Rattle.hir_collector_rules.specs.HirDefMapRules.declared.reference.Reference.{Reference}
use Rattle.hir_collector_rules.specs.HirDefMapRules.declared.reference.Reference.TheVariants as named
use Rattle.hir_collector_rules.specs.HirGlobImports.Moves.{same_vis}
use Rattle.hir_collector_rules.specs.HirGlobImports.View.{View}
use Rattle.hir_collector_rules.specs.HirGlobImports.Waves.{Records, adds, edge_with_vis, stays, widens, wider_of}
use Rattle.hir_collector_rules.specs.HirGlobImports.declared.edge.Edge.{Edge}
use Rattle.hir_collector_rules.specs.HirGlobImports.declared.edge.Target.{Target}
use Rattle.hir_collector_rules.specs.HirGlobImports.declared.edge.Target.TheVariants as targets
use Rattle.hir_collector_rules.specs.HirImportRules.Directives.{brought, brought_type, imported, is_of_extern_crate}
use Rattle.hir_collector_rules.specs.HirImportRules.Visibilities.{greater_in, lesser_in, visibility_in}
use Rattle.hir_collector_rules.specs.Items.{constructor_of, meet_of}

-- what a glob leads out of, where that is no module of the map itself
abbrev pub target_reference : Target → Option Reference
target_reference (targets.Own at) = None
target_reference (targets.Module m) = Some (named.Module m)
target_reference (targets.Enum id) = Some (named.Enum id)

module _ (test : Reference → Bool) where
  abbrev on_vis : Visibility → Bool
  on_vis v = test_visibility test v

  chosen : (b : Bool) (v : Visibility) → on_vis v ≡ false → on_some on_vis (cond b (Some v) None) ≡ false
  chosen true v f = f
  chosen false v f = refl

  pub some_or : (o : Option Visibility) (own : Visibility) → on_some on_vis o ≡ false → on_vis own ≡ false → on_vis (unwrap_or o own) ≡ false
  some_or None own f g = g
  some_or (Some v) own f g = f

  module _ (finished : Maps) (m : Map) where
    -- ---- the lesser and the greater of two

    lower : (above : ModuleId → List ModuleId) (x : ModuleId) (d : VisibilityExplicitness) (y : ModuleId) (e : VisibilityExplicitness) → test (named.Module x)
        ≡ false → test (named.Module y) ≡ false
        → on_some on_vis (lower_of above m.id x d y e) ≡ false
    lower above x d y e f g = go (same_module x y) (both_in m.id x y) (is_at_or_above above y x) (is_at_or_above above x y)
      where
        go : (a b c h : Bool) → on_some on_vis (cond a (Some (visibilities.Module x (either_written d e)))
            (cond b (cond c (Some (visibilities.Module x d)) (cond h (Some (visibilities.Module y e)) None)) None)) ≡ false
        go true b c h = f
        go false false c h = refl
        go false true true h = f
        go false true false true = g
        go false true false false = refl

    upper : (above : ModuleId → List ModuleId) (x : ModuleId) (d : VisibilityExplicitness) (y : ModuleId) (e : VisibilityExplicitness) → test (named.Module x)
        ≡ false → test (named.Module y) ≡ false
        → on_some on_vis (upper_of above m.id x d y e) ≡ false
    upper above x d y e f g = go (same_module x y) (both_in m.id x y) (is_at_or_above above y x) (is_at_or_above above x y)
      where
        go : (a b c h : Bool) → on_some on_vis (cond a (Some (visibilities.Module x (either_written d e)))
            (cond b (cond c (Some (visibilities.Module y e)) (cond h (Some (visibilities.Module x d)) None)) None)) ≡ false
        go true b c h = f
        go false false c h = refl
        go false true true h = g
        go false true false true = f
        go false true false false = refl

    lesser : (a b : Visibility) → on_vis a ≡ false → on_vis b ≡ false → on_some on_vis (lesser_in finished m a b) ≡ false
    unfolding lesser_in
    lesser visibilities.Public b f g = g
    lesser (visibilities.PubCrate c) visibilities.Public f g = refl
    lesser (visibilities.PubCrate c) (visibilities.PubCrate d) f g = chosen (same_crate c d) (visibilities.PubCrate c) refl
    lesser (visibilities.PubCrate c) (visibilities.Module x e) f g = chosen (same_crate x.map.krate c) (visibilities.Module x e) g
    lesser (visibilities.Module x e) visibilities.Public f g = f
    lesser (visibilities.Module x e) (visibilities.PubCrate c) f g = chosen (same_crate x.map.krate c) (visibilities.Module x e) f
    lesser (visibilities.Module x d) (visibilities.Module y e) f g = lower (above_in (overlay finished m)) x d y e f g

    pub greater : (a b : Visibility) → on_vis a ≡ false → on_vis b ≡ false → on_some on_vis (greater_in finished m a b) ≡ false
    unfolding greater_in
    greater visibilities.Public b f g = refl
    greater (visibilities.PubCrate c) visibilities.Public f g = refl
    greater (visibilities.PubCrate c) (visibilities.PubCrate d) f g = chosen (same_crate c d) (visibilities.PubCrate c) refl
    greater (visibilities.PubCrate c) (visibilities.Module x e) f g = chosen (same_crate x.map.krate c) (visibilities.PubCrate c) refl
    greater (visibilities.Module x e) visibilities.Public f g = refl
    greater (visibilities.Module x e) (visibilities.PubCrate c) f g = chosen (same_crate x.map.krate c) (visibilities.PubCrate c) refl
    greater (visibilities.Module x d) (visibilities.Module y e) f g = upper (above_in (overlay finished m)) x d y e f g

    pub lesser_or : (own vis : Visibility) → on_vis own ≡ false → on_vis vis ≡ false → on_vis (unwrap_or (lesser_in finished m own vis) own) ≡ false
    lesser_or own vis f g = some_or (lesser_in finished m own vis) own (lesser own vis f g) f

    -- ---- constructors

    meet : (least : Visibility) (vs : List Visibility) → on_vis least ≡ false → list_any on_vis vs ≡ false → on_some on_vis (meet_of finished m least vs)
        ≡ false
    meet least [] f g = f
    meet least (v ∷ vs) f g =
        go (λ next h. meet next vs h (not_second (on_vis v) (list_any on_vis vs) g)) (lesser_in finished m least v)
        (lesser least v f (not_first (on_vis v) (list_any on_vis vs) g))
      where
        go : ((next : Visibility) → on_vis next ≡ false → on_some on_vis (meet_of finished m next vs) ≡ false)
            → (o : Option Visibility) → on_some on_vis o ≡ false → on_some on_vis (option_and_then (λ next. meet_of finished m next vs) o) ≡ false
        go below None h = refl
        go below (Some next) h = below next h

    pub constructor_fails : (own : Visibility) (shape : FieldsShape) (vs : List Visibility) → on_vis own ≡ false → list_any on_vis vs ≡ false
        → on_some on_vis (constructor_of finished m own shape vs) ≡ false
    constructor_fails own Record vs f g = refl
    constructor_fails own Tuple vs f g = some_or (meet_of finished m own vs) own (meet own vs f g) f
    constructor_fails own UnitShape vs f g = f

    -- ---- what an import brings

    brought_fails : {I : Type 0} (own : Visibility) (i : Item ModuleDefId I) → on_vis own ≡ false → test_item test i ≡ false
        → test_item test (brought finished m own i) ≡ false
    brought_fails own i f h =
        let d = test_of test (reference_to i.def) in
        neither d (on_vis (unwrap_or (lesser_in finished m own i.vis) own)) (not_first d (on_vis i.vis) h)
        (lesser_or own i.vis f (not_second d (on_vis i.vis) h))

    pub imported_fails : (own : Visibility) (alone : Bool) (items : PerNs) → on_vis own ≡ false → Fails test items
        → Fails test (imported finished m own alone items)
    imported_fails own alone items f g =
        record { types = types items.types g.types; values = values items.values g.values; macros = macros items.macros g.macros }
      where
        types : (o : Option (Item ModuleDefId ImportOrExternCrate)) → FailsAtItem test o → FailsAtItem test (option_map (brought_type finished m own alone) o)
        types None h = tt
        types (Some i) h = go (alone && is_of_extern_crate i.import)
          where
            go : (b : Bool) → test_item test (cond b (record i { vis = own }) (brought finished m own i)) ≡ false
            go true = neither (test_of test (reference_to i.def)) (on_vis own) (not_first (test_of test (reference_to i.def)) (on_vis i.vis) h) f
            go false = brought_fails own i f h

        values : {I : Type 0} (o : Option (Item ModuleDefId I)) → FailsAtItem test o → FailsAtItem test (option_map (brought finished m own) o)
        values None h = tt
        values (Some i) h = brought_fails own i f h

        macros : (o : Option (Item MacroId ImportOrExternCrate)) → FailsAtMacro test o → FailsAtMacro test (option_map (brought finished m own) o)
        macros None h = tt
        macros (Some i) h = lesser_or own i.vis f h

  -- ---- recorded globs

  -- whether the test holds of it, or of who sees what the glob brings
  abbrev pub on_edge : Edge → Bool
  on_edge e = test_of test (target_reference e.source) || on_vis e.vis

  none_written : (p : Edge → Bool) (es : List Edge) (j : ℕ) (e : Edge) → list_any p es ≡ false → p e ≡ false → list_any p (slice_set es j e) ≡ false
  none_written p [] j e f g = f
  none_written p (x ∷ xs) zero e f g = neither (p e) (list_any p xs) g (not_second (p x) (list_any p xs) f)
  none_written p (x ∷ xs) (suc j) e f g =
      neither (p x) (list_any p (slice_set xs j e)) (not_first (p x) (list_any p xs) f) (none_written p xs j e (not_second (p x) (list_any p xs) f) g)

  wider_is : (vis : Visibility) (o : Option Visibility) (wide : Visibility) → on_some on_vis o ≡ false → wider_of vis o ≡ Some wide → on_vis wide ≡ false
  wider_is vis None wide f e = absurd cc
  wider_is vis (Some x) wide f e = go (same_vis x vis) e
    where
      go : (b : Bool) → (if b then None else Some x) ≡ Some wide → on_vis wide ≡ false
      go true h = absurd cc
      go false h = let same : x ≡ wide = cc in subst (λ (v : Visibility). on_vis v ≡ false) same f

  pub recorded_fail : (v : View) (old new : List Edge) (e : Edge) → ((a b : Visibility) → on_vis a ≡ false → on_vis b ≡ false → on_some on_vis (v.greater a b)
      ≡ false)
      → list_any on_edge old ≡ false → on_edge e ≡ false → Records v old new e → list_any on_edge new ≡ false
  recorded_fail v old new e greater f g (widens j d wide at ends w is) =
      let here : on_edge d ≡ false = none_at on_edge old f j d at in
      let of_d = test_of test (target_reference d.source) in
      let of_e = test_of test (target_reference e.source) in
      let seen : on_vis wide ≡ false =
      wider_is d.vis (v.greater d.vis e.vis) wide (greater d.vis e.vis (not_second of_d (on_vis d.vis) here) (not_second of_e (on_vis e.vis) g)) w in
      subst (λ (es : List Edge). list_any on_edge es ≡ false) (sym is)
      (none_written on_edge old j (edge_with_vis d wide) f (neither of_d (on_vis wide) (not_first of_d (on_vis d.vis) here) seen))
  recorded_fail v old new e greater f g (stays j d at ends w is) = subst (λ (es : List Edge). list_any on_edge es ≡ false) (sym is) f
  recorded_fail v old new e greater f g (adds none is) = subst (λ (es : List Edge). list_any on_edge es ≡ false) (sym is) (none_more on_edge old e f g)

-- ---- what is written

-- a visibility that is written in a module names a module that is there
module _ (paths : PathsLeadToWhatIsThere) (maps : Maps) (closed : IsClosed maps) (local : Local) (begins : LocalIsThere maps local) where
  pub written_there : (at : ModuleId) → ModuleIsThere maps at → (raw : RawVisibility) → VisibilityIsThere maps (written_visibility maps local at false raw)
  written_there at here (raws.PubSelf e) = ap not here
  written_there at here raws.PubCrate = refl
  written_there at here raws.Public = refl
  written_there at here (raws.Module path e) = by_stop answer.segment_index
    where
      answer : Resolution
      answer = resolution_of maps (by_visibility local) at path

      there : Fails (is_missing maps) answer.resolved_def
      there = paths maps (by_visibility local) at path closed begins here

      root : is_missing maps (named.Module (root_of at.map)) ≡ false
      root = ap not (closed.roots at.map (there_in maps (named.Module at) here))

      within : (b : Bool) (m : ModuleId) → is_missing maps (named.Module m) ≡ false → is_missing maps (named.Module (cond b m (root_of at.map))) ≡ false
      within true m g = g
      within false m g = root

      by_def : (d : ModuleDefId) → IsThere maps d → VisibilityIsThere maps (unwrap_or (module_seen false at.map e d) visibilities.Public)
      by_def (definitions.ModuleId m) g = within (same_map m.map at.map) m g
      by_def (definitions.FunctionId x) g = refl
      by_def (definitions.AdtId x) g = refl
      by_def (definitions.EnumVariantId x) g = refl
      by_def (definitions.ConstId x) g = refl
      by_def (definitions.StaticId x) g = refl
      by_def (definitions.TraitId x) g = refl
      by_def (definitions.TypeAliasId x) g = refl
      by_def (definitions.BuiltinType x) g = refl
      by_def (definitions.MacroId x) g = refl

      by_type : (o : Option (Item ModuleDefId ImportOrExternCrate)) → FailsAtItem (is_missing maps) o
          → VisibilityIsThere maps (unwrap_or (type_seen false at.map e o) visibilities.Public)
      by_type None g = refl
      by_type (Some i) g = by_def i.def (not_first (test_of (is_missing maps) (reference_to i.def)) (test_visibility (is_missing maps) i.vis) g)

      by_stop : (o : Option ℕ) → VisibilityIsThere maps (unwrap_or (path_seen false at.map e o answer.resolved_def) visibilities.Public)
      by_stop None = by_type answer.resolved_def.types there.types
      by_stop (Some i) = refl

-- in a module of a map beside finished ones
pub visible_there : PathsLeadToWhatIsThere → (finished : Maps) (m : Map) (local : Local) → IsClosed (overlay finished m) → LocalIsThere (overlay finished m)
    local → (at : ModuleId)
    → ModuleIsThere (overlay finished m) at → (raw : RawVisibility) → VisibilityIsThere (overlay finished m) (visibility_in finished local m at raw)
unfolding visibility_in
visible_there paths finished m local closed begins at here raw = written_there paths (overlay finished m) closed local begins at here raw
