-- Macros that are clear of a test of sources leave a map clear of it.
use Rattle.std.specs.Prelude.{◌≡◌, ◌||◌, ℕ, Bool, true, false, List, [], ◌∷◌, codes, is_none, Option, None, Some, cond, option_and_then}
use Rattle.std.specs.Prelude.{option_map}
use Rattle.std.specs.BTreeMap.{is_at}
use Rattle.std.specs.Cmp.Lexicographic.{slice_cmp}
use Rattle.std.specs.List.{list_any}
use Rattle.std.specs.Ordering.{nat_cmp}
use Rattle.std.proofs.Common.{refl}
use Rattle.hir_collector_rules.specs.HirIds.declared.ids.Crate.{Crate}
use Rattle.hir_collector_rules.specs.HirIds.declared.ids.ExternCrateId.{ExternCrateId}
use Rattle.hir_collector_rules.specs.HirIds.declared.macro_kind.MacroId.{MacroId}
use Rattle.hir_collector_rules.specs.HirIds.declared.ids.ModuleId.{ModuleId}
use Rattle.hir_collector_rules.specs.HirIds.declared.ids.UseId.{UseId}
use Rattle.hir_collector_rules.specs.HirItemTree.Collected.{Numbered}
use Rattle.hir_collector_rules.specs.HirItemTree.KeptForest.{Head}
use Rattle.hir_collector_rules.specs.HirBase.declared.shape.ExternCrateName.{ExternCrateName}
use Rattle.hir_collector_rules.specs.HirBase.declared.shape.ExternCrateName.TheVariants.{SelfCrate, Name}
use Rattle.hir_collector_rules.specs.HirTextualScope.Macros.{with_macro}
use Rattle.hir_collector_rules.specs.HirTextualScope.declared.textual_scope.TextualMacro.{TextualMacro}
use Rattle.hir_collector_rules.specs.HirScope.Entries.{item_at}
use Rattle.hir_collector_rules.specs.HirPerNs.ModuleTree.{same_crate}
use Rattle.hir_collector_rules.specs.HirPerNs.PerNs.{Item}
use Rattle.hir_collector_rules.specs.HirScope.Scope.{ScopeValue}
use Rattle.hir_collector_rules.specs.HirPerNs.declared.imports.ImportOrExternCrate.{ImportOrExternCrate}
use Rattle.hir_collector_rules.specs.HirDefMapRules.Overlay.{Maps, Placed}
use Rattle.hir_collector_rules.specs.HirDefMapRules.References.{crate_map}
use Rattle.hir_collector_rules.specs.HirDefMapRules.Sources.{HoldsNowhere, HoldsNowhereIn, SourceTest, on_extern, on_import}
use Rattle.hir_collector_rules.specs.HirDefMapRules.Sources.{on_legacy_in, on_macro, on_macro_item, on_macro_use}
use Rattle.hir_collector_rules.specs.HirDefMapRules.Sources.{on_macros_in, on_some, on_values, on_visibility}
use Rattle.hir_collector_rules.specs.HirDefMapRules.State.{Map, ModuleValue, module_at, scope_at, with_name, with_scope}
use Rattle.hir_collector_rules.proofs.HirDefMapRules.NoneOf.{neither, none_at, none_found, none_inserted, not_first, not_second}
use Rattle.hir_collector_rules.proofs.HirDefMapRules.StaysSourced.{HoldsNowhereIn-scope}
use Rattle.hir_collector_rules.specs.HirImportRules.Visibilities.{is_public}
use Rattle.hir_collector_rules.specs.CrateTop.{listed_under}
use Rattle.hir_collector_rules.specs.Imports.{dependency_named}
use Rattle.hir_collector_rules.specs.Macros.{macros_beside, macros_brought, other_scope, public_among, public_at, public_in, public_named, public_one}
use Rattle.hir_collector_rules.specs.Macros.{root_scope, textual_at, textual_in, wanted_in, wants_all, with_macros_used, with_used}
use Rattle.hir_collector_rules.specs.declared.source_database.Dependency.{Dependency}
use Rattle.hir_collector_rules.proofs.Lists.{none_joined}

module _ (t : SourceTest) where
  -- ---- textual scope

  abbrev pub on_textual : TextualMacro → Bool
  on_textual x = on_macro t x.makro

  pub textual_more : (ms : List TextualMacro) (name : List ℕ) (makro : MacroId) → list_any on_textual ms ≡ false → on_macro t makro ≡ false
      → list_any on_textual (with_macro ms name makro) ≡ false
  textual_more ms name makro f g =
      none_joined on_textual ms (record { name = name; makro = makro } ∷ []) f (neither (on_macro t makro) false g refl)

  -- a change of what is in textual scope in a module
  pub textual_changed : (m : Map) (home : ℕ) (change : List TextualMacro → List TextualMacro) → ((ms : List TextualMacro) → list_any on_textual ms ≡ false
      → list_any on_textual (change ms) ≡ false)
      → HoldsNowhereIn t m → HoldsNowhereIn t (with_scope m home (λ (s : ScopeValue). record s { legacy_macros = change s.legacy_macros }))
  textual_changed m home change keeps f =
      HoldsNowhereIn-scope t m home (λ (s : ScopeValue). record s { legacy_macros = change s.legacy_macros })
      (record { types = λ s g. g; values = λ s g. g; macros = λ s g. g; legacy = λ s g. keeps s.legacy_macros g }) f

  pub textual_clear : (m : Map) (home : ℕ) → HoldsNowhereIn t m → list_any on_textual (textual_at m home) ≡ false
  textual_clear m home f = go (module_at m home) refl
    where
      go : (o : Option ModuleValue) → module_at m home ≡ o → list_any on_textual (textual_in (option_map (λ (x : ModuleValue). x.scope) o)) ≡ false
      go None e = refl
      go (Some x) e = none_at (on_legacy_in t) m.modules f.legacy home x e

  -- ---- macros that are used

  prelude_clear : (prelude : List (List ℕ × (MacroId × Option ExternCrateId))) (macros : List (List ℕ × MacroId)) (by : Option ExternCrateId)
      → on_values (on_macro t) macros ≡ false → on_extern t by ≡ false
      → on_values (on_macro_use t) prelude ≡ false → on_values (on_macro_use t) (with_used prelude macros by) ≡ false
  prelude_clear prelude [] by clear own f = f
  prelude_clear prelude (e ∷ es) by clear own f =
      prelude_clear (with_name prelude e.0 (e.1, by)) es by (not_second (on_macro t e.1) (on_values (on_macro t) es) clear) own
      (none_inserted (on_macro_use t) (slice_cmp nat_cmp) prelude e.0 (e.1, by) f
      (neither (on_macro t e.1) (on_extern t by) (not_first (on_macro t e.1) (on_values (on_macro t) es) clear) own))

  pub used_clear : (m : Map) (macros : List (List ℕ × MacroId)) (by : Option ExternCrateId) → on_values (on_macro t) macros ≡ false → on_extern t by ≡ false
      → HoldsNowhereIn t m
      → HoldsNowhereIn t (with_macros_used m macros by)
  used_clear m macros by clear own f = record {
    origins = f.origins;
    types = f.types;
    values = f.values;
    macros = f.macros;
    legacy = f.legacy;
    enums = f.enums;
    macro_use = prelude_clear m.macro_use_prelude macros by clear own f.macro_use;
  }

  one_clear : (name : List ℕ) (i : Item MacroId ImportOrExternCrate) → on_macro_item t i ≡ false → on_values (on_macro t) (public_one name i) ≡ false
  one_clear name i f = go (is_public i.vis)
    where
      go : (b : Bool) → on_values (on_macro t) (cond b ((name, i.def) ∷ []) []) ≡ false
      go true = neither (on_macro t i.def) false (not_first (on_macro t i.def) (on_visibility t i.vis || on_some (on_import t) i.import) f) refl
      go false = refl

  among_clear : (es : List (List ℕ × Item MacroId ImportOrExternCrate)) → on_values (on_macro_item t) es ≡ false → on_values (on_macro t) (public_among es)
      ≡ false
  among_clear [] f = refl
  among_clear (e ∷ es) f =
      none_joined (λ (x : List ℕ × MacroId). on_macro t x.1) (public_one e.0 e.1) (public_among es)
      (one_clear e.0 e.1 (not_first (on_macro_item t e.1) (on_values (on_macro_item t) es) f))
      (among_clear es (not_second (on_macro_item t e.1) (on_values (on_macro_item t) es) f))

  named_clear : (es : List (List ℕ × Item MacroId ImportOrExternCrate)) → on_values (on_macro_item t) es ≡ false → (name : List ℕ)
      → on_values (on_macro t) (public_named name (item_at es name)) ≡ false
  named_clear es f name = go (item_at es name) refl
    where
      go : (o : Option (Item MacroId ImportOrExternCrate)) → item_at es name ≡ o → on_values (on_macro t) (public_named name o) ≡ false
      go None e = refl
      go (Some i) e = one_clear name i (none_found (on_macro_item t) (is_at (slice_cmp nat_cmp name)) es i f e)

  at_clear : (es : List (List ℕ × Item MacroId ImportOrExternCrate)) → on_values (on_macro_item t) es ≡ false → (names : List (List ℕ))
      → on_values (on_macro t) (public_at es names) ≡ false
  at_clear es f [] = refl
  at_clear es f (name ∷ names) =
      none_joined (λ (x : List ℕ × MacroId). on_macro t x.1) (public_named name (item_at es name)) (public_at es names) (named_clear es f name)
      (at_clear es f names)

  -- so are those of a scope that binds no macro of which the test holds
  abbrev MacrosAreClear : Option ScopeValue → Type 0
  MacrosAreClear None = Unit {0}
  MacrosAreClear (Some s) = on_values (on_macro_item t) s.macros ≡ false

  wanted_clear : (attributes : List Numbered) (o : Option ScopeValue) → MacrosAreClear o → on_values (on_macro t) (wanted_in attributes o) ≡ false
  wanted_clear attributes None f = refl
  wanted_clear attributes (Some s) f = go (wants_all attributes)
    where
      go : (b : Bool) → on_values (on_macro t) (cond b (public_among s.macros) (public_at s.macros (listed_under (codes "macro_use") attributes))) ≡ false
      go true = among_clear s.macros f
      go false = at_clear s.macros f (listed_under (codes "macro_use") attributes)

  public_clear : (o : Option ScopeValue) → MacrosAreClear o → on_values (on_macro t) (public_in o) ≡ false
  public_clear None f = refl
  public_clear (Some s) f = among_clear s.macros f

  module _ (finished : Maps) (nowhere : HoldsNowhere t finished) where
    root_clear : (krate : Crate) → MacrosAreClear (root_scope finished krate)
    root_clear krate = go (finished (crate_map krate)) refl
      where
        bound : (m : Map) → HoldsNowhereIn t m → (o : Option ModuleValue) → module_at m 0 ≡ o → MacrosAreClear (option_map (λ (x : ModuleValue). x.scope) o)
        bound m f None e = tt
        bound m f (Some x) e = none_at (on_macros_in t) m.modules f.macros 0 x e

        go : (o : Option Placed) → finished (crate_map krate) ≡ o
            → MacrosAreClear (option_and_then (λ (m : Map). scope_at m 0) (option_map (λ (p : Placed). p.map) o))
        go None e = tt
        go (Some p) e = bound p.map (nowhere (crate_map krate) p e) (module_at p.map 0) refl

    other_clear : (ds : List Dependency) (name : ExternCrateName) → MacrosAreClear (other_scope finished ds name)
    other_clear ds SelfCrate = tt
    other_clear ds (Name name) = go (dependency_named ds name)
      where
        go : (o : Option Crate) → MacrosAreClear (option_and_then (root_scope finished) o)
        go None = tt
        go (Some krate) = root_clear krate

    -- what an `extern crate` brings, and what comes with a prelude module
    pub brought_macros_clear : (m : Map) (ds : List Dependency) (head : Head) (name : ExternCrateName)
        → on_values (on_macro t) (macros_brought finished m ds head name) ≡ false
    brought_macros_clear m ds head name = go (is_none m.id.block)
      where
        go : (b : Bool) → on_values (on_macro t) (cond b (wanted_in head.attributes.attributes (other_scope finished ds name)) []) ≡ false
        go true = wanted_clear head.attributes.attributes (other_scope finished ds name) (other_clear ds name)
        go false = refl

    pub beside_clear : (own : Crate) (o : Option (ModuleId × Option UseId)) → on_values (on_macro t) (macros_beside finished own o) ≡ false
    beside_clear own None = refl
    beside_clear own (Some found) = go (same_crate found.0.map.krate own)
      where
        go : (b : Bool) → on_values (on_macro t) (cond b [] (public_in (root_scope finished found.0.map.krate))) ≡ false
        go true = refl
        go false = public_clear (root_scope finished found.0.map.krate) (root_clear found.0.map.krate)
