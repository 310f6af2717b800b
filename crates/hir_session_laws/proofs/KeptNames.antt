-- A source item is told for all that a name of a current module stands for, and for each trait that the module has without a name.
use Rattle.std.specs.Prelude.{not, is_some}
use Rattle.std.specs.List.{list_any}
use Rattle.std.specs.Option.{option_and_then}
use Rattle.std.proofs.Common.{◌≡◌, ◌∙◌, ap, sym, subst, refl, arith, ℕ, zero, suc, ◌<◌, ◌||◌, Bool, true, false, cond, List, [], ◌∷◌, ◌++◌, map, length, Option}
use Rattle.std.proofs.Common.{Some, None, Contains}
use Rattle.std.proofs.lemmas.List.Elements.{Contains-append_right}
use Rattle.hir_session_machine.specs.HirBase.declared.tree_id.TreeKey.{TreeKey}
use Rattle.hir_session_machine.specs.HirIds.contracts.ids.MapIdPartialEq.TheImpl as map_id
use Rattle.hir_session_machine.specs.HirIds.declared.ids.MapId.{MapId}
use Rattle.hir_session_machine.specs.HirIds.declared.ids.ModuleId.{ModuleId}
use Rattle.hir_session_machine.specs.HirIds.declared.ids.TraitId.{TraitId}
use Rattle.hir_session_machine.specs.HirIds.declared.ids.ModuleDefId.TheVariants as def
use Rattle.hir_session_machine.specs.HirSessionState.HirPerNs.PerNs.{Item}
use Rattle.hir_session_machine.specs.HirSessionState.HirPerNs.declared.imports.ImportId.{ImportId}
use Rattle.hir_session_machine.specs.HirSessionState.HirPerNs.declared.imports.ImportOrExternCrate.TheVariants as ways
use Rattle.hir_session_machine.specs.HirSessionState.HirPerNs.declared.per_ns.PerNs.{PerNs}
use Rattle.hir_session_machine.specs.HirSessionState.HirPerNs.declared.visibility.Visibility.{Visibility}
use Rattle.hir_session_machine.specs.HirSessionState.HirPerNs.declared.visibility.Visibility.TheVariants as vis
use Rattle.hir_session_machine.specs.HirSessionState.HirScope.Scope.{binding_of}
use Rattle.hir_session_machine.specs.HirSessionState.HirScope.Scope.Entries.{import_as_item, scope_names, unnamed_binding, with_bindings}
use Rattle.hir_session_machine.specs.HirNameres.WorldParts.{among}
use Rattle.hir_session_machine.specs.HirDefMapRules.Closed.{AreThere, IsClosed, PathsLeadToWhatIsThere}
use Rattle.hir_session_machine.specs.HirDefMapRules.Inner.OverlayLaws.{same_id}
use Rattle.hir_session_machine.specs.HirDefMapRules.Overlay.{Maps, Placed, entry_in, module_in, overlay, placed_in}
use Rattle.hir_session_machine.specs.HirDefMapRules.References.{any_reference_in, is_missing, test_trait, test_visibility}
use Rattle.hir_session_machine.specs.HirDefMapRules.Sources.{HoldsOfNone, PathsAnswerFromSources, SourceTest, on_def, on_import, on_some, on_visibility}
use Rattle.hir_session_machine.specs.HirDefMapRules.State.{ModuleValue, entry_of, module_at}
use Rattle.hir_session_machine.proofs.HirSessionState.HirDefMapRules.NoneOf.{neither, none_at, not_first, not_second}
use Rattle.hir_session_machine.proofs.HirSessionState.HirDefMapRules.Referred.{module_parts, scope_parts}
use Rattle.hir_session_machine.proofs.HirSessionState.HirDefMapRules.StaysWellFormed.{IsClosed-overlay}
use Rattle.hir_session_machine.specs.HirCollectorRules.declared.source_database.Key.TheVariants as keys
use Rattle.hir_session_machine.specs.HirCollectorRules.HirImportRules.Directives.{way_of}
use Rattle.hir_session_machine.specs.HirCollectorRules.HirImportRules.declared.directive.ImportDirective.{ImportDirective}
use Rattle.hir_session_machine.specs.HirCollectorRules.HirImportRules.declared.directive.ImportSource.{ImportSource}
use Rattle.hir_session_machine.specs.HirCollectorRules.HirImportRules.declared.directive.ImportSource.TheVariants as sources
use Rattle.hir_session_machine.specs.HirDefCollectorLaws.Imports.{IsOfSource, IsTraitBrought, use_key}
use Rattle.hir_session_machine.specs.HirDefCollectorLaws.Sources.{RunsBindFromSources}
use Rattle.hir_session_machine.proofs.HirSessionState.HirDefCollectorLaws.Bindings.{unnamed_traits_are_written}
use Rattle.hir_session_machine.proofs.HirSessionState.HirDefCollectorLaws.SourcedEdits.{entry_clear}
use Rattle.hir_session_machine.specs.HirSessionState.Kept.{Resolution, collected_of}
use Rattle.hir_session_machine.specs.HirSessionState.SessionState.{SessionState, finished_of, kept_of, read_under, workspace_of, IsSound}
use Rattle.hir_session_machine.proofs.HirSessionState.Standing.{kept_gives}
use Rattle.hir_session_machine.specs.HirSessionAnswers.Names.{scope_entries}
use Rattle.hir_session_machine.specs.HirSessionAnswers.SourceCalls.{source_of}
use Rattle.hir_session_machine.proofs.HirSessionAnswers.LeftOut.{IsSourced, asked_there, ended_of, macros, maps_behind, read_kept, sourced, start_of, types}
use Rattle.hir_session_machine.proofs.HirSessionAnswers.LeftOut.{unsourced, values}
use Rattle.hir_session_machine.proofs.HirSessionAnswers.ReadMaps.{own_apart, rank, read_whole, reads, stood_on_whole}
use Rattle.hir_session_laws.proofs.KeptSources.{begins_clear, is_clear, read_clear, start_reads}
use Rattle.hir_session_laws.specs.Laws.{AreWhole, IsWhole, NamesAreToldWhole}
use Rattle.hir_session_laws.proofs.UnnamedTraits.{AllKeys, AreTraitsClear, IsTraitClear, ends_clear}

-- ---- traits without names

module _ (runs : RunsBindFromSources) (answers : PathsAnswerFromSources) (paths : PathsLeadToWhatIsThere) (s : SessionState) (sound : IsSound s) where
  -- the test of what has no source item
  abbrev unwritten : SourceTest
  unwritten = record { holder = λ file block. not (is_some (source_of s.tables file block)); shown = λ m. false }

  shows_none : (m : ModuleId) → unwritten.shown m ≡ false
  shows_none m = refl

  -- it holds of no tree that the run for a current place asked for
  asked_clear : (j : MapId) (f : Resolution) → kept_of s j ≡ Some f → (key : TreeKey) → Contains f.asked (keys.Tree key)
      → unwritten.holder key.id.file key.id.block ≡ false
  asked_clear j f is key asked = ap not (asked_there s sound j f is key asked)

  traits_below : (n : ℕ) (j : MapId) (f : Resolution) → kept_of s j ≡ Some f → rank j f < n → AreTraitsClear unwritten f.map.modules
  traits_below zero j f is low = absurd (let no : rank j f < 0 = low in omega arith)
  traits_below (suc n) j f is low =
      ends_clear unwritten answers paths (read_under s j f.holders) (read_whole s sound j f is)
      (read_clear runs s sound unwritten shows_none asked_clear j f is)
      (λ id placed e.
      let own = reads s sound j f is id placed e in
      let lower : rank id own.found < rank j f = own.lower in
      subst (λ (p : Placed). AreTraitsClear unwritten p.map.modules) (sym own.map)
      (traits_below n id own.found own.is_kept (let less : rank id own.found < n = omega arith in less)))
      s.tables (workspace_of s) (finished_of s) (start_of s sound j f is) (collected_of f)
      (start_reads runs s sound unwritten shows_none asked_clear j f is) (stood_on_whole s sound j f is)
      (begins_clear runs s sound unwritten shows_none asked_clear j f is) (ended_of s sound j f is)
      (is_clear runs s sound unwritten shows_none asked_clear j f is)

  traits_clear : (j : MapId) (f : Resolution) → kept_of s j ≡ Some f → AreTraitsClear unwritten f.map.modules
  traits_clear j f is = traits_below (suc (rank j f)) j f is (omega arith)

  -- ---- a module of a map that is kept

  module _ (m : ModuleId) (r : Resolution) (is : kept_of s m.map ≡ Some r) (v : ModuleValue) (at : module_at r.map m.index ≡ Some v) where
    abbrev read : Maps
    read = read_under s m.map r.holders

    abbrev maps : Maps
    maps = maps_behind s m.map r

    abbrev test : SourceTest
    test = unsourced s.tables maps

    written : IsSourced s maps r
    written = sourced runs s sound m.map r is

    is_whole : (items : PerNs) → HoldsOfNone test items → AreThere maps items → IsWhole s.tables maps items
    is_whole items none there = record {
      types = types s.tables maps written.bound items.types none.types there.types;
      values = values s.tables maps written.bound items.values none.values;
      macros = macros s.tables maps written.bound items.macros none.macros;
    }

    -- ---- what brought a trait

    by_source : (id : ImportId) (directive : ImportDirective) (source : ImportSource)
        → IsOfSource s.tables (workspace_of s) (start_of s sound m.map r is) (collected_of r) directive source → way_of source ≡ ways.Import id
        → on_import test (ways.Import id) ≡ false
    by_source id directive (sources.Use use_ kind) leaf way =
        let same : use_ ≡ id = (let both : ways.Import use_ ≡ ways.Import id = way in cc) in
        subst (λ (x : ImportId). on_import test (ways.Import x) ≡ false) same
        (ap not (asked_there s sound m.map r is (use_key use_.use_) leaf.written.key_asked))
    by_source id directive (sources.ExternCrate extern krate) written_so way =
        absurd (let no : ⊥ = (let both : ways.ExternCrate extern ≡ ways.Import id = way in cc) in no)

    import_clear : (entry : TraitId × Item (Unit {0}) ImportId) → Contains v.scope.unnamed_traits entry
        → on_some (on_import test) (import_as_item entry.1.import) ≡ false
    import_clear entry among = go entry.1.import refl
      where
        brought : IsTraitBrought s.tables (workspace_of s) (start_of s sound m.map r is) (collected_of r) m.index entry.1
        brought =
            unnamed_traits_are_written s.tables (workspace_of s) (finished_of s) (start_of s sound m.map r is) (collected_of r)
            (ended_of s sound m.map r is) m.index v at entry.0 entry.1 among

        go : (o : Option ImportId) → entry.1.import ≡ o → on_some (on_import test) (import_as_item o) ≡ false
        go None e = refl
        go (Some id) e =
            let by = brought.by_import id e in
            by_source id by.directive by.directive.source by.is_import.of_source by.is_such.0.way

    -- ---- traits without names

    seen_clear : (o : Visibility) → test_visibility (is_missing maps) o ≡ false → on_visibility test o ≡ false
    seen_clear vis.Public f = refl
    seen_clear (vis.PubCrate c) f = refl
    seen_clear (vis.Module x e) f = f

    trait_none : (entry : TraitId × Item (Unit {0}) ImportId) → IsTraitClear unwritten entry.0 → test_trait (is_missing maps) entry ≡ false
        → Contains v.scope.unnamed_traits entry → HoldsOfNone test (unnamed_binding entry)
    trait_none entry clear seen among = record {
      types =
          neither (on_def test (def.TraitId entry.0)) (on_visibility test entry.1.vis || on_some (on_import test) (import_as_item entry.1.import)) clear
          (neither (on_visibility test entry.1.vis) (on_some (on_import test) (import_as_item entry.1.import)) (seen_clear entry.1.vis seen)
          (import_clear entry among));
      values = refl;
      macros = refl;
    }

    trait_there : (entry : TraitId × Item (Unit {0}) ImportId) → test_trait (is_missing maps) entry ≡ false → AreThere maps (unnamed_binding entry)
    trait_there entry seen = record { types = seen; values = tt; macros = tt }

    traits_whole : (entries : List (TraitId × Item (Unit {0}) ImportId)) → AllKeys (IsTraitClear unwritten) entries
        → list_any (test_trait (is_missing maps)) entries ≡ false
        → ((entry : TraitId × Item (Unit {0}) ImportId) → Contains entries entry → Contains v.scope.unnamed_traits entry)
        → AreWhole s.tables maps (map (λ (entry : TraitId × Item (Unit {0}) ImportId). (None, unnamed_binding entry)) entries)
    traits_whole [] clear seen among = tt
    traits_whole (entry ∷ entries) clear seen among =
        let first : test_trait (is_missing maps) entry ≡ false =
        not_first (test_trait (is_missing maps) entry) (list_any (test_trait (is_missing maps)) entries) seen in
        let here : Contains v.scope.unnamed_traits entry =
        among entry (0, (let below : 0 < length (entry ∷ entries) = omega arith in below), refl) in (
          is_whole (unnamed_binding entry) (trait_none entry clear.0 first here) (trait_there entry first),
          traits_whole entries clear.1 (not_second (test_trait (is_missing maps) entry) (list_any (test_trait (is_missing maps)) entries) seen)
              (λ other h. among other (Contains-append_right (entry ∷ []) entries other h)),
        )

    -- ---- names

    own_module : module_in maps m ≡ Some v
    own_module =
        let own : map_id.ghosts.eq m.map r.map.id ≡ true =
        ap (λ (x : MapId). map_id.ghosts.eq m.map x) (kept_gives s sound m.map r is).own ∙ same_id m.map in
        ap (λ (b : Bool). option_and_then (λ (p : Placed). module_at p.map m.index) (cond b (Some (placed_in read r.map)) (read m.map))) own ∙ at

    own_entry : (name : List ℕ) → entry_in maps m name ≡ binding_of v.scope name
    own_entry name = ap (λ (o : Option ModuleValue). entry_of o name) own_module

    closed : IsClosed maps
    closed =
        let gives = kept_gives s sound m.map r is in
        IsClosed-overlay read r.map (ap read gives.own ∙ own_apart s sound m.map r is) (read_whole s sound m.map r is) gives.names

    named_whole : (names : List (List ℕ)) (others : List (Option (List ℕ) × PerNs)) → AreWhole s.tables maps others
        → AreWhole s.tables maps (map (λ (entry : List ℕ × PerNs). (Some entry.0, entry.1)) (with_bindings v.scope names) ++ others)
    named_whole [] others all = all
    named_whole (name ∷ names) others all = (
      is_whole (binding_of v.scope name) (subst (HoldsOfNone test) (own_entry name) (entry_clear test maps written.bound m name))
          (subst (AreThere maps) (own_entry name) (closed.names m name)),
      named_whole names others all,
    )

    pub entries_whole : AreWhole s.tables maps (scope_entries v.scope)
    entries_whole =
        let gives = kept_gives s sound m.map r is in
        let seen = scope_parts (is_missing maps) v.scope
        (module_parts (is_missing maps) v (none_at (any_reference_in (is_missing maps)) r.map.modules gives.names.modules m.index v at)).scope in
        named_whole (scope_names v.scope) (map (λ (entry : TraitId × Item (Unit {0}) ImportId). (None, unnamed_binding entry)) v.scope.unnamed_traits)
        (traits_whole v.scope.unnamed_traits ((traits_clear m.map r is).each m.index v at) seen.traits (λ entry among. among))

pub names_whole : RunsBindFromSources → PathsAnswerFromSources → PathsLeadToWhatIsThere → NamesAreToldWhole
names_whole runs answers paths s m found v sound is at =
    subst (λ (read : Maps). AreWhole s.tables (overlay read found.map) (scope_entries v.scope)) (sym (read_kept s m.map found is))
    (entries_whole runs answers paths s sound m found is v at)
