-- A trait that a module has without a name is written in a source that its run asked for, or where the maps beside it bind.
use Rattle.std.specs.Prelude.{◌||◌}
use Rattle.std.specs.Map.{lookup}
use Rattle.std.proofs.Common.{◌≡◌, ◌∙◌, ℕ, List, [], ◌∷◌, ◌++◌, Bool, true, false, cond, if◌then◌else◌, Option, None, Some, option_map, option_and_then}
use Rattle.std.proofs.Common.{map as list_map, slice_get, refl, sym, ap, subst, Contains, arith}
use Rattle.std.proofs.lemmas.List.Elements.{Contains-append_left}
use Rattle.indexmap.specs.IndexMap.{insert_entry as insert_last}
use Rattle.hir_session_machine.specs.HirIds.contracts.ids.TraitIdPartialEq.TheImpl as trait_id
use Rattle.hir_session_machine.specs.HirIds.declared.ids.Crate.{Crate}
use Rattle.hir_session_machine.specs.HirIds.declared.ids.MapId.{MapId}
use Rattle.hir_session_machine.specs.HirIds.declared.ids.ModuleDefId.{ModuleDefId}
use Rattle.hir_session_machine.specs.HirIds.declared.ids.ModuleId.{ModuleId}
use Rattle.hir_session_machine.specs.HirIds.declared.ids.TraitId.{TraitId}
use Rattle.hir_session_machine.specs.HirIds.declared.ids.ModuleDefId.TheVariants as definitions
use Rattle.hir_session_machine.specs.HirCollectorRules.HirPerNs.PerNs.{Item, is_nothing}
use Rattle.hir_session_machine.specs.HirCollectorRules.HirTextualScope.Macros.{with_macro}
use Rattle.hir_session_machine.specs.HirCollectorRules.HirTextualScope.declared.textual_scope.TextualMacro.{TextualMacro}
use Rattle.hir_session_machine.specs.HirCollectorRules.HirScope.Scope.{ScopeValue, empty_scope}
use Rattle.hir_session_machine.specs.HirCollectorRules.HirScope.Scope.Push.{taken_candidates, with_unresolved, written_scope}
use Rattle.hir_session_machine.specs.HirCollectorRules.HirScope.Scope.Updates.{censored_item}
use Rattle.hir_session_machine.specs.HirCollectorRules.HirPerNs.declared.imports.ImportId.{ImportId}
use Rattle.hir_session_machine.specs.HirCollectorRules.HirPerNs.declared.imports.ImportOrExternCrate.{ImportOrExternCrate}
use Rattle.hir_session_machine.specs.HirCollectorRules.HirPerNs.declared.item_in_ns.ItemInNs.{ItemInNs}
use Rattle.hir_session_machine.specs.HirCollectorRules.HirPerNs.declared.per_ns.PerNs.{PerNs}
use Rattle.hir_session_machine.specs.HirCollectorRules.HirPerNs.declared.visibility.Visibility.{Visibility}
use Rattle.hir_session_machine.specs.HirCollectorRules.HirPerNs.declared.item_in_ns.ItemInNs.TheVariants as in_ns
use Rattle.hir_session_machine.specs.HirTables.Tables.{TablesValue}
use Rattle.hir_session_machine.specs.HirDefMapRules.Closed.{PathsLeadToWhatIsThere}
use Rattle.hir_session_machine.specs.HirDefMapRules.Declaration.{listed}
use Rattle.hir_session_machine.specs.HirDefMapRules.Overlay.{Maps, Placed, module_in, overlay}
use Rattle.hir_session_machine.specs.HirDefMapRules.Reaches.{by_import}
use Rattle.hir_session_machine.specs.HirDefMapRules.Sources.{HoldsNowhere, HoldsOfNone, PathsAnswerFromSources, SourceTest, on_def, on_import, on_some, on_type}
use Rattle.hir_session_machine.specs.HirDefMapRules.Sources.{on_visibility}
use Rattle.hir_session_machine.specs.HirDefMapRules.State.{Map, ModuleValue, changed_at, module_at, new_id, new_module, numbered, with_child, with_module_scope}
use Rattle.hir_session_machine.specs.HirDefMapRules.WellFormed.{AreWellFormed}
use Rattle.hir_session_machine.specs.HirDefMapRules.declared.declaration.Declaration.{Declaration as Listing}
use Rattle.hir_session_machine.specs.HirDefMapRules.declared.declaration.Declaration.TheVariants as listings
use Rattle.hir_session_machine.specs.HirCollectorRules.HirMapParts.declared.diagnostics.DefDiagnostic.{DefDiagnostic}
use Rattle.hir_session_machine.proofs.HirSessionState.HirDefMapRules.NoneOf.{not_first}
use Rattle.hir_session_machine.proofs.HirSessionState.HirDefMapRules.StaysSourced.{HoldsNowhere-overlay}
use Rattle.hir_session_machine.specs.HirCollectorRules.HirGlobImports.Rules.{Rule as GlobRule, May as MayAlong, acts as glob_acts, brings, copies, copies_along}
use Rattle.hir_session_machine.specs.HirCollectorRules.HirGlobImports.Rules.{follows, follows_along, raises, raises_along}
use Rattle.hir_session_machine.specs.HirCollectorRules.HirGlobImports.View.{View}
use Rattle.hir_session_machine.specs.HirCollectorRules.HirGlobImports.declared.edge.Bound.{Bound}
use Rattle.hir_session_machine.specs.HirCollectorRules.HirGlobImports.declared.edge.Target.{Target}
use Rattle.hir_session_machine.specs.HirCollectorRules.HirGlobImports.declared.edge.Key.{Key}
use Rattle.hir_session_machine.specs.HirCollectorRules.HirGlobImports.declared.edge.Key.TheVariants.{Types, Values, Macros, Unnamed}
use Rattle.hir_session_machine.specs.HirCollectorRules.HirGlobImports.declared.edge.Target.TheVariants as targets
use Rattle.hir_session_machine.specs.HirCollectorRules.HirImportRules.Changes.{Change as ImportChange, along, keeps_trait, pushes, records, takes}
use Rattle.hir_session_machine.specs.HirCollectorRules.HirImportRules.Directives.{answer_in, is_unnamed, kept_by, kept_trait, kind_of, open_items, answer_to}
use Rattle.hir_session_machine.specs.HirCollectorRules.HirImportRules.Directives.{trait_among, trait_by}
use Rattle.hir_session_machine.specs.HirCollectorRules.HirImportRules.Names.{ScopesValue, bound_of, bound_trait, is_foreign, is_open, open_vis, redefined}
use Rattle.hir_session_machine.specs.HirCollectorRules.HirImportRules.Names.{revised, scope_table, trait_vis, traits_of, view_of}
use Rattle.hir_session_machine.specs.HirCollectorRules.HirImportRules.Rules.{Rule as ImportRule, May as MayImport, acts as import_acts, goes_along, takes_glob}
use Rattle.hir_session_machine.specs.HirCollectorRules.HirImportRules.Rules.{takes_import}
use Rattle.hir_session_machine.specs.HirCollectorRules.HirImportRules.ScopeLaws.{same_trait}
use Rattle.hir_session_machine.specs.HirCollectorRules.HirImportRules.State.{ImportState, glob_state, scopes_of}
use Rattle.hir_session_machine.specs.HirCollectorRules.HirImportRules.declared.directive.ImportDirective.{ImportDirective}
use Rattle.hir_session_machine.specs.HirCollectorRules.Calls.{error_of}
use Rattle.hir_session_machine.specs.HirCollectorRules.Changes.{Change, lists, makes, changes_imports, adds_textual, takes_textual, lists_derive, notes, act}
use Rattle.hir_session_machine.specs.HirCollectorRules.Changes.{with_builtin_derive}
use Rattle.hir_session_machine.specs.HirCollectorRules.Invocations.{with_invocation}
use Rattle.hir_session_machine.specs.HirCollectorRules.declared.exported.ExportedFunction.{ExportedFunction}
use Rattle.hir_session_machine.specs.HirCollectorRules.declared.source_database.Key.{Key as AskedKey}
use Rattle.hir_session_machine.specs.HirCollectorRules.declared.source_database.Key.TheVariants as keys
use Rattle.hir_session_machine.specs.HirCollectorRules.Derivation.{CollectedValue, Ends, leftover_reports}
use Rattle.hir_session_machine.specs.HirCollectorRules.Ended.{ended, exporting_scope, without_function, without_functions}
use Rattle.hir_session_machine.specs.HirCollectorRules.ItemIds.{module_id}
use Rattle.hir_session_machine.specs.HirCollectorRules.Keys.{Environment, environment, keys_behind}
use Rattle.hir_session_machine.specs.HirCollectorRules.Macros.{textual_at}
use Rattle.hir_session_machine.specs.HirCollectorRules.Start.{Beginning, begin_of, holders_by, krate_of, read_by, root_key, start_of, tree_key}
use Rattle.hir_session_machine.specs.HirCollectorRules.State.{Core, State, import_state}
use Rattle.hir_session_machine.specs.HirCollectorRules.Steps.{Rule, lists_derives, exports_macro, rests, expands_call, meets_macro, drops_call, drops_reached}
use Rattle.hir_session_machine.specs.HirCollectorRules.Steps.{derives_builtin, falls_back, defines_rules, defines_macro, declares_item, declares_enum}
use Rattle.hir_session_machine.specs.HirCollectorRules.Steps.{opens_module, opens_file, misses_file, reaches_imports, reaches_crate, resolves_imports, May}
use Rattle.hir_session_machine.specs.HirCollectorRules.Steps.{Steps, acts, asking, more, none}
use Rattle.hir_session_machine.specs.HirCollectorRules.Workspace.{Workspace, transitive_dependencies_in}
use Rattle.hir_session_machine.proofs.HirSessionState.HirCollectorRules.Asks.{still_asked, still_asked-Step}
use Rattle.hir_session_machine.proofs.HirSessionState.HirCollectorRules.Changes.{AllFine, fine_bringing, fine_expanding, fine_macro, fine_reporting, id-Step}
use Rattle.hir_session_machine.proofs.HirSessionState.HirCollectorRules.Changes.{perform_keeps}
use Rattle.hir_session_machine.proofs.HirSessionState.HirCollectorRules.Grows.{Grows, Grows-Step, Grows-same}
use Rattle.hir_session_machine.proofs.HirSessionState.HirCollectorRules.Holds.{in_range-start}
use Rattle.hir_session_machine.proofs.HirSessionState.HirCollectorRules.ImportEdits.{Edit, copy_at, copy_where, edit, edit_of, edited, follow_at, follow_where}
use Rattle.hir_session_machine.proofs.HirSessionState.HirCollectorRules.ImportEdits.{keeps_unnamed, map_after, pushes_to, redefines, revises}
use Rattle.hir_session_machine.proofs.HirSessionState.HirCollectorRules.InRange.{IsInRange}
use Rattle.hir_session_machine.specs.HirDefCollectorLaws.Sources.{BeginsClear, IsClearOf}
use Rattle.hir_session_machine.specs.HirDefCollectorLaws.Whole.{StandsOnWhole}
use Rattle.hir_session_machine.proofs.HirSessionState.HirDefCollectorLaws.Ended.{ended_by}
use Rattle.hir_session_machine.proofs.HirSessionState.HirDefCollectorLaws.ModuleLists.{IsChanged, IsOfLonger, changed-at, changed_one, newest, of_longer, older}
use Rattle.hir_session_machine.proofs.HirSessionState.HirDefCollectorLaws.ModuleLists.{other_one}
use Rattle.hir_session_machine.proofs.HirSessionState.HirDefCollectorLaws.Sourced.{all_sourced, first_sourced}
use Rattle.hir_session_machine.proofs.HirSessionState.HirDefCollectorLaws.SourcedEdits.{shown_stands}
use Rattle.hir_session_machine.proofs.HirSessionState.HirDefCollectorLaws.SourcedEnded.{stays_ended}
use Rattle.hir_session_machine.proofs.HirSessionState.HirDefCollectorLaws.SourcedItems.{answer_of_source, kept_of_kind, open_of}
use Rattle.hir_session_machine.proofs.HirSessionState.HirDefCollectorLaws.SourcedState.{AreClear, IsSourced, ShowsThere, stays_there}
use Rattle.hir_session_machine.proofs.HirSessionState.HirDefCollectorLaws.Whole.{begins}
use Rattle.hir_session_machine.proofs.HirSessionState.HirDefCollectorLaws.WholeChanges.{NamesWhatIsThere}

-- ---- what holds of all keys of a list

module _ {K V : Type 0} (P : K → Type 0) where
  abbrev pub AllKeys : List (K × V) → Type 0
  AllKeys [] = Unit {0}
  AllKeys (e ∷ es) = P e.0 × AllKeys es

  keys_last : (same : K → K → Bool) (es : List (K × V)) (k : K) (v : V) → AllKeys es → P k → AllKeys (insert_last same es k v)
  keys_last same [] k v f g = (g, tt)
  keys_last same (e ∷ es) k v f g = go (same k e.0) (keys_last same es k v f.1 g)
    where
      go : (b : Bool) → AllKeys (insert_last same es k v) → AllKeys (if b then (e.0, v) ∷ es else e ∷ insert_last same es k v)
      go true below = f
      go false below = (f.0, below)

  keys_found : (same : K → K → Bool) → ((a b : K) → same a b ≡ true → a ≡ b) → (k : K) (es : List (K × V)) (v : V) → AllKeys es
      → lookup (same k) es ≡ Some v → P k
  keys_found same exact k [] v f e = absurd (let no : ⊥ = cc in no)
  keys_found same exact k (x ∷ xs) v f e = go (same k x.0) refl (λ h. keys_found same exact k xs v f.1 h) e
    where
      go : (b : Bool) → same k x.0 ≡ b → (lookup (same k) xs ≡ Some v → P k) → cond b (Some x.1) (lookup (same k) xs) ≡ Some v → P k
      go true s below h = subst P (sym (exact k x.0 s)) f.0
      go false s below h = below h

  keys_mapped : (new : V → V) (es : List (K × V)) → AllKeys es → AllKeys (list_map (λ (e : K × V). (e.0, new e.1)) es)
  keys_mapped new [] f = tt
  keys_mapped new (e ∷ es) f = (f.0, keys_mapped new es f.1)

-- what a glob brings through another crate is there
opened : (crossing : Bool) (o : Option Visibility) (vis : Visibility) → open_vis crossing o ≡ Some vis → o ≡ Some vis
opened crossing None vis e = e
opened crossing (Some v) vis e = go (is_open crossing v) e
  where
    go : (b : Bool) → cond b (Some v) None ≡ Some vis → Some v ≡ Some vis
    go true h = h
    go false h = absurd (let no : ⊥ = cc in no)

module _ (t : SourceTest) where
  -- the test doesn't hold of what holds a trait
  abbrev pub IsTraitClear : TraitId → Type 0
  IsTraitClear id = t.holder id.loc.file_id id.loc.block ≡ false

  abbrev pub HasClearTraits : ScopeValue → Type 0
  HasClearTraits s = AllKeys IsTraitClear s.unnamed_traits

  -- nor of what holds one that a module has without a name
  pub record AreTraitsClear (ms : List ModuleValue) : Type 0 where
    pub each : (number : ℕ) (m : ModuleValue) → slice_get ms number ≡ Some m → HasClearTraits m.scope

  -- ---- a scope

  abbrev IsKeyClear : Key → Type 0
  IsKeyClear (Types name) = Unit {0}
  IsKeyClear (Values name) = Unit {0}
  IsKeyClear (Macros name) = Unit {0}
  IsKeyClear (Unnamed id) = IsTraitClear id

  abbrev IsEditClear : Edit → Type 0
  IsEditClear (pushes_to globs name items by) = Unit {0}
  IsEditClear (keeps_unnamed id vis by) = IsTraitClear id
  IsEditClear (redefines name def vis) = Unit {0}
  IsEditClear (revises key vis) = IsKeyClear key

  trait_kept : (s : ScopeValue) (id : TraitId) (item : Item (Unit {0}) ImportId) → HasClearTraits s → IsTraitClear id
      → AllKeys IsTraitClear (insert_last trait_id.ghosts.eq s.unnamed_traits id item)
  trait_kept s id item f clear = keys_last IsTraitClear trait_id.ghosts.eq s.unnamed_traits id item f clear

  traits_redefined : (name : List ℕ) (def : ItemInNs) (vis : Visibility) (s : ScopeValue) → HasClearTraits s → HasClearTraits (redefined name def vis s)
  traits_redefined name (in_ns.Types def) vis s f = f
  traits_redefined name (in_ns.Values def) vis s f = f
  traits_redefined name (in_ns.Macros def) vis s f = f

  traits_revised : (key : Key) (vis : Visibility) → IsKeyClear key → (s : ScopeValue) → HasClearTraits s → HasClearTraits (revised key vis s)
  traits_revised (Types name) vis clear s f = f
  traits_revised (Values name) vis clear s f = f
  traits_revised (Macros name) vis clear s f = f
  traits_revised (Unnamed id) vis clear s f = trait_kept s id _ f clear

  traits_edited : (m : ModuleId) (e : Edit) → IsEditClear e → (s : ScopeValue) → HasClearTraits s → HasClearTraits (edit m e s)
  traits_edited m (pushes_to globs name items by) clear s f = go (is_nothing items)
    where
      go : (b : Bool) → AllKeys IsTraitClear
          (cond b (with_unresolved s name) (written_scope name (taken_candidates s globs (m, name) items by) s)).unnamed_traits
      go true = f
      go false = f
  traits_edited m (keeps_unnamed id vis by) clear s f = trait_kept s id _ f clear
  traits_edited m (redefines name def vis) clear s f = traits_redefined name def vis s f
  traits_edited m (revises key vis) clear s f = traits_revised key vis clear s f

  -- ---- a map

  traits_changed : (ms : List ModuleValue) (at : ℕ) (change : ModuleValue → ModuleValue)
      → ((m : ModuleValue) → HasClearTraits m.scope → HasClearTraits (change m).scope) → AreTraitsClear ms → AreTraitsClear (changed_at ms at change)
  traits_changed ms at change keeps f = record { each = λ number m e. go number m (changed-at ms at change number m e) }
    where
      go : (number : ℕ) (m : ModuleValue) → IsChanged ms at change number m → HasClearTraits m.scope
      go number m (changed_one old here there is) =
          subst (λ (v : ModuleValue). HasClearTraits v.scope) (sym is) (keeps old (f.each number old there))
      go number m (other_one ne there) = f.each number m there

  traits_longer : (ms : List ModuleValue) (new : ModuleValue) → new.scope ≡ empty_scope → AreTraitsClear ms → AreTraitsClear (ms ++ new ∷ [])
  traits_longer ms new empty f = record { each = λ number m e. go number m (of_longer ms new number m e) }
    where
      bare : HasClearTraits empty_scope
      bare = tt

      go : (number : ℕ) (m : ModuleValue) → IsOfLonger ms new number m → HasClearTraits m.scope
      go number m (older h) = f.each number m h
      go number m (newest h) = subst (λ (s : ScopeValue). HasClearTraits s) (sym (ap (λ (v : ModuleValue). v.scope) h ∙ empty)) bare

  traits_listed : (d : Listing) (s : ScopeValue) → HasClearTraits s → HasClearTraits (listed d s)
  traits_listed (listings.Def def) s f = f
  traits_listed other s f = f

  abbrev AreEditsClear : Option (ℕ × Edit) → Type 0
  AreEditsClear None = Unit {0}
  AreEditsClear (Some e) = IsEditClear e.1

  edited_clear : (m : Map) (o : Option (ℕ × Edit)) → AreEditsClear o → AreTraitsClear m.modules → AreTraitsClear (edited m o).modules
  edited_clear m None clear f = f
  edited_clear m (Some e) clear f =
      traits_changed m.modules e.0 (with_module_scope (edit (numbered m.id e.0) e.1)) (λ v g. traits_edited (numbered m.id e.0) e.1 clear v.scope g) f

  -- ---- changes

  abbrev IsImportClear : ImportChange → Type 0
  IsImportClear (pushes home name items source) = Unit {0}
  IsImportClear (keeps_trait finished home id vis by) = (tr : TraitId) → id ≡ Some tr → IsTraitClear tr
  IsImportClear (takes i taken) = Unit {0}
  IsImportClear (records edges) = Unit {0}
  IsImportClear (along finished (copies slot of vis by)) = IsKeyClear slot.key
  IsImportClear (along finished (brings slot by)) = Unit {0}
  IsImportClear (along finished (follows slot of vis)) = IsKeyClear slot.key
  IsImportClear (along finished (raises slot vis)) = IsKeyClear slot.key

  abbrev IsChangeClear : State → Change → Type 0
  IsChangeClear s (changes_imports c) = IsImportClear c
  IsChangeClear s other = Unit {0}

  clear_edits : (s : ImportState) (c : ImportChange) → IsImportClear c → AreEditsClear (edit_of s c)
  clear_edits s (pushes home None items source) clear = tt
  clear_edits s (pushes home (Some name) items source) clear = tt
  clear_edits s (keeps_trait finished home None vis by) clear = tt
  clear_edits s (keeps_trait finished home (Some id) vis by) clear = clear id refl
  clear_edits s (takes i taken) clear = tt
  clear_edits s (records edges) clear = tt
  clear_edits s (along finished (copies slot of vis by)) clear = go (bound_of (scopes_of finished s) of slot.key)
    where
      at_key : (key : Key) → IsKeyClear key → (b : Bound) → IsEditClear (copy_at s key vis by b)
      at_key (Types name) g b = tt
      at_key (Values name) g b = tt
      at_key (Macros name) g b = tt
      at_key (Unnamed id) g b = g

      go : (o : Option Bound) → AreEditsClear (copy_where s slot vis by o)
      go None = tt
      go (Some b) = at_key slot.key clear b
  clear_edits s (along finished (brings slot by)) clear = tt
  clear_edits s (along finished (follows slot of vis)) clear = go (bound_of (scopes_of finished s) of slot.key)
    where
      at_key : (key : Key) → IsKeyClear key → (b : Bound) → IsEditClear (follow_at s key vis b)
      at_key (Types name) g b = tt
      at_key (Values name) g b = tt
      at_key (Macros name) g b = tt
      at_key (Unnamed id) g b = g

      go : (o : Option Bound) → AreEditsClear (follow_where s slot vis o)
      go None = tt
      go (Some b) = at_key slot.key clear b
  clear_edits s (along finished (raises slot vis)) clear = clear

  pub record HasTraitsClear (s : State) : Type 0 where
    pub modules : AreTraitsClear s.core.map.modules

  textual_clear : (ms : List ModuleValue) (home : ℕ) (change : List TextualMacro → List TextualMacro) → AreTraitsClear ms
      → AreTraitsClear (changed_at ms home (with_module_scope (λ (x : ScopeValue). record x { legacy_macros = change x.legacy_macros })))
  textual_clear ms home change f =
      traits_changed ms home (with_module_scope (λ (x : ScopeValue). record x { legacy_macros = change x.legacy_macros })) (λ v g. g) f

  clear-act : (s : State) (c : Change) → HasTraitsClear s → IsChangeClear s c → HasTraitsClear (act s c)
  clear-act s (lists home d) f clear =
      record { modules = traits_changed s.core.map.modules home (with_module_scope (listed d)) (λ v g. traits_listed d v.scope g) f.modules }
  clear-act s (makes home name origin visibility) f clear = record {
    modules =
        traits_longer (changed_at s.core.map.modules home (with_child name (new_id s.core.map)))
        (new_module origin visibility (Some (module_id s.core.map home))) refl
        (traits_changed s.core.map.modules home (with_child name (new_id s.core.map)) (λ v g. g) f.modules);
  }
  clear-act s (changes_imports c) f clear = record {
    modules =
        subst (λ (m : Map). AreTraitsClear m.modules) (sym (map_after (import_state s) c))
        (edited_clear s.core.map (edit_of (import_state s) c) (clear_edits (import_state s) c clear) f.modules);
  }
  clear-act s (adds_textual home name makro) f clear =
      record { modules = textual_clear s.core.map.modules home (λ macros. with_macro macros name makro) f.modules }
  clear-act s (takes_textual home from_) f clear = record { modules = textual_clear s.core.map.modules home (λ _. textual_at s.core.map from_) f.modules }
  clear-act s (lists_derive home imp) f clear =
      record { modules = traits_changed s.core.map.modules home (with_module_scope (with_builtin_derive imp)) (λ v g. g) f.modules }
  clear-act s (notes home invocation) f clear =
      record { modules = traits_changed s.core.map.modules home (with_module_scope (with_invocation invocation)) (λ v g. g) f.modules }
  clear-act s other f clear = record { modules = f.modules }

  -- ---- what an import keeps

  of_trait : (d : ModuleDefId) (tr : TraitId) → on_def t d ≡ false → trait_by d ≡ Some tr → IsTraitClear tr
  of_trait (definitions.TraitId id) tr f e = let same : id ≡ tr = cc in subst IsTraitClear same f
  of_trait other tr f e = absurd (let no : ⊥ = cc in no)

  among_clear : (o : Option (Item ModuleDefId ImportOrExternCrate)) (tr : TraitId) → on_some (on_type t) o ≡ false → trait_among o ≡ Some tr
      → IsTraitClear tr
  among_clear None tr f e = absurd (let no : ⊥ = cc in no)
  among_clear (Some i) tr f e = of_trait i.def tr (not_first (on_def t i.def) (on_visibility t i.vis || on_some (on_import t) i.import) f) e

  unnamed_is : (b : Bool) (o : Option TraitId) (tr : TraitId) → cond b o None ≡ Some tr → o ≡ Some tr
  unnamed_is true o tr e = e
  unnamed_is false o tr e = absurd (let no : ⊥ = cc in no)

  -- ---- rules

  abbrev AllImports : List ImportChange → Type 0
  AllImports [] = Unit {0}
  AllImports (c ∷ cs) = IsImportClear c × AllImports cs

  imports_all : (cs : List ImportChange) (s : State) → AllImports cs → AllFine IsChangeClear s (list_map changes_imports cs)
  imports_all [] s all = tt
  imports_all (c ∷ cs) s all = (all.0, imports_all cs (act s (changes_imports c)) all.1)

  -- the maps beside a run have such traits alone
  abbrev pub AreAllClear : Maps → Type 0
  AreAllClear finished = (id : MapId) (placed : Placed) → finished id ≡ Some placed → AreTraitsClear placed.map.modules

  module _ (answers : PathsAnswerFromSources) (finished : Maps) (nowhere : HoldsNowhere t finished) (beside : AreAllClear finished) (s : State)
      (f : IsSourced t s) (g : HasTraitsClear s) where
    answers_none : (r : ImportDirective)
        → HoldsOfNone t (answer_in finished s.core.local s.core.map (numbered s.core.map.id r.home) r.path).resolved_def
    unfolding answer_in
    answers_none r =
        answers t (overlay finished s.core.map) (by_import s.core.local) (numbered s.core.map.id r.home) r.path
        (HoldsNowhere-overlay t finished s.core.map nowhere f.map) f.local

    kept_none : (r : ImportDirective) → HoldsOfNone t (kept_by finished s.core.local s.core.map r)
    kept_none r =
        let crossing : Bool = (answer_to finished s.core.local s.core.map r).prefix_info.differing_crate in
        kept_of_kind t (kind_of r.source) (open_items crossing (answer_to finished s.core.local s.core.map r).resolved_def)
        (open_of t crossing (answer_to finished s.core.local s.core.map r).resolved_def
        (answer_of_source t r.source (answer_in finished s.core.local s.core.map (numbered s.core.map.id r.home) r.path) (answers_none r)))

    kept_clear : (r : ImportDirective) (tr : TraitId) → kept_trait finished s.core.local s.core.map r ≡ Some tr → IsTraitClear tr
    kept_clear r tr e =
        let items : PerNs = kept_by finished s.core.local s.core.map r in
        among_clear items.types tr (kept_none r).types (unnamed_is (is_unnamed r.alias) (trait_among items.types) tr e)

    -- ---- what globs bring

    abbrev names_here : ScopesValue
    names_here = scopes_of finished (import_state s)

    abbrev view_here : View
    view_here = view_of names_here

    of_module : (o : Option ModuleValue) → ((m : ModuleValue) → o ≡ Some m → HasClearTraits m.scope) → (id : TraitId) (vis : Visibility)
        → trait_vis o id ≡ Some vis → IsTraitClear id
    of_module None clear id vis e = absurd (let no : ⊥ = cc in no)
    of_module (Some m) clear id vis e = go (lookup (trait_id.ghosts.eq id) m.scope.unnamed_traits) refl e
      where
        go : (o : Option (Item (Unit {0}) ImportId)) → lookup (trait_id.ghosts.eq id) m.scope.unnamed_traits ≡ o
            → option_map (λ (item : Item (Unit {0}) ImportId). item.vis) o ≡ Some vis → IsTraitClear id
        go None is h = absurd (let no : ⊥ = cc in no)
        go (Some item) is h = keys_found IsTraitClear trait_id.ghosts.eq same_trait id m.scope.unnamed_traits item (clear m refl) is

    of_finished : (m : ModuleId) (v : ModuleValue) → module_in finished m ≡ Some v → HasClearTraits v.scope
    of_finished m v e = go (finished m.map) refl e
      where
        go : (o : Option Placed) → finished m.map ≡ o → option_and_then (λ (placed : Placed). module_at placed.map m.index) o ≡ Some v
            → HasClearTraits v.scope
        go None is h = absurd (let no : ⊥ = cc in no)
        go (Some placed) is h = (beside m.map placed is).each m.index v h

    of_target : (of : Target) (id : TraitId) (vis : Visibility) → traits_of names_here of id ≡ Some vis → IsTraitClear id
    of_target (targets.Own at) id vis e = of_module (module_at s.core.map at) (λ m is. g.modules.each at m is) id vis e
    of_target (targets.Module m) id vis e =
        of_module (module_in finished m) (of_finished m) id vis (opened (is_foreign s.core.map.id m) (trait_vis (module_in finished m) id) vis e)
    of_target (targets.Enum enum) id vis e = absurd (let no : ⊥ = cc in no)

    at_target : (of : Target) (key : Key) (b : Bound) → bound_of names_here of key ≡ Some b → IsKeyClear key
    at_target of (Types name) b e = tt
    at_target of (Values name) b e = tt
    at_target of (Macros name) b e = tt
    at_target of (Unnamed id) b e = go (traits_of names_here of id) refl e
      where
        go : (o : Option Visibility) → traits_of names_here of id ≡ o → bound_trait id o ≡ Some b → IsTraitClear id
        go None is h = absurd (let no : ⊥ = cc in no)
        go (Some vis) is h = of_target of id vis is

    glob_all : (rule : GlobRule) → MayAlong scope_table (glob_state finished (import_state s)) rule
        → AllImports (list_map (along finished) (glob_acts (view_of (scopes_of finished (import_state s))) rule))
    glob_all (copies_along j e slot b) may =
        (at_target e.source slot.key b (shown_stands (view_here.sees e.importer) (bound_of names_here e.source slot.key) b may.shows.shown), (tt, tt))
    glob_all (follows_along j e slot b) may =
        (at_target e.source slot.key b (shown_stands (view_here.sees e.importer) (bound_of names_here e.source slot.key) b may.shows.shown), (tt, tt))
    glob_all (raises_along j e slot vis) may = (at_target (targets.Own slot.at) slot.key may.c may.stands, tt)

    rule_all : (rule : ImportRule) → MayImport finished (import_state s) rule → AllImports (import_acts finished (import_state s) rule)
    rule_all (takes_import i r taken) may = (tt, (kept_clear r, (tt, tt)))
    rule_all (takes_glob i r taken by target edges) may = (tt, (tt, tt))
    rule_all (goes_along rule) may = glob_all rule may

    clear_rule : (r : Rule) → May finished s r → AllFine IsChangeClear (asking s r) (acts finished s r)
    clear_rule (declares_item v d rest) may = (tt, (tt, (tt, tt)))
    clear_rule (declares_enum site head name variants rest) may = (tt, (tt, (tt, (tt, tt))))
    clear_rule (opens_module site head name items rest) may = (tt, (tt, (tt, (tt, (tt, tt)))))
    clear_rule (opens_file site head name search file rest) may = (tt, (tt, (tt, (tt, (tt, tt)))))
    clear_rule (misses_file site head name search report rest) may = (tt, (tt, (tt, (tt, (tt, (tt, tt))))))
    clear_rule (reaches_imports site head tree rest) may = (tt, (tt, (tt, tt)))
    clear_rule (reaches_crate site head name alias rest) may = (tt, (tt, (tt, (tt, (tt, tt)))))
    clear_rule (defines_rules site head name expander helpers rest) may =
        (tt, (tt, (tt, (tt, fine_macro IsChangeClear _ _ expander (λ at. tt) head name _ (λ at. tt) _))))
    clear_rule (defines_macro site head name expander helpers rest) may =
        (tt, (tt, (tt, (tt, (tt, fine_reporting IsChangeClear _ _ expander (λ at. tt) _)))))
    clear_rule (lists_derives v at a adt paths call rest) may = (tt, (tt, (tt, tt)))
    clear_rule (exports_macro site head name d e rest) may = (tt, (tt, (tt, (tt, (tt, (tt, (tt, tt)))))))
    clear_rule (meets_macro i d makro x) may = (tt, tt)
    clear_rule rests may = (tt, tt)
    clear_rule (expands_call i d makro x) may = (tt, (tt, (tt, fine_expanding IsChangeClear _ (λ at helper. tt) _ _ d (error_of x.there) (λ at text. tt) _)))
    clear_rule (drops_call i d) may = (tt, tt)
    clear_rule (drops_reached i d makro) may = (tt, fine_bringing IsChangeClear _ (λ at helper. tt) _ _)
    clear_rule (derives_builtin i d makro imp) may = (tt, (tt, (tt, fine_bringing IsChangeClear _ (λ at helper. tt) _ _)))
    clear_rule (falls_back i d k waited) may = (tt, (tt, (tt, tt)))
    clear_rule (resolves_imports rule) may =
        imports_all (import_acts finished (import_state s) rule) (asking s (resolves_imports rule)) (rule_all rule may)
    clear_rule other may = (tt, (tt, tt))

  -- ---- what others see of the root of a procedural-macro crate

  traits_without : (fs : List ExportedFunction) (s : ScopeValue) → HasClearTraits s → HasClearTraits (without_functions fs s)
  traits_without [] s f = f
  traits_without (x ∷ xs) s f = traits_without xs (without_function x.name x.id s) f

  traits_exporting : (krate : Crate) (fs : List ExportedFunction) (s : ScopeValue) → HasClearTraits s → HasClearTraits (exporting_scope krate fs s)
  traits_exporting krate fs s f = keys_mapped IsTraitClear (censored_item krate) (without_functions fs s).unnamed_traits (traits_without fs s f)

  traits_ended : (c : Core) → AreTraitsClear c.map.modules → AreTraitsClear (ended c).modules
  traits_ended c f =
      ended_by c (λ (m : Map). AreTraitsClear m.modules) f
      (traits_changed c.map.modules 0 (with_module_scope (exporting_scope c.map.id.krate c.exported))
      (λ v g. traits_exporting c.map.id.krate c.exported v.scope g) f)

  -- ---- where a derivation begins and ends

  -- steps lead from a state in which the test holds of nothing that was come upon to one in which it holds of nothing that was asked for
  pub record IsBegun (finished : Maps) (env : Environment) (begun last : State) : Type 0 where
    pub inside : IsInRange begun
    pub names : NamesWhatIsThere finished begun
    pub first : IsSourced t begun
    pub derived : Steps env finished begun last
    pub shown : ShowsThere t finished last.core.map
    pub asked : AreClear t last

  pub begun_clear : PathsAnswerFromSources → PathsLeadToWhatIsThere → (finished : Maps) → AreWellFormed finished → HoldsNowhere t finished
      → (tables : TablesValue) (w : Workspace) (all : Maps) (from : Beginning) (answer : CollectedValue) → read_by w all from.start ≡ finished
      → StandsOnWhole w finished from.start → BeginsClear t finished from.start from.tree → (e : Ends tables w all from answer)
      → IsClearOf t finished answer.asked answer.map → IsBegun finished (environment tables w) (begin_of tables w all from) e.last
  begun_clear answers paths finished whole nowhere tables w all from answer same stands begun_so e clear =
      let env : Environment = environment tables w in
      let begun : State = begin_of tables w all from in
      let holders : List ModuleId = holders_by all from.start in
      let names : NamesWhatIsThere finished begun = subst (λ (x : Maps). NamesWhatIsThere finished (start_of tables w x holders from)) (sym same)
      (begins paths finished whole tables w holders from stands) in
      let derived : Steps env finished begun e.last = subst (λ (x : Maps). Steps env x begun e.last) same e.derived in
      let asked : AreClear t e.last =
      λ key h. clear.written key (subst (λ (ks : List AskedKey). Contains ks (keys.Tree key)) (sym e.asked_is)
      (Contains-append_left e.last.core.asked (keys_behind (krate_of from.start) (transitive_dependencies_in w (krate_of from.start))) (keys.Tree key) h)) in
      let root : t.holder from.tree.file from.tree.block ≡ false =
      asked (tree_key from.start from.tree) (still_asked derived (root_key from.start from.tree) (0, omega arith, refl)) in
      let first : IsSourced t begun = first_sourced t (read_by w all from.start) (subst (HoldsNowhere t) (sym same) nowhere) tables w holders from
      (subst (λ (x : Maps). BeginsClear t x from.start from.tree) (sym same) begun_so) root in
      let m : Map = ended e.last.core in
      let reports : List DefDiagnostic = m.diagnostics ++ leftover_reports (read_by w all from.start) e.last.core in
      let reported : Map = record m { diagnostics = reports } in
      let above : ShowsThere t finished reported = subst (λ (x : Map). ShowsThere t finished x) e.map_is clear.shown in
      let grows : Grows m reported = let same_map : Grows m m = Grows-same m
      in record { longer = same_map.longer; kept = same_map.kept; listed = same_map.listed } in
      let seen : ShowsThere t finished m = λ at there. above at (stays_there finished m reported refl grows at there) in
      record {
        inside = in_range-start tables w (read_by w all from.start) holders from;
        names = names;
        first = first;
        derived = derived;
        shown = λ at there. seen at (stays_ended finished e.last.core at there);
        asked = asked;
      }

  -- ---- derivations

  module _ (answers : PathsAnswerFromSources) (paths : PathsLeadToWhatIsThere) (finished : Maps) (whole : AreWellFormed finished)
      (nowhere : HoldsNowhere t finished) (beside : AreAllClear finished) where
    clear-Steps : (env : Environment) (from to : State) → IsInRange from → NamesWhatIsThere finished from → IsSourced t from → HasTraitsClear from
        → Steps env finished from to → ShowsThere t finished to.core.map → AreClear t to → HasTraitsClear to
    clear-Steps env from to inside names first begun none shown clear = begun
    clear-Steps env from to inside names first begun (more old new before last) shown clear =
        let earlier : ShowsThere t finished old.core.map =
        λ m e. shown m (stays_there finished old.core.map new.core.map (id-Step last) (Grows-Step last) m e) in
        let asked : AreClear t old = λ key h. clear key (still_asked-Step last (keys.Tree key) h) in
        let sourced : IsSourced t old = all_sourced t answers paths finished whole nowhere env from old inside names first before earlier asked in
        let here : HasTraitsClear old = clear-Steps env from old inside names first begun before earlier asked in
        let one : HasTraitsClear (asking old last.rule) = record { modules = here.modules } in
        let done = perform_keeps HasTraitsClear IsChangeClear clear-act (acts finished old last.rule) (asking old last.rule) one
        (clear_rule answers finished nowhere beside old sourced here last.rule last.may) in
        subst HasTraitsClear (sym last.is) (record { modules = done.modules })

    -- the map in which a derivation ends has such traits alone, where the test holds of nothing that was asked for, and of no module that is there
    pub ends_clear : (tables : TablesValue) (w : Workspace) (all : Maps) (from : Beginning) (answer : CollectedValue) → read_by w all from.start ≡ finished
        → StandsOnWhole w finished from.start → BeginsClear t finished from.start from.tree → Ends tables w all from answer
        → IsClearOf t finished answer.asked answer.map → AreTraitsClear answer.map.modules
    ends_clear tables w all from answer same stands begun_so e clear =
        let b : IsBegun finished (environment tables w) (begin_of tables w all from) e.last =
        begun_clear answers paths finished whole nowhere tables w all from answer same stands begun_so e clear in
        let bare : HasTraitsClear (begin_of tables w all from) =
        record { modules = traits_longer [] _ refl (record { each = λ number v h. absurd (let no : ⊥ = cc in no) }) } in
        let end : HasTraitsClear e.last =
        clear-Steps (environment tables w) (begin_of tables w all from) e.last b.inside b.names b.first bare b.derived b.shown b.asked in
        subst (λ (x : Map). AreTraitsClear x.modules) (sym e.map_is) (traits_ended e.last.core end.modules)
