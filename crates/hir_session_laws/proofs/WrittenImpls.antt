-- An impl that a module lists is of that module, and is written in a source that its run asked for.
use Rattle.std.proofs.Common.{◌≡◌, ◌∙◌, ℕ, List, [], ◌∷◌, ◌++◌, Bool, true, false, cond, Option, None, Some, slice_get, refl, sym, ap, subst, map as list_map}
use Rattle.hir_session_machine.specs.HirIds.declared.ids.ImplId.{ImplId}
use Rattle.hir_session_machine.specs.HirIds.declared.ids.MapId.{MapId}
use Rattle.hir_session_machine.specs.HirIds.declared.ids.ModuleId.{ModuleId}
use Rattle.hir_session_machine.specs.HirItemTree.KeptForest.{implementation, leaf}
use Rattle.hir_session_machine.specs.HirCollectorRules.HirPerNs.PerNs.{is_nothing}
use Rattle.hir_session_machine.specs.HirCollectorRules.HirPerNs.declared.item_in_ns.ItemInNs.{ItemInNs}
use Rattle.hir_session_machine.specs.HirCollectorRules.HirPerNs.declared.visibility.Visibility.{Visibility}
use Rattle.hir_session_machine.specs.HirCollectorRules.HirPerNs.declared.item_in_ns.ItemInNs.TheVariants as in_ns
use Rattle.hir_session_machine.specs.HirCollectorRules.HirScope.Scope.{ScopeValue, empty_scope}
use Rattle.hir_session_machine.specs.HirCollectorRules.HirScope.Scope.Push.{taken_candidates, with_unresolved, written_scope}
use Rattle.hir_session_machine.specs.HirCollectorRules.HirTextualScope.Macros.{with_macro}
use Rattle.hir_session_machine.specs.HirCollectorRules.HirTextualScope.declared.textual_scope.TextualMacro.{TextualMacro}
use Rattle.hir_session_machine.specs.HirTables.Tables.{TablesValue}
use Rattle.hir_session_machine.specs.HirDefMapRules.Closed.{PathsLeadToWhatIsThere}
use Rattle.hir_session_machine.specs.HirDefMapRules.Declaration.{listed}
use Rattle.hir_session_machine.specs.HirDefMapRules.Overlay.{Maps}
use Rattle.hir_session_machine.specs.HirDefMapRules.Sources.{HoldsNowhere, PathsAnswerFromSources, SourceTest}
use Rattle.hir_session_machine.specs.HirDefMapRules.State.{Map, ModuleValue, changed_at, new_id, new_module, numbered, with_child, with_module_scope}
use Rattle.hir_session_machine.specs.HirDefMapRules.WellFormed.{AreWellFormed}
use Rattle.hir_session_machine.specs.HirDefMapRules.declared.declaration.Declaration.{Declaration as Listing}
use Rattle.hir_session_machine.specs.HirDefMapRules.declared.declaration.Declaration.TheVariants as listings
use Rattle.hir_session_machine.specs.HirCollectorRules.HirGlobImports.declared.edge.Key.{Key}
use Rattle.hir_session_machine.specs.HirCollectorRules.HirGlobImports.declared.edge.Key.TheVariants.{Types, Values, Macros, Unnamed}
use Rattle.hir_session_machine.specs.HirCollectorRules.HirImportRules.Changes.{Change as ImportChange}
use Rattle.hir_session_machine.specs.HirCollectorRules.HirImportRules.Names.{redefined, revised}
use Rattle.hir_session_machine.specs.HirCollectorRules.HirImportRules.Rules.{acts as import_acts}
use Rattle.hir_session_machine.specs.HirCollectorRules.Calls.{error_of}
use Rattle.hir_session_machine.specs.HirCollectorRules.Changes.{Change, lists, makes, changes_imports, adds_textual, takes_textual, lists_derive, notes, act}
use Rattle.hir_session_machine.specs.HirCollectorRules.Changes.{with_builtin_derive}
use Rattle.hir_session_machine.specs.HirCollectorRules.Derivation.{CollectedValue, Ends}
use Rattle.hir_session_machine.specs.HirCollectorRules.Ended.{ended, exporting_scope, without_function, without_functions}
use Rattle.hir_session_machine.specs.HirCollectorRules.Invocations.{with_invocation}
use Rattle.hir_session_machine.specs.HirCollectorRules.ItemIds.{module_id}
use Rattle.hir_session_machine.specs.HirCollectorRules.Keys.{Environment, environment}
use Rattle.hir_session_machine.specs.HirCollectorRules.Macros.{textual_at}
use Rattle.hir_session_machine.specs.HirCollectorRules.Start.{Beginning, begin_of, read_by}
use Rattle.hir_session_machine.specs.HirCollectorRules.State.{Core, State, behind, import_state}
use Rattle.hir_session_machine.specs.HirCollectorRules.Steps.{Rule, lists_derives, exports_macro, rests, expands_call, meets_macro, drops_call, drops_reached}
use Rattle.hir_session_machine.specs.HirCollectorRules.Steps.{derives_builtin, falls_back, defines_rules, defines_macro, declares_item, declares_enum}
use Rattle.hir_session_machine.specs.HirCollectorRules.Steps.{lists_impl, opens_module, opens_file, misses_file, reaches_imports, reaches_crate}
use Rattle.hir_session_machine.specs.HirCollectorRules.Steps.{resolves_imports, May, Steps, acts, asking, more, none, visit}
use Rattle.hir_session_machine.specs.HirCollectorRules.Workspace.{Workspace}
use Rattle.hir_session_machine.specs.HirCollectorRules.declared.exported.ExportedFunction.{ExportedFunction}
use Rattle.hir_session_machine.specs.HirCollectorRules.declared.source_database.Key.TheVariants as keys
use Rattle.hir_session_machine.proofs.HirSessionState.HirCollectorRules.Asks.{still_asked-Step}
use Rattle.hir_session_machine.proofs.HirSessionState.HirCollectorRules.Changes.{AllFine, fine_bringing, fine_expanding, fine_macro, fine_reporting, id-Step}
use Rattle.hir_session_machine.proofs.HirSessionState.HirCollectorRules.Changes.{perform_keeps}
use Rattle.hir_session_machine.proofs.HirSessionState.HirCollectorRules.Grows.{Grows-Step}
use Rattle.hir_session_machine.proofs.HirSessionState.HirCollectorRules.ImportEdits.{Edit, edit, edit_of, edited, keeps_unnamed, map_after, pushes_to}
use Rattle.hir_session_machine.proofs.HirSessionState.HirCollectorRules.ImportEdits.{redefines, revises}
use Rattle.hir_session_machine.proofs.HirSessionState.HirCollectorRules.InRange.{IsInRange}
use Rattle.hir_session_machine.specs.HirDefCollectorLaws.Sources.{BeginsClear, IsClearOf}
use Rattle.hir_session_machine.specs.HirDefCollectorLaws.Whole.{StandsOnWhole}
use Rattle.hir_session_machine.proofs.HirSessionState.HirDefCollectorLaws.Ended.{ended_by}
use Rattle.hir_session_machine.proofs.HirSessionState.HirDefCollectorLaws.ModuleLists.{IsChanged, IsOfLonger, changed-at, changed_one, newest, of_longer, older}
use Rattle.hir_session_machine.proofs.HirSessionState.HirDefCollectorLaws.ModuleLists.{other_one}
use Rattle.hir_session_machine.proofs.HirSessionState.HirDefCollectorLaws.Sourced.{all_sourced}
use Rattle.hir_session_machine.proofs.HirSessionState.HirDefCollectorLaws.SourcedItems.{next_visits}
use Rattle.hir_session_machine.proofs.HirSessionState.HirDefCollectorLaws.SourcedState.{AreClear, IsSourced, ShowsThere, stays_there}
use Rattle.hir_session_machine.proofs.HirSessionState.HirDefCollectorLaws.WholeChanges.{NamesWhatIsThere}
use Rattle.hir_session_laws.proofs.UnnamedTraits.{AllKeys, IsBegun, begun_clear}

keys_one_more : {K V : Type 0} (P : K → Type 0) (es : List (K × V)) (k : K) (v : V) → AllKeys P es → P k → AllKeys P (es ++ (k, v) ∷ [])
keys_one_more P [] k v f g = (g, tt)
keys_one_more P (e ∷ es) k v f g = (f.0, keys_one_more P es k v f.1 g)

module _ (t : SourceTest) (own : MapId) where
  -- the impl is of the module of this number, and the test doesn't hold of what holds it
  pub record IsImplOf (number : ℕ) (i : ImplId) : Type 0 where
    pub within : i.loc.container ≡ numbered own number
    pub clear : t.holder i.loc.file_id i.loc.block ≡ false

  abbrev pub HasOwnImpls : ℕ → ScopeValue → Type 0
  HasOwnImpls number s = AllKeys (IsImplOf number) s.impls

  pub record AreImplsOwn (ms : List ModuleValue) : Type 0 where
    pub each : (number : ℕ) (m : ModuleValue) → slice_get ms number ≡ Some m → HasOwnImpls number m.scope

  -- ---- a scope

  impls_redefined : (number : ℕ) (name : List ℕ) (def : ItemInNs) (vis : Visibility) (s : ScopeValue) → HasOwnImpls number s
      → HasOwnImpls number (redefined name def vis s)
  impls_redefined number name (in_ns.Types def) vis s f = f
  impls_redefined number name (in_ns.Values def) vis s f = f
  impls_redefined number name (in_ns.Macros def) vis s f = f

  impls_revised : (number : ℕ) (key : Key) (vis : Visibility) (s : ScopeValue) → HasOwnImpls number s → HasOwnImpls number (revised key vis s)
  impls_revised number (Types name) vis s f = f
  impls_revised number (Values name) vis s f = f
  impls_revised number (Macros name) vis s f = f
  impls_revised number (Unnamed id) vis s f = f

  impls_edited : (number : ℕ) (m : ModuleId) (e : Edit) (s : ScopeValue) → HasOwnImpls number s → HasOwnImpls number (edit m e s)
  impls_edited number m (pushes_to globs name items by) s f = go (is_nothing items)
    where
      go : (b : Bool) → AllKeys (IsImplOf number)
          (cond b (with_unresolved s name) (written_scope name (taken_candidates s globs (m, name) items by) s)).impls
      go true = f
      go false = f
  impls_edited number m (keeps_unnamed id vis by) s f = f
  impls_edited number m (redefines name def vis) s f = impls_redefined number name def vis s f
  impls_edited number m (revises key vis) s f = impls_revised number key vis s f

  -- what is listed is of the module
  abbrev IsListingOf : ℕ → Listing → Type 0
  IsListingOf home (listings.Impl i of_trait) = IsImplOf home i
  IsListingOf home other = Unit {0}

  impls_listed : (home : ℕ) (d : Listing) → IsListingOf home d → (s : ScopeValue) → HasOwnImpls home s → HasOwnImpls home (listed d s)
  impls_listed home (listings.Impl i of_trait) fine s f = keys_one_more (IsImplOf home) s.impls i of_trait f fine
  impls_listed home other fine s f = f

  -- ---- a map

  impls_changed : (ms : List ModuleValue) (at : ℕ) (change : ModuleValue → ModuleValue)
      → ((m : ModuleValue) → HasOwnImpls at m.scope → HasOwnImpls at (change m).scope) → AreImplsOwn ms → AreImplsOwn (changed_at ms at change)
  impls_changed ms at change keeps f = record { each = λ number m e. go number m (changed-at ms at change number m e) }
    where
      go : (number : ℕ) (m : ModuleValue) → IsChanged ms at change number m → HasOwnImpls number m.scope
      go number m (changed_one old here there is) =
          let before : HasOwnImpls at old.scope = subst (λ (k : ℕ). HasOwnImpls k old.scope) here (f.each number old there) in
          subst (λ (k : ℕ). HasOwnImpls k m.scope) (sym here) (subst (λ (v : ModuleValue). HasOwnImpls at v.scope) (sym is) (keeps old before))
      go number m (other_one ne there) = f.each number m there

  impls_longer : (ms : List ModuleValue) (new : ModuleValue) → new.scope ≡ empty_scope → AreImplsOwn ms → AreImplsOwn (ms ++ new ∷ [])
  impls_longer ms new empty f = record { each = λ number m e. go number m (of_longer ms new number m e) }
    where
      bare : (number : ℕ) → HasOwnImpls number empty_scope
      bare number = tt

      go : (number : ℕ) (m : ModuleValue) → IsOfLonger ms new number m → HasOwnImpls number m.scope
      go number m (older h) = f.each number m h
      go number m (newest h) =
          subst (λ (s : ScopeValue). HasOwnImpls number s) (sym (ap (λ (v : ModuleValue). v.scope) h ∙ empty)) (bare number)

  edited_own : (m : Map) (o : Option (ℕ × Edit)) → AreImplsOwn m.modules → AreImplsOwn (edited m o).modules
  edited_own m None f = f
  edited_own m (Some e) f =
      impls_changed m.modules e.0 (with_module_scope (edit (numbered m.id e.0) e.1)) (λ v g. impls_edited e.0 (numbered m.id e.0) e.1 v.scope g) f

  -- ---- changes

  abbrev IsFineChange : State → Change → Type 0
  IsFineChange s (lists home d) = IsListingOf home d
  IsFineChange s other = Unit {0}

  pub record HasImplsOwn (s : State) : Type 0 where
    pub modules : AreImplsOwn s.core.map.modules

  textual_own : (ms : List ModuleValue) (home : ℕ) (change : List TextualMacro → List TextualMacro) → AreImplsOwn ms
      → AreImplsOwn (changed_at ms home (with_module_scope (λ (x : ScopeValue). record x { legacy_macros = change x.legacy_macros })))
  textual_own ms home change f =
      impls_changed ms home (with_module_scope (λ (x : ScopeValue). record x { legacy_macros = change x.legacy_macros })) (λ v g. g) f

  own-act : (s : State) (c : Change) → HasImplsOwn s → IsFineChange s c → HasImplsOwn (act s c)
  own-act s (lists home d) f fine =
      record { modules = impls_changed s.core.map.modules home (with_module_scope (listed d)) (λ v g. impls_listed home d fine v.scope g) f.modules }
  own-act s (makes home name origin visibility) f fine = record {
    modules =
        impls_longer (changed_at s.core.map.modules home (with_child name (new_id s.core.map)))
        (new_module origin visibility (Some (module_id s.core.map home))) refl
        (impls_changed s.core.map.modules home (with_child name (new_id s.core.map)) (λ v g. g) f.modules);
  }
  own-act s (changes_imports c) f fine = record {
    modules =
        subst (λ (m : Map). AreImplsOwn m.modules) (sym (map_after (import_state s) c)) (edited_own s.core.map (edit_of (import_state s) c) f.modules);
  }
  own-act s (adds_textual home name makro) f fine =
      record { modules = textual_own s.core.map.modules home (λ macros. with_macro macros name makro) f.modules }
  own-act s (takes_textual home from_) f fine = record { modules = textual_own s.core.map.modules home (λ _. textual_at s.core.map from_) f.modules }
  own-act s (lists_derive home imp) f fine =
      record { modules = impls_changed s.core.map.modules home (with_module_scope (with_builtin_derive imp)) (λ v g. g) f.modules }
  own-act s (notes home invocation) f fine =
      record { modules = impls_changed s.core.map.modules home (with_module_scope (with_invocation invocation)) (λ v g. g) f.modules }
  own-act s other f fine = record { modules = f.modules }

  -- ---- rules

  imports_own : (cs : List ImportChange) (s : State) → AllFine IsFineChange s (list_map changes_imports cs)
  imports_own [] s = tt
  imports_own (c ∷ cs) s = (tt, imports_own cs (act s (changes_imports c)))

  module _ (finished : Maps) (s : State) (mine : s.core.map.id ≡ own) (f : IsSourced t s) where
    own_rule : (r : Rule) → May finished s r → AllFine IsFineChange (asking s r) (acts finished s r)
    own_rule (lists_impl site head of_trait rest) may = (
      tt,
      (
        record {
          within = ap (λ (id : MapId). numbered id site.home) mine;
          clear = (next_visits t s.agenda (behind (visit site (leaf head (implementation of_trait))) may.done) rest f.visits may.next).0;
        },
        tt,
      ),
    )
    own_rule (declares_item v d rest) may = (tt, (tt, (tt, tt)))
    own_rule (declares_enum site head name variants rest) may = (tt, (tt, (tt, (tt, tt))))
    own_rule (opens_module site head name items rest) may = (tt, (tt, (tt, (tt, (tt, tt)))))
    own_rule (opens_file site head name search file rest) may = (tt, (tt, (tt, (tt, (tt, tt)))))
    own_rule (misses_file site head name search report rest) may = (tt, (tt, (tt, (tt, (tt, (tt, tt))))))
    own_rule (reaches_imports site head tree rest) may = (tt, (tt, (tt, tt)))
    own_rule (reaches_crate site head name alias rest) may = (tt, (tt, (tt, (tt, (tt, tt)))))
    own_rule (defines_rules site head name expander helpers rest) may =
        (tt, (tt, (tt, (tt, fine_macro IsFineChange _ _ expander (λ at. tt) head name _ (λ at. tt) _))))
    own_rule (defines_macro site head name expander helpers rest) may =
        (tt, (tt, (tt, (tt, (tt, fine_reporting IsFineChange _ _ expander (λ at. tt) _)))))
    own_rule (lists_derives v at a adt paths call rest) may = (tt, (tt, (tt, tt)))
    own_rule (exports_macro site head name d e rest) may = (tt, (tt, (tt, (tt, (tt, (tt, (tt, tt)))))))
    own_rule (meets_macro i d makro x) may = (tt, tt)
    own_rule rests may = (tt, tt)
    own_rule (expands_call i d makro x) may = (tt, (tt, (tt, fine_expanding IsFineChange _ (λ at helper. tt) _ _ d (error_of x.there) (λ at text. tt) _)))
    own_rule (drops_call i d) may = (tt, tt)
    own_rule (drops_reached i d makro) may = (tt, fine_bringing IsFineChange _ (λ at helper. tt) _ _)
    own_rule (derives_builtin i d makro imp) may = (tt, (tt, (tt, fine_bringing IsFineChange _ (λ at helper. tt) _ _)))
    own_rule (falls_back i d k waited) may = (tt, (tt, (tt, tt)))
    own_rule (resolves_imports rule) may = imports_own (import_acts finished (import_state s) rule) (asking s (resolves_imports rule))
    own_rule other may = (tt, (tt, tt))

  -- ---- what others see of the root of a procedural-macro crate

  impls_without : (number : ℕ) (fs : List ExportedFunction) (s : ScopeValue) → HasOwnImpls number s → HasOwnImpls number (without_functions fs s)
  impls_without number [] s f = f
  impls_without number (x ∷ xs) s f = impls_without number xs (without_function x.name x.id s) f

  impls_ended : (c : Core) → AreImplsOwn c.map.modules → AreImplsOwn (ended c).modules
  impls_ended c f =
      ended_by c (λ (m : Map). AreImplsOwn m.modules) f
      (impls_changed c.map.modules 0 (with_module_scope (exporting_scope c.map.id.krate c.exported)) (λ v g. impls_without 0 c.exported v.scope g) f)

  -- ---- derivations

  module _ (answers : PathsAnswerFromSources) (paths : PathsLeadToWhatIsThere) (finished : Maps) (whole : AreWellFormed finished)
      (nowhere : HoldsNowhere t finished) where
    own-Steps : (env : Environment) (from to : State) → IsInRange from → NamesWhatIsThere finished from → IsSourced t from → HasImplsOwn from
        → Steps env finished from to → to.core.map.id ≡ own → ShowsThere t finished to.core.map → AreClear t to → HasImplsOwn to
    own-Steps env from to inside names first begun none mine shown clear = begun
    own-Steps env from to inside names first begun (more old new before last) mine shown clear =
        let earlier : ShowsThere t finished old.core.map =
        λ m e. shown m (stays_there finished old.core.map new.core.map (id-Step last) (Grows-Step last) m e) in
        let asked : AreClear t old = λ key h. clear key (still_asked-Step last (keys.Tree key) h) in
        let mine_before : old.core.map.id ≡ own = sym (id-Step last) ∙ mine in
        let sourced : IsSourced t old = all_sourced t answers paths finished whole nowhere env from old inside names first before earlier asked in
        let here : HasImplsOwn old = own-Steps env from old inside names first begun before mine_before earlier asked in
        let one : HasImplsOwn (asking old last.rule) = record { modules = here.modules } in
        let done = perform_keeps HasImplsOwn IsFineChange own-act (acts finished old last.rule) (asking old last.rule) one
        (own_rule finished old mine_before sourced last.rule last.may) in
        subst HasImplsOwn (sym last.is) (record { modules = done.modules })

    -- the map in which a derivation ends lists such impls alone
    pub ends_own : (tables : TablesValue) (w : Workspace) (all : Maps) (from : Beginning) (answer : CollectedValue) → read_by w all from.start ≡ finished
        → StandsOnWhole w finished from.start → BeginsClear t finished from.start from.tree → (e : Ends tables w all from answer)
        → IsClearOf t finished answer.asked answer.map → e.last.core.map.id ≡ own → AreImplsOwn answer.map.modules
    ends_own tables w all from answer same stands begun_so e clear mine =
        let b : IsBegun t finished (environment tables w) (begin_of tables w all from) e.last =
        begun_clear t answers paths finished whole nowhere tables w all from answer same stands begun_so e clear in
        let bare : HasImplsOwn (begin_of tables w all from) =
        record { modules = impls_longer [] _ refl (record { each = λ number v h. absurd (let no : ⊥ = cc in no) }) } in
        let end : HasImplsOwn e.last =
        own-Steps (environment tables w) (begin_of tables w all from) e.last b.inside b.names b.first bare b.derived mine b.shown b.asked in
        subst (λ (x : Map). AreImplsOwn x.modules) (sym e.map_is) (impls_ended e.last.core end.modules)
