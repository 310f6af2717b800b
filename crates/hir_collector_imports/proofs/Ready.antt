-- What a part of a run needs holds wherever steps lead.
use Rattle.std.proofs.Common.{◌≡◌, ◌∙◌, ◌+◌, ℕ, zero, suc, ◌<◌, ◌≤◌, List, [], ◌∷◌, length, map as list_map, slice_get, None, Some, refl, sym, ap, subst, arith}
use Rattle.hir_collector_state.specs.HirIds.declared.ids.Crate.{Crate}
use Rattle.hir_collector_state.specs.HirIds.declared.ids.ModuleId.{ModuleId}
use Rattle.hir_collector_state.specs.HirIds.declared.ids.TraitId.{TraitId}
use Rattle.hir_collector_state.specs.HirBase.declared.tree_id.TreeId.{TreeId}
use Rattle.hir_collector_state.specs.HirTables.Tables.{KeepsTables, TablesValue}
use Rattle.hir_collector_state.specs.HirTextualScope.Macros.{with_macro}
use Rattle.hir_collector_state.specs.HirScope.Scope.{ScopeValue}
use Rattle.hir_collector_state.specs.HirDefMapRules.Macros.{with_derive_helper, with_diagnostic, with_exported, with_macro_data, with_macro_def}
use Rattle.hir_collector_state.specs.HirDefMapRules.Overlay.{Maps}
use Rattle.hir_collector_state.specs.HirDefMapRules.State.{IsInOrder, Map, entry_at, module_at, new_module, with_enum}
use Rattle.hir_collector_state.specs.HirGlobImports.Waves.{Stands}
use Rattle.hir_collector_state.specs.HirGlobImports.declared.edge.Brought.{Brought}
use Rattle.hir_collector_state.specs.HirGlobImports.declared.edge.Slot.{Slot}
use Rattle.hir_collector_state.specs.HirGlobImports.declared.edge.Key.{Key as SlotKey}
use Rattle.hir_collector_state.specs.HirGlobImports.declared.edge.Target.TheVariants.{Own}
use Rattle.hir_collector_state.specs.HirImportRules.Changes.{Change as ImportChange, act as act_on_imports, along, keeps_trait, pushes, records, takes}
use Rattle.hir_collector_state.specs.HirImportRules.Directives.{not_taken, nothing_taken}
use Rattle.hir_collector_state.specs.HirImportRules.Names.{bound_at, trait_vis, view_of}
use Rattle.hir_collector_state.specs.HirImportRules.Rest.{IsRecorded, IsSound, IsSource}
use Rattle.hir_collector_state.specs.HirImportGrowth.Growth.{GrowsAround}
use Rattle.hir_collector_state.specs.HirImportRules.Rules as imports
use Rattle.hir_collector_state.specs.HirImportRules.State.{ImportState, scopes_of}
use Rattle.hir_collector_state.specs.HirImportRules.declared.directive.ImportDirective.{ImportDirective}
use Rattle.hir_collector_state.proofs.HirImportGrowth.GrowingAround.{lists_around, modules_around, scopes_around}
use Rattle.hir_import_resolution.proofs.Soundness.{local_keeps_sound, pushes_keep_sound, reached_keep_sound, steps_keep_sound}
use Rattle.hir_collector_rules.specs.declared.macro_directive.MacroDirective.{MacroDirective}
use Rattle.hir_collector_rules.specs.declared.start.Start.{Start}
use Rattle.hir_collector_rules.specs.Calls.{IsMeantAt, IsMeantCall, error_of}
use Rattle.hir_collector_rules.specs.CallMoves.{IsReady}
use Rattle.hir_collector_rules.specs.Keys.{environment, node_tree}
use Rattle.hir_collector_rules.specs.Workspace.{Workspace}
use Rattle.hir_collector_rules.specs.Imports.{extern_after}
use Rattle.hir_collector_rules.specs.ItemIds.{module_id}
use Rattle.hir_collector_rules.specs.Macros.{textual_at, with_macros_used}
use Rattle.hir_collector_rules.specs.Start.{began, origin_of, root_site, root_visibility}
use Rattle.hir_collector_rules.specs.State.{Core, State, at_rest, import_state, ticked}
use Rattle.hir_collector_rules.specs.Changes.{Change, lists, makes, gives_variants, begins_paths, reaches, awaits, ends, settles, changes_imports, adds_textual}
use Rattle.hir_collector_rules.specs.Changes.{takes_textual, defines, describes, helps, lists_derive, notes, exports, uses_macros, tells, goes_on, act, on_map}
use Rattle.hir_collector_rules.specs.Changes.{perform, with_builtin_derive}
use Rattle.hir_collector_rules.specs.Invocations.{with_invocation}
use Rattle.hir_collector_rules.specs.Steps.{Rule, drops_item, awaits_attribute, lists_derives, faults_derive, exports_macro, reaches_call, rests}
use Rattle.hir_collector_rules.specs.Steps.{expands_call, meets_macro}
use Rattle.hir_collector_rules.specs.Steps.{drops_call, drops_reached, derives_builtin, skips_attribute, falls_back, defines_rules, defines_macro}
use Rattle.hir_collector_rules.specs.Steps.{closes_module, declares_item, declares_enum, lists_constant, lists_impl, opens_module, opens_file, drops_file}
use Rattle.hir_collector_rules.specs.Steps.{misses_file, enters_block, reaches_imports, reaches_crate, resolves_imports, May, acts, after, asking, Step, Steps}
use Rattle.hir_collector_rules.specs.Steps.{none, more}
use Rattle.hir_collector_rules.proofs.Changes.{AllFine, fine_bringing, fine_expanding, fine_macro, fine_reporting, perform_keeps}
use Rattle.hir_collector_rules.proofs.Holds.{in_range-begun}
use Rattle.hir_collector_rules.proofs.ImportEdits.{imports_after}
use Rattle.hir_collector_imports.proofs.ImportSteps.{perform-imports}
use Rattle.hir_collector_state.proofs.InOrder.{in_order_Step, root_in_order}
use Rattle.hir_collector_rules.proofs.InRange.{CallsBelow, ImportsBelow, IsInRange, call_below, import_at, in_range-Step}
use Rattle.hir_collector_rules.proofs.Lists.{length_both, length_mapped, length_set}
use Rattle.hir_collector_rules.proofs.Meaning.{CallsMeant, IsAllMeant, call_meant, meant-Step, meant-begun}
use Rattle.hir_collector_rules.proofs.Moves.{Steps-one}
use Rattle.hir_collector_rules.proofs.ModuleFiles.{site_kept, source_kept}
use Rattle.hir_collector_rules.proofs.Eager.{keeps_eager}
use Rattle.hir_collector_rules.proofs.Tried.{fates_paired}

-- ---- what globs brought and what imports were taken for, where the map grows

-- what names stand for stays, and each module
record StandsFast (old new : Map) : Type 0 where
  modules : length old.modules ≤ length new.modules
  entries : (at : ℕ) (name : List ℕ) → entry_at new at name ≡ entry_at old at name
  traits : (at : ℕ) (id : TraitId) → trait_vis (module_at new at) id ≡ trait_vis (module_at old at) id

around_fast : {old new : Map} → GrowsAround old new → StandsFast old new
around_fast around = record { modules = around.modules; entries = around.entries; traits = around.traits }

module _ (finished : Maps) (s : ImportState) (m : Map) (fast : StandsFast s.map m) where
  abbrev grown : ImportState
  grown = record s { map = m }

  same_bound : (at : ℕ) (key : SlotKey) → (view_of (scopes_of finished grown)).bound (Own at) key ≡ (view_of (scopes_of finished s)).bound (Own at) key
  same_bound at key = λ i. bound_at (λ name. fast.entries at name i) (λ id. fast.traits at id i) key

  still_stands : (q : Slot) (by : Brought) → Stands (view_of (scopes_of finished s)) q by → Stands (view_of (scopes_of finished grown)) q by
  still_stands q by old = record { bound = old.bound; there = same_bound q.at q.key ∙ old.there; same = old.same }

  recorded_still : (i : ℕ) → IsRecorded s i → IsRecorded grown i
  recorded_still i old = record {
    each = λ r t target at taken has.
        let source : IsSource s target r.home = old.each r t target at taken has in
        record { number = source.number; edge = source.edge; recorded = source.recorded; source = source.source; into = source.into };
  }

  fast_keeps_sound : IsSound finished s → IsSound finished grown
  fast_keeps_sound sound = record {
    there = λ j e at. omega (arith, fast.modules, sound.there j e at);
    stands = λ q by is. still_stands q by (sound.stands q by is);
    recorded = λ i. recorded_still i (sound.recorded i);
  }

-- ---- changes

-- imports are sound, and each has its takings
record IsSteady (finished : Maps) (s : State) : Type 0 where
  sound : IsSound finished (import_state s)
  paired : length s.core.taken ≡ length s.core.reached

-- of imports a change only binds what is declared
abbrev IsDeclared : ImportChange → Type 0
IsDeclared (pushes home name items None) = Unit {0}
IsDeclared (pushes home name items (Some source)) = ⊥
IsDeclared (keeps_trait finished home id vis import) = ⊥
IsDeclared (takes i t) = ⊥
IsDeclared (records edges) = ⊥
IsDeclared (along finished a) = ⊥

abbrev OnlyDeclares : State → Change → Type 0
OnlyDeclares s (changes_imports c) = IsDeclared c
OnlyDeclares s other = Unit {0}

module _ (finished : Maps) where
  declared_steady : (s : State) (c : ImportChange) → IsSteady finished s → IsDeclared c → IsSteady finished (act s (changes_imports c))
  declared_steady s (pushes home None items None) p fine = record { sound = p.sound; paired = p.paired }
  declared_steady s (pushes home (Some name) items None) p fine =
      record { sound = pushes_keep_sound finished (import_state s) home (Some name) items p.sound; paired = p.paired }
  declared_steady s (pushes home name items (Some source)) p fine = absurd fine
  declared_steady s (keeps_trait f home id vis import) p fine = absurd fine
  declared_steady s (takes i t) p fine = absurd fine
  declared_steady s (records edges) p fine = absurd fine
  declared_steady s (along f a) p fine = absurd fine

  -- where the map alone changes, and grows so
  fast_steady : (s : State) (m : Map) → StandsFast s.core.map m → IsSteady finished s → IsSteady finished (on_map s m)
  fast_steady s m fast p = record { sound = fast_keeps_sound finished (import_state s) m fast p.sound; paired = p.paired }

  steady-act : (s : State) (c : Change) → IsSteady finished s → OnlyDeclares s c → IsSteady finished (act s c)
  steady-act s (lists home d) p fine = fast_steady s _ (around_fast (lists_around s.core.map home d)) p
  steady-act s (makes home name origin visibility) p fine =
      fast_steady s _ (around_fast (modules_around s.core.map home name origin visibility (Some (module_id s.core.map home)))) p
  steady-act s (gives_variants id variants) p fine =
      fast_steady s (with_enum s.core.map id variants) (record { modules = omega arith; entries = λ at name. refl; traits = λ at trait. refl }) p
  steady-act s (begins_paths r) p fine = record {
    sound = local_keeps_sound finished (import_state s) (extern_after s.core.map s.core.local r) s.core.count p.sound;
    paired = p.paired;
  }
  steady-act s (reaches rs) p fine = record {
    sound = reached_keep_sound finished (import_state s) rs p.paired p.sound;
    paired =
        omega (
          arith,
          p.paired,
          length_both s.core.taken (not_taken rs),
          length_both s.core.reached rs,
          length_mapped (λ (r : ImportDirective). nothing_taken)
              rs,
        );
  }
  steady-act s (changes_imports c) p fine = declared_steady s c p fine
  steady-act s (adds_textual home name makro) p fine = fast_steady s _
      (around_fast (scopes_around s.core.map home (λ (v : ScopeValue). record v { legacy_macros = with_macro v.legacy_macros name makro }) (λ v other. refl)
      (λ v trait. refl))) p
  steady-act s (takes_textual home from) p fine = fast_steady s _
      (around_fast (scopes_around s.core.map home (λ (v : ScopeValue). record v { legacy_macros = textual_at s.core.map from }) (λ v other. refl)
      (λ v trait. refl))) p
  steady-act s (defines node makro) p fine =
      fast_steady s (with_macro_def s.core.map node makro) (record { modules = omega arith; entries = λ at name. refl; traits = λ at trait. refl }) p
  steady-act s (describes makro what) p fine =
      fast_steady s (with_macro_data s.core.map makro what) (record { modules = omega arith; entries = λ at name. refl; traits = λ at trait. refl }) p
  steady-act s (helps node helper) p fine =
      fast_steady s (with_derive_helper s.core.map node helper) (record { modules = omega arith; entries = λ at name. refl; traits = λ at trait. refl }) p
  steady-act s (lists_derive home imp) p fine =
      fast_steady s _ (around_fast (scopes_around s.core.map home (with_builtin_derive imp) (λ v other. refl) (λ v trait. refl))) p
  steady-act s (notes home invocation) p fine =
      fast_steady s _ (around_fast (scopes_around s.core.map home (with_invocation invocation) (λ v other. refl) (λ v trait. refl))) p
  steady-act s (exports f makro) p fine =
      let noted : IsSteady finished (on_map s (with_exported s.core.map f.id makro)) =
      fast_steady s (with_exported s.core.map f.id makro) (record { modules = omega arith; entries = λ at name. refl; traits = λ at trait. refl }) p in
      record { sound = noted.sound; paired = noted.paired }
  steady-act s (uses_macros macros by) p fine =
      fast_steady s (with_macros_used s.core.map macros by) (record { modules = omega arith; entries = λ at name. refl; traits = λ at trait. refl }) p
  steady-act s (tells d) p fine =
      fast_steady s (with_diagnostic s.core.map d) (record { modules = omega arith; entries = λ at name. refl; traits = λ at trait. refl }) p
  steady-act s other p fine = record { sound = p.sound; paired = p.paired }

-- ---- rules

-- each rule but those of imports only declares
data Declaring (finished : Maps) (s : State) (r : Rule) : Type 0 where
  declares : AllFine OnlyDeclares (asking s r) (acts finished s r) → Declaring finished s r
  resolves : (rule : imports.Rule) → r ≡ resolves_imports rule → Declaring finished s r

only_declares : (finished : Maps) (s : State) (r : Rule) → Declaring finished s r
only_declares finished s (declares_item v d rest) = declares (tt, (tt, (tt, tt)))
only_declares finished s (declares_enum site head name found rest) = declares (tt, (tt, (tt, (tt, tt))))
only_declares finished s (opens_module site head name items rest) = declares (tt, (tt, (tt, (tt, (tt, tt)))))
only_declares finished s (opens_file site head name search file rest) = declares (tt, (tt, (tt, (tt, (tt, tt)))))
only_declares finished s (misses_file site head name search report rest) = declares (tt, (tt, (tt, (tt, (tt, (tt, tt))))))
only_declares finished s (reaches_imports site head tree rest) = declares (tt, (tt, (tt, tt)))
only_declares finished s (reaches_crate site head name alias rest) = declares (tt, (tt, (tt, (tt, (tt, tt)))))
only_declares finished s (defines_rules site head name expander helpers rest) =
    declares (tt, (tt, (tt, (tt, fine_macro OnlyDeclares _ _ expander (λ t. tt) head name _ (λ t. tt) _))))
only_declares finished s (defines_macro site head name expander helpers rest) =
    declares (tt, (tt, (tt, (tt, (tt, fine_reporting OnlyDeclares _ _ expander (λ t. tt) _)))))
only_declares finished s (lists_derives v at a adt paths call rest) = declares (tt, (tt, (tt, tt)))
only_declares finished s (exports_macro site head name d e rest) = declares (tt, (tt, (tt, (tt, (tt, (tt, (tt, tt)))))))
only_declares finished s (meets_macro i d makro x) = declares (tt, tt)
only_declares finished s rests = declares (tt, tt)
only_declares finished s (expands_call i d makro x) =
    declares (tt, (tt, (tt, fine_expanding OnlyDeclares _ (λ t helper. tt) _ _ d (error_of x.there) (λ t text. tt) _)))
only_declares finished s (drops_call i d) = declares (tt, tt)
only_declares finished s (drops_reached i d makro) = declares (tt, fine_bringing OnlyDeclares _ (λ t helper. tt) _ _)
only_declares finished s (derives_builtin i d makro imp) = declares (tt, (tt, (tt, fine_bringing OnlyDeclares _ (λ t helper. tt) _ _)))
only_declares finished s (falls_back i d k item) = declares (tt, (tt, (tt, tt)))
only_declares finished s (resolves_imports rule) = resolves rule refl
only_declares finished s other = declares (tt, (tt, tt))

-- changes of imports leave as many as there are, and as many takings
taken_long : (s : ImportState) (c : ImportChange) → length (act_on_imports s c).taken ≡ length s.taken
taken_long s (pushes home None items source) = refl
taken_long s (pushes home (Some name) items source) = refl
taken_long s (keeps_trait f home None vis import) = refl
taken_long s (keeps_trait f home (Some id) vis import) = refl
taken_long s (takes i t) = length_set s.taken i t
taken_long s (records edges) = refl
taken_long s (along f a) = refl

paired_through : (cs : List ImportChange) (s : State) → length s.core.taken ≡ length s.core.reached
    → length (perform s (list_map changes_imports cs)).core.taken ≡ length (perform s (list_map changes_imports cs)).core.reached
paired_through [] s p = p
paired_through (c ∷ cs) s p =
    paired_through cs (act s (changes_imports c))
    (taken_long (import_state s) c ∙ p ∙ sym (ap (λ (rs : List ImportDirective). length rs) (imports_after (import_state s) c)))

ticked_steady : (finished : Maps) (s : State) → IsSteady finished s → IsSteady finished (ticked s)
ticked_steady finished s p = record { sound = local_keeps_sound finished (import_state s) s.core.local (s.core.count + 1) p.sound; paired = p.paired }

module _ (finished : Maps) (s : State) where
  -- a step of imports is one of theirs
  imports_steady : (rule : imports.Rule) → imports.May finished (import_state s) rule → IsInRange s → IsSteady finished s
      → IsSteady finished (after finished s (resolves_imports rule))
  imports_steady rule may inside p =
      let changes : List ImportChange = imports.acts finished (import_state s) rule in
      record {
        sound = subst (λ (t : State). IsSound finished (import_state (ticked t))) (sym (perform-imports s (import_state s) changes))
            (steps_keep_sound finished (import_state s) (imports.after finished (import_state s) rule)
            (λ i r at. import_at (length s.core.map.modules) s.core.reached i r inside.imports at)
            (record { rule = rule; may = may; is = refl }) p.sound);
        paired = paired_through changes s p.paired;
      }

  rule_steady : (r : Rule) → May finished s r → IsInRange s → IsSteady finished s → IsSteady finished (after finished s r)
  rule_steady r may inside p = go (only_declares finished s r)
    where
      go : Declaring finished s r → IsSteady finished (after finished s r)
      go (declares fine) =
          ticked_steady finished (perform (asking s r) (acts finished s r)) (perform_keeps (IsSteady finished) OnlyDeclares (steady-act finished)
          (acts finished s r) (asking s r) (record { sound = p.sound; paired = p.paired }) fine)
      go (resolves rule is) =
          subst (λ (x : Rule). IsSteady finished (after finished s x)) (sym is) (imports_steady rule (subst (May finished s) is may) inside p)

-- ---- steps

-- what holds of each state
record IsPoised (tables : TablesValue) (finished : Maps) (s : State) : Type 0 where
  steady : IsSteady finished s
  inside : IsInRange s
  fated : length s.core.fates ≡ length s.core.calls
  listed : length s.core.eager ≡ length s.core.calls
  meant : IsAllMeant tables s
  in_order : IsInOrder s.core.map

poised-Step : {tables : TablesValue} {w : Workspace} {finished : Maps} {old new : State} → Step (environment tables w) finished old new
    → IsPoised tables finished old → IsPoised tables finished new
poised-Step {tables = tables} {finished = finished} {old = old} step p = record {
  steady = subst (IsSteady finished) (sym step.is) (rule_steady finished old step.rule step.may p.inside p.steady);
  inside = in_range-Step step p.inside;
  fated = fates_paired (Steps-one step) p.fated;
  listed = (keeps_eager (Steps-one step)).listed p.listed;
  meant = meant-Step tables step p.meant;
  in_order = in_order_Step step p.inside p.in_order;
}

poised-Steps : {tables : TablesValue} {w : Workspace} {finished : Maps} {from to : State} → Steps (environment tables w) finished from to
    → IsPoised tables finished from → IsPoised tables finished to
poised-Steps none p = p
poised-Steps (more old new before step) p = poised-Step step (poised-Steps before p)

-- ---- where nothing is to be visited

imports_below : (n : ℕ) (rs : List ImportDirective) → ((i : ℕ) (r : ImportDirective) → slice_get rs i ≡ Some r → r.home < n) → ImportsBelow n rs
imports_below n [] each = tt
imports_below n (r ∷ rs) each = (each zero r refl, imports_below n rs (λ i x at. each (suc i) x at))

calls_below : (n : ℕ) (ds : List MacroDirective) → ((i : ℕ) (d : MacroDirective) → slice_get ds i ≡ Some d → d.site.home < n) → CallsBelow n ds
calls_below n [] each = tt
calls_below n (d ∷ ds) each = (each zero d refl, calls_below n ds (λ i x at. each (suc i) x at))

calls_meant : (tables : TablesValue) (ds : List MacroDirective) → ((i : ℕ) (d : MacroDirective) → slice_get ds i ≡ Some d → IsMeantCall tables d)
    → CallsMeant tables ds
calls_meant tables [] each = tt
calls_meant tables (d ∷ ds) each = (each zero d refl, calls_meant tables ds (λ i x at. each (suc i) x at))

module _ (tables : TablesValue) (finished : Maps) (c : Core) where
  poised_at : IsReady tables finished c → IsPoised tables finished (at_rest c)
  poised_at r = record {
    steady = record { sound = r.sound; paired = r.paired };
    inside =
        record { visits = tt; imports = imports_below (length c.map.modules) c.reached r.imports; calls = calls_below (length c.map.modules) c.calls r.calls };
    fated = r.fated;
    listed = r.listed;
    meant = record { visits = tt; calls = calls_meant tables c.calls r.meant };
    in_order = r.in_order;
  }

  ready_at : IsPoised tables finished (at_rest c) → IsReady tables finished c
  ready_at p = record {
    sound = p.steady.sound;
    imports = λ i r at. import_at (length c.map.modules) c.reached i r p.inside.imports at;
    paired = p.steady.paired;
    fated = p.fated;
    listed = p.listed;
    calls = λ i d at. call_below (length c.map.modules) c.calls i d p.inside.calls at;
    meant = λ i d at. call_meant tables c.calls i d p.meant.calls at;
    in_order = p.in_order;
  }

-- a part of a run that is ready leaves one that is
pub ready_after : {tables : TablesValue} {w : Workspace} {finished : Maps} {c d : Core} → Steps (environment tables w) finished (at_rest c) (at_rest d)
    → IsReady tables finished c → IsReady tables finished d
ready_after {tables = tables} {finished = finished} {c = c} {d = d} steps r = ready_at tables finished d (poised-Steps steps (poised_at tables finished c r))

-- it is ready over tables that have grown
pub ready_grown : {tables grown : TablesValue} {finished : Maps} {c : Core} → KeepsTables tables grown → IsReady tables finished c → IsReady grown finished c
ready_grown {tables = tables} {grown = grown} kept r = record {
  sound = r.sound;
  imports = r.imports;
  paired = r.paired;
  fated = r.fated;
  listed = r.listed;
  calls = r.calls;
  meant = λ i d at.
      let meant : IsMeantCall tables d = r.meant i d at in
      record { site = site_kept tables grown kept d.site meant.site; node = source_kept tables grown kept (node_tree d.ast_id) meant.node; item = meant.item };
  in_order = r.in_order;
}

-- and so is one that began with a tree whose numbers mean something
pub ready_start : (tables : TablesValue) (w : Workspace) (finished : Maps) (transitive : List Crate) (holders : List ModuleId) (start : Start) (id : TreeId)
    (c : Core)
    → IsMeantAt tables (root_site id) → Steps (environment tables w) finished (began tables w finished transitive holders start id) (at_rest c)
    → IsReady tables finished c
ready_start tables w finished transitive holders start id c there steps = ready_at tables finished c (poised-Steps steps first)
  where
    first : IsPoised tables finished (began tables w finished transitive holders start id)
    first = record {
      steady = record {
        sound = record {
          there = λ j e at. absurd (let no : ⊥ = cc in no);
          stands = λ slot by at. absurd (let no : ⊥ = cc in no);
          recorded = λ i. record { each = λ r t target at taken has. absurd (let no : ⊥ = cc in no) };
        };
        paired = refl;
      };
      inside = in_range-begun tables w finished transitive holders start id;
      fated = refl;
      listed = refl;
      meant = meant-begun tables w finished transitive holders start id there;
      in_order =
          root_in_order (began tables w finished transitive holders start id).core.map (new_module (origin_of start) (root_visibility start) None) refl refl;
    }
