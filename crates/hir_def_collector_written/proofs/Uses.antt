-- Each `use` item that a run walks is among its imports, from the start to the end.
use Rattle.std.proofs.Common.{◌≡◌, ◌∙◌, ◌≢◌, ◌<◌, ◌⊎◌, inl, inr, ℕ, Bool, true, false, List, [], ◌∷◌, length, slice_get, None, Some, refl, sym, ap, subst}
use Rattle.std.proofs.Common.{arith, Contains, if◌then◌else◌}
use Rattle.std.proofs.lemmas.List.Elements.{Contains-append_left, Contains-append_right}
use Rattle.hir_collector_rules.specs.HirIds.declared.ast_id.AstId.{AstId}
use Rattle.hir_collector_rules.specs.HirIds.declared.ast_id.EditionedFileId.{EditionedFileId}
use Rattle.hir_collector_rules.specs.HirIds.declared.ids.ModuleId.{ModuleId}
use Rattle.hir_collector_rules.specs.HirItemTree.ItemTree.{Tree}
use Rattle.hir_collector_rules.specs.HirItemTree.KeptForest.{no_items}
use Rattle.hir_collector_rules.specs.HirBase.declared.tree_id.TreeId.{TreeId}
use Rattle.hir_collector_rules.specs.HirBase.declared.tree_id.TreeKey.{TreeKey}
use Rattle.hir_collector_rules.specs.HirTables.Tables.{TablesValue}
use Rattle.hir_collector_rules.specs.HirDefMapRules.Overlay.{Maps}
use Rattle.hir_collector_rules.specs.HirDefMapRules.State.{CrateData, Map, ModuleValue, module_at, new_module}
use Rattle.hir_collector_rules.specs.HirMapParts.declared.diagnostics.DefDiagnostic.{DefDiagnostic}
use Rattle.hir_collector_rules.specs.HirMapParts.declared.origin.ModuleOrigin.TheVariants as origins
use Rattle.hir_collector_rules.specs.HirImportRules.declared.directive.ImportDirective.{ImportDirective}
use Rattle.hir_collector_rules.specs.declared.macro_directive.Fate.{Fate}
use Rattle.hir_collector_rules.specs.declared.source_database.Key.{Key}
use Rattle.hir_collector_rules.specs.declared.macro_directive.MacroDirective.{MacroDirective}
use Rattle.hir_collector_rules.specs.declared.site.Site.{Site}
use Rattle.hir_collector_rules.specs.declared.start.Start.{Start}
use Rattle.hir_collector_rules.specs.declared.macro_directive.Fate.TheVariants.{GivenUp, Handled, Waits}
use Rattle.hir_collector_rules.specs.declared.source_database.Key.TheVariants as keys
use Rattle.hir_collector_rules.specs.declared.start.Start.TheVariants as starts
use Rattle.hir_collector_rules.specs.Changes.{Change, lists, makes, gives_variants, begins_paths, reaches, awaits, ends, settles, changes_imports, adds_textual}
use Rattle.hir_collector_rules.specs.Changes.{takes_textual, defines, describes, helps, lists_derive, notes, exports, uses_macros, tells, goes_on, act, perform}
use Rattle.hir_collector_rules.specs.Derivation.{CollectedValue, leftover_reports}
use Rattle.hir_collector_rules.specs.Ended.{ended}
use Rattle.hir_collector_rules.specs.Keys.{environment}
use Rattle.hir_collector_rules.specs.Reports.{with_diagnostics}
use Rattle.hir_collector_rules.specs.Start.{Beginning, holders_by, is_declared, origin_of, read_by, root_site, root_tree, root_visibility, start_of}
use Rattle.hir_collector_rules.specs.Start.{tree_visits}
use Rattle.hir_collector_rules.specs.State.{Core, State, import_state, visits_over}
use Rattle.hir_collector_rules.specs.Steps.{Step, Steps, acts, after, asking, keys_read, more, none, reads}
use Rattle.hir_collector_rules.specs.Workspace.{Workspace}
use Rattle.hir_collector_rules.proofs.Asks.{still_asked-Step}
use Rattle.hir_collector_rules.proofs.Changes.{Keeps-perform, asked-Step}
use Rattle.hir_collector_rules.proofs.ImportEdits.{imports_after}
use Rattle.hir_collector_rules.proofs.Lists.{get_inside}
use Rattle.hir_collector_rules.proofs.Tried.{call_stays}
use Rattle.hir_def_collector_laws.specs.Modules.{items_of}
use Rattle.hir_def_collector_laws.proofs.Ended.{same_data, same_id, same_length}
use Rattle.hir_def_collector_laws.proofs.Imports.{answer_asked}
use Rattle.hir_def_collector_laws.proofs.Listings.{Stays, Stays-ended, Stays-perform, Stays-trans, StaysAt, data-perform, id-perform}
use Rattle.hir_def_collector_laws.proofs.Written.{AreAsked}
use Rattle.hir_def_collector_written.specs.Walked.{UsesAreImported, Walks, WalksAll, WalksFile}
use Rattle.hir_def_collector_written.proofs.Became.{AreKept, kept-perform}
use Rattle.hir_def_collector_written.proofs.Walked.{BecameOf, HasWalked, walks_rule, well_rule}
use Rattle.hir_def_collector_written.proofs.Walks.{AllWalk, all_walk}

-- ---- imports that were found stay

reached-act : (s : State) (c : Change) (r : ImportDirective) → Contains s.core.reached r → Contains (act s c).core.reached r
reached-act s (reaches rs) r h = Contains-append_left s.core.reached rs r h
reached-act s (changes_imports c) r h = subst (λ (rs : List ImportDirective). Contains rs r) (sym (imports_after (import_state s) c)) h
reached-act s other r h = h

reached-perform : (cs : List Change) (s : State) (r : ImportDirective) → Contains s.core.reached r → Contains (perform s cs).core.reached r
reached-perform [] s r h = h
reached-perform (c ∷ cs) s r h = reached-perform cs (act s c) r (reached-act s c r h)

handled_apart : Handled ≢ Waits
handled_apart e = let no : ⊥ = cc in no

given_up_apart : GivenUp ≢ Waits
given_up_apart e = let no : ⊥ = cc in no

module _ (tables : TablesValue) (w : Workspace) (finished : Maps) (from : Beginning) (answer : CollectedValue) (last : Core) where
  abbrev Ended : Fate → ℕ → Type 0
  Ended = BecameOf tables w answer last

  abbrev Made : ℕ → Type 0
  Made = HasWalked tables w answer last

  -- what comes of a state in the end: what is to be visited is walked, and so is what was expanded, went on or was made from there on
  record Leads (s : State) : Type 0 where
    id : s.core.map.id ≡ answer.map.id
    crate_data : s.core.map.crate_data ≡ answer.map.crate_data
    dependencies : s.core.dependencies ≡ last.dependencies
    stays : Stays s.core.map answer.map
    walks : AllWalk answer last s.agenda
    reached : (r : ImportDirective) → Contains s.core.reached r → Contains last.reached r
    calls : (i : ℕ) (d : MacroDirective) → slice_get s.core.calls i ≡ Some d → slice_get last.calls i ≡ Some d
    fates : (what : Fate) → what ≢ Waits → (i : ℕ) → slice_get last.fates i ≡ Some what → slice_get s.core.fates i ≡ Some what ⊎ Ended what i
    modules : (number : ℕ) → number < length answer.map.modules → (number < length s.core.map.modules) ⊎ Made number

  -- ---- steps

  back_Step : {old new : State} → AreAsked tables w from answer new → (step : Step (environment tables w) finished old new) → Leads new → Leads old
  back_Step {old = old} {new = new} asked step q =
      let cs : List Change = acts finished old step.rule in
      let begun : State = asking old step.rule in
      let now : Leads (after finished old step.rule) = subst Leads step.is q in
      let own : old.core.map.id ≡ answer.map.id = sym (id-perform cs begun) ∙ now.id in
      let data_is : old.core.map.crate_data ≡ answer.map.crate_data = sym (data-perform cs begun) ∙ now.crate_data in
      let crates : old.core.dependencies ≡ last.dependencies = sym (Keeps-perform cs begun).dependencies ∙ now.dependencies in
      let calls : (i : ℕ) (d : MacroDirective) → slice_get old.core.calls i ≡ Some d → slice_get last.calls i ≡ Some d =
      λ i d at. q.calls i d (call_stays (more old new none step) i d at) in
      let read : (key : TreeKey) → Contains (keys_read (reads old step.rule)) (keys.Tree key) → Contains answer.asked (keys.Tree key) =
      λ key h. asked (keys.Tree key) (subst (λ (ks : List Key). Contains ks (keys.Tree key)) (sym (asked-Step step))
      (Contains-append_right old.core.asked (keys_read (reads old step.rule)) (keys.Tree key) h)) in
      let deep = ap (λ (c : CrateData). c.recursion_limit) data_is in
      let well = well_rule tables w answer last finished old own crates deep calls step.rule step.may step.sees step.numbered read now.stays now.walks in
      let kept : AreKept Ended Made old (perform begun cs) =
      kept-perform Ended Made old cs begun well (record { fates = λ what apart i h. inl h; modules = λ number low. inl low }) in
      record {
        id = own;
        crate_data = data_is;
        dependencies = crates;
        stays = Stays-trans old.core.map (after finished old step.rule).core.map answer.map (Stays-perform cs begun) now.stays;
        walks = walks_rule tables w answer last finished old own crates step.rule step.may now.reached now.calls now.stays now.walks;
        reached = λ r h. now.reached r (reached-perform cs begun r h);
        calls = calls;
        fates = λ what apart i h. elim (now.fates what apart i h) as (λ _. slice_get old.core.fates i ≡ Some what ⊎ Ended what i) [
          | inl there ↦ kept.fates what apart i there
          | inr became ↦ inr became
        ];
        modules = λ number low. elim (now.modules number low) as (λ _. (number < length old.core.map.modules) ⊎ Made number) [
          | inl there ↦ kept.modules number there
          | inr made ↦ inr made
        ];
      }

  back_Steps : {begun end : State} → AreAsked tables w from answer end → Steps (environment tables w) finished begun end → Leads end → Leads begun
  back_Steps asked none q = q
  back_Steps asked (more old new before step) q = back_Steps (λ key h. asked key (still_asked-Step step key h)) before (back_Step asked step q)

  -- ---- the end

  at_end : (end : State) (ds : List DefDiagnostic) → answer.map ≡ with_diagnostics (ended end.core) ds → end.agenda ≡ [] → last ≡ end.core → Leads end
  at_end end ds e over same = record {
    id = sym (ap (λ (x : Map). x.id) e ∙ same_id end.core);
    crate_data = sym (ap (λ (x : Map). x.crate_data) e ∙ same_data end.core);
    dependencies = ap (λ (c : Core). c.dependencies) (sym same);
    stays = subst (λ (x : Map). Stays end.core.map x) (sym e) (Stays-ended end.core);
    walks = subst (AllWalk answer last) (sym over) tt;
    reached = λ r h. subst (λ (c : Core). Contains c.reached r) (sym same) h;
    calls = λ i d h. subst (λ (c : Core). slice_get c.calls i ≡ Some d) (sym same) h;
    fates = λ what apart i h. inl (subst (λ (c : Core). slice_get c.fates i ≡ Some what) same h);
    modules = λ number low. inl (omega (arith, low, as_long));
  }
    where
      as_long : length answer.map.modules ≡ length end.core.map.modules
      as_long = ap (λ (x : Map). length x.modules) e ∙ same_length end.core

  -- ---- the start

  -- the root module is no file's
  root_walked : (start : Start) (v : ModuleValue) → v.origin ≡ origin_of start
      → (is_mod_rs : Bool) (declaration : AstId) (declared_in : TreeId) (file : EditionedFileId)
      → v.origin ≡ origins.File is_mod_rs declaration declared_in file → (P : Type 0) → P
  root_walked (starts.Crate krate root) v is is_mod_rs declaration declared_in file origin P =
      let same : origins.CrateRoot root ≡ origins.File is_mod_rs declaration declared_in file = sym is ∙ origin in
      absurd (let no : ⊥ = cc in no)
  root_walked (starts.Block krate block holder at) v is is_mod_rs declaration declared_in file origin P =
      let same : origins.BlockExpr block at ≡ origins.File is_mod_rs declaration declared_in file = sym is ∙ origin in
      absurd (let no : ⊥ = cc in no)

  module _ (holders : List ModuleId) (q : Leads (start_of tables w finished holders from)) where
    root_items : (site : Site) (tree : Tree) → AllWalk answer last (tree_visits site tree) → Walks answer last (items_of site.tree tree) site
    root_items site tree f = go (is_declared site.tree tree) f
      where
        go : (b : Bool) → AllWalk answer last (if b then visits_over site tree.items else []) → Walks answer last (if b then tree.items else no_items) site
        go true g = all_walk answer last site tree.items g
        go false g = tt

    file_items : Made 0
    file_items v at is_mod_rs declaration declared_in file origin =
        let root : StaysAt (module_at answer.map 0) (new_module (origin_of from.start) (root_visibility from.start) None) = q.stays 0 _ refl in
        let found : Some root.value ≡ Some v = sym root.there ∙ at in
        let same : root.value ≡ v = cc in
        let is : v.origin ≡ origin_of from.start = ap (λ (x : ModuleValue). x.origin) (sym same) ∙ root.origin in
        root_walked from.start v is is_mod_rs declaration declared_in file origin (WalksFile tables w answer last 0 file)

    module_items : (number : ℕ) → number < length answer.map.modules → Made number
    module_items number low = elim (q.modules number low) as (λ _. Made number) [
      | inl first ↦
          let below : number < 1 = first in
          subst Made (omega (arith, below)) file_items
      | inr made ↦ made
    ]

    ended_later : (what : Fate) → what ≢ Waits → (i : ℕ) → slice_get last.fates i ≡ Some what → Ended what i
    ended_later what apart i h = elim (q.fates what apart i h) as (λ _. Ended what i) [
      | inl early ↦ let gone : None ≡ Some what = early in absurd (let no : ⊥ = cc in no)
      | inr became ↦ became
    ]

    walks_all : WalksAll tables w from answer last
    walks_all = record {
      root = root_items (root_site from.tree) (root_tree tables w from) q.walks;
      files = λ number v at is_mod_rs declaration declared_in file origin.
          module_items number (get_inside answer.map.modules number v at) v at is_mod_rs declaration declared_in file origin;
      handled = λ i d at fate. ended_later Handled handled_apart i fate d at;
      given_up = λ i d at fate. ended_later GivenUp given_up_apart i fate d at;
    }

pub uses_are_imported : UsesAreImported
uses_are_imported tables w finished from answer e =
    let seen : Maps = read_by w finished from.start in
    walks_all tables w seen from answer e.last.core (holders_by finished from.start)
    (back_Steps tables w seen from answer e.last.core (answer_asked tables w finished from answer e) e.derived
    (at_end tables w seen from answer e.last.core e.last (leftover_reports seen e.last.core) e.map_is e.visited refl))
