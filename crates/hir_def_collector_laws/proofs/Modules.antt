-- Each module of a run's map lists what its items declare, and what expansions in it do.
use Rattle.std.proofs.Common.{◌≡◌, ◌∙◌, ◌<◌, inl, inr, ℕ, zero, suc, List, [], ◌∷◌, ◌++◌, length, slice_get, Bool, true, false, None, Some, refl, sym, ap}
use Rattle.std.proofs.Common.{subst, arith, Contains, append-nil}
use Rattle.std.proofs.lemmas.List.Elements.{Contains-append_right}
use Rattle.std.specs.Prelude.{if◌then◌else◌}
use Rattle.hir_collector_rules.specs.HirIds.declared.ast_id.AstId.{AstId}
use Rattle.hir_collector_rules.specs.HirIds.declared.ast_id.AttrId.{AttrId}
use Rattle.hir_collector_rules.specs.HirIds.declared.ids.ModuleDefId.{ModuleDefId}
use Rattle.hir_collector_rules.specs.HirIds.declared.ids.ModuleId.{ModuleId}
use Rattle.hir_collector_rules.specs.HirItemTree.Collected.{Numbered, is_enabled}
use Rattle.hir_collector_rules.specs.HirItemTree.ItemTree.{Tree}
use Rattle.hir_collector_rules.specs.HirItemTree.KeptForest.{KeptForest, KeptItem, no_items}
use Rattle.hir_collector_rules.specs.HirBase.declared.tree_id.TreeKey.{TreeKey}
use Rattle.hir_collector_rules.specs.HirTables.Tables.{TablesValue}
use Rattle.hir_collector_rules.specs.HirDefMapRules.Overlay.{Maps}
use Rattle.hir_collector_rules.specs.HirDefMapRules.State.{CrateData, Map, module_at, new_module}
use Rattle.hir_collector_rules.specs.HirMapParts.declared.diagnostics.DefDiagnostic.{DefDiagnostic}
use Rattle.hir_collector_rules.specs.declared.macro_directive.Fate.TheVariants.{GivenUp, Handled}
use Rattle.hir_collector_rules.specs.declared.source_database.Key.{Key}
use Rattle.hir_collector_rules.specs.declared.macro_directive.MacroDirective.{MacroDirective}
use Rattle.hir_collector_rules.specs.declared.macro_directive.MacroDirectiveKind.{MacroDirectiveKind}
use Rattle.hir_collector_rules.specs.declared.site.Site.{Site}
use Rattle.hir_collector_rules.specs.declared.macro_directive.MacroDirectiveKind.TheVariants.{Attr, Derive, FnLike}
use Rattle.hir_collector_rules.specs.Attributes.{is_always_passed}
use Rattle.hir_collector_rules.specs.declared.source_database.Key.TheVariants as keys
use Rattle.hir_collector_rules.specs.Causes.{declarations_of}
use Rattle.hir_collector_rules.specs.Derivation.{CollectedValue, leftover_reports}
use Rattle.hir_collector_rules.specs.Ended.{ended}
use Rattle.hir_collector_rules.specs.Keys.{environment}
use Rattle.hir_collector_rules.specs.Reports.{with_diagnostics}
use Rattle.hir_collector_rules.specs.Start.{Beginning, holders_by, is_declared, krate_of, origin_of, read_by, root_site, root_tree, start_of, tree_visits}
use Rattle.hir_collector_rules.specs.Start.{root_visibility}
use Rattle.hir_collector_rules.specs.State.{Core, State, Task, visits_over}
use Rattle.hir_collector_rules.specs.Steps.{Rule, drops_item, awaits_attribute, lists_derives, faults_derive, exports_macro, reaches_call, rests, expands_call}
use Rattle.hir_collector_rules.specs.Steps.{drops_call, drops_reached, derives_builtin, skips_attribute, falls_back, defines_rules, defines_macro}
use Rattle.hir_collector_rules.specs.Steps.{closes_module, declares_item, declares_enum, lists_constant, lists_impl, opens_module, opens_file, drops_file}
use Rattle.hir_collector_rules.specs.Steps.{misses_file, enters_block, reaches_imports, reaches_crate, resolves_imports, May, Step, Steps, acts, after, asking}
use Rattle.hir_collector_rules.specs.Steps.{keys_read, more, none, reads}
use Rattle.hir_collector_rules.specs.Workspace.{Workspace}
use Rattle.hir_collector_rules.proofs.Asks.{still_asked-Step}
use Rattle.hir_collector_rules.proofs.Changes.{asked-Step}
use Rattle.hir_collector_rules.proofs.Grows.{Grows-Step}
use Rattle.hir_collector_rules.proofs.Holds.{in_range-start}
use Rattle.hir_collector_rules.proofs.InRange.{IsInRange, in_range-Steps}
use Rattle.hir_def_collector_laws.specs.Calls.{HasAttributeAt, IsCallBy, NoCallIsWritten}
use Rattle.hir_def_collector_laws.specs.Declares.{HaveNoCall}
use Rattle.hir_def_collector_laws.specs.Expansions.{Expansion, IsDone, IsExpansion, expanded, expanded_in, resumed}
use Rattle.hir_def_collector_laws.specs.Modules.{ListsAll, ListsItsItems, ModulesListTheirItems, ModulesListTheirItemsAlone, items_of, of_root}
use Rattle.hir_def_collector_laws.specs.Written.{key_of}
use Rattle.hir_def_collector_laws.proofs.Ahead.{Holds, IsAhead, altogether, declare_altogether, gathered_at}
use Rattle.hir_def_collector_laws.proofs.Backwards.{IsSooner, QuietAfter, back_rule}
use Rattle.hir_def_collector_laws.proofs.BuiltinDerives.{StayDerived, StayDerived-ended}
use Rattle.hir_def_collector_laws.proofs.Done.{AreDone, done-Step, from_rule}
use Rattle.hir_def_collector_laws.proofs.Ended.{same_data, same_id, same_length}
use Rattle.hir_def_collector_laws.proofs.Imports.{answer_asked, answer_here, first_written}
use Rattle.hir_def_collector_laws.proofs.Lists.{at_first, at_home-other, standing}
use Rattle.hir_def_collector_laws.proofs.Listings.{Stays, Stays-ended, StaysAt, data-perform, listed-ended, proc-Step}
use Rattle.hir_def_collector_laws.proofs.Passed.{StayHelpers, StayHelpers-ended, StayHelpers-perform}
use Rattle.hir_def_collector_laws.proofs.Quiet.{IsQuiet, NoCallNext, call_apart, quiet-Step, quiet_of}
use Rattle.hir_def_collector_laws.proofs.Written.{AreAsked, IsAllWritten, written-Steps}

-- a rule brings nothing to a module where no call waits
quiet_from : (tools : List (List ℕ)) (finished : Maps) (s : State) (k : ℕ) → IsQuiet tools k s → (r : Rule) → May finished s r
    → (defs : List ModuleDefId) (es : List Expansion)
    → expanded_in (from_rule r defs es) k ≡ expanded_in es k
quiet_from tools finished s k p (expands_call i d makro x) may defs es =
    ap (λ (xs : List ModuleDefId). xs ++ expanded_in es k)
    (at_home-other d.site.home k defs (call_apart k s.core.calls i d p.calls may.called.due.waiting.call))
quiet_from tools finished s k p (skips_attribute i d w item) may defs es =
    ap (λ (xs : List ModuleDefId). xs ++ expanded_in es k) (at_home-other d.site.home k defs (call_apart k s.core.calls i d p.calls may.due.waiting.call))
quiet_from tools finished s k p (falls_back i d w item) may defs es =
    ap (λ (xs : List ModuleDefId). xs ++ expanded_in es k) (at_home-other d.site.home k defs (call_apart k s.core.calls i d p.calls may.waiting.call))
quiet_from tools finished s k p other may defs es = refl

module _ (tables : TablesValue) (w : Workspace) (finished : Maps) (from : Beginning) (answer : CollectedValue) (end : Core) where
  -- what comes of a state, in the end
  record Comes (s : State) : Type 0 where
    -- the expansions yet to come
    es : List Expansion
    ahead : IsAhead tables w finished from answer end es s.core.map s.agenda
    quiet : (k : ℕ) → k < length s.core.map.modules → IsQuiet answer.map.crate_data.registered_tools k s → expanded_in es k ≡ []
    done : AreDone end answer.map es s
    proc : s.core.is_proc_macro ≡ end.is_proc_macro

  among_later : (ds es : List MacroDirective) → ((i : ℕ) (d : MacroDirective) → slice_get ds i ≡ Some d → slice_get es i ≡ Some d) → (d : MacroDirective)
      → Contains ds d → Contains es d
  among_later ds es stays d h = let at = placed ds d h in standing es at.0 d (stays at.0 d at.1)
    where
      placed : (xs : List MacroDirective) (x : MacroDirective) → Contains xs x → (i : ℕ) × (slice_get xs i ≡ Some x)
      placed [] x (n, below, is) = absurd (omega arith)
      placed (y ∷ ys) x (zero, below, is) = (0, ap (λ (z : MacroDirective). Some z) is)
      placed (y ∷ ys) x (suc n, below, is) = let later = placed ys x (n, omega (arith, below), is) in (suc later.0, later.1)

  back_Step : {old new : State} → IsInRange old → IsAllWritten tables w from answer old → AreAsked tables w from answer new
      → Step (environment tables w) finished old new → Comes new → Comes old
  back_Step {old = old} inside f asked step q =
      let read : (key : TreeKey) → Contains (keys_read (reads old step.rule)) (keys.Tree key) → Contains answer.asked (keys.Tree key) =
      λ key h. asked (keys.Tree key) (subst (λ (ks : List Key). Contains ks (keys.Tree key)) (sym (asked-Step step))
      (Contains-append_right old.core.asked (keys_read (reads old step.rule)) (keys.Tree key) h)) in
      let now : IsAhead tables w finished from answer end q.es (after finished old step.rule).core.map (after finished old step.rule).agenda =
      subst (λ (t : State). IsAhead tables w finished from answer end q.es t.core.map t.agenda) step.is q.ahead in
      let same : old.core.map.crate_data ≡ answer.map.crate_data = sym (data-perform (acts finished old step.rule) (asking old step.rule)) ∙ now.crate_data in
      let stay : StayHelpers old.core.map answer.map = λ node path h. now.helpers node path
      (StayHelpers-perform (acts finished old step.rule) (asking old step.rule) node path h) in
      let proc : old.core.is_proc_macro ≡ end.is_proc_macro = sym (proc-Step step) ∙ q.proc in
      let kept : (d : MacroDirective) → Contains (after finished old step.rule).core.calls d → Contains end.calls d =
      subst (λ (t : State). (d : MacroDirective) → Contains t.core.calls d → Contains end.calls d) step.is (λ d h. among_later _ end.calls q.done.stays d h) in
      let quiet : QuietAfter tables w finished from answer end q.es old inside f same stay proc (after finished old step.rule) =
      subst (λ (t : State). QuietAfter tables w finished from answer end q.es old inside f same stay proc t) step.is q.quiet in
      let sooner : IsSooner tables w finished from answer end q.es old inside f same stay proc step.rule =
      back_rule tables w finished from answer end q.es old inside f same stay proc step.rule step.may step.sees step.numbered read kept quiet now in
      record {
        es = from_rule step.rule sooner.defs q.es;
        ahead = sooner.ahead;
        quiet = λ k low p.
            quiet_from answer.map.crate_data.registered_tools finished old k p step.rule step.may sooner.defs q.es
            ∙ q.quiet k (omega (arith, low, (Grows-Step step).longer))
            (quiet-Step answer.map.crate_data.registered_tools k (ap (λ (c : CrateData). c.registered_tools) same) low step p);
        done = done-Step end answer.map sooner.defs q.es inside (ap (λ (c : CrateData). c.recursion_limit) same) step q.done;
        proc = proc;
      }

  back_Steps : {begun last : State} → answer.map.id.krate ≡ krate_of from.start → IsInRange begun → IsAllWritten tables w from answer begun
      → AreAsked tables w from answer last
      → Steps (environment tables w) finished begun last → Comes last → Comes begun
  back_Steps here inside f asked none q = q
  back_Steps here inside f asked (more old new before step) q =
      let earlier : AreAsked tables w from answer old = λ key h. asked key (still_asked-Step step key h) in
      back_Steps here inside f earlier before (back_Step (in_range-Steps before inside) (written-Steps tables w from answer here before earlier f) asked step q)

  -- ---- the end

  at_end : (c : Core) (ds : List DefDiagnostic) (vs : List Task) → answer.map ≡ with_diagnostics (ended c) ds → vs ≡ [] → IsAhead tables w finished from answer
      end [] c.map vs
  at_end c ds vs e over = subst (λ (xs : List Task). IsAhead tables w finished from answer end [] c.map xs) (sym over) (record {
    id = sym (ap (λ (x : Map). x.id) e ∙ same_id c);
    crate_data = sym (ap (λ (x : Map). x.crate_data) e ∙ same_data c);
    fewer = omega (arith, as_long);
    stays = subst (λ (x : Map). Stays c.map x) (sym e) (Stays-ended c);
    helpers = subst (λ (x : Map). StayHelpers c.map x) (sym e) (StayHelpers-ended c);
    listed = tt;
    lists = λ k low. ap (λ (x : Map). declarations_of (module_at x k)) e ∙ listed-ended c k ∙ sym (append-nil (declarations_of (module_at c.map k)));
    holds = λ more agrees. record {
      pending = tt;
      modules = λ k past below. absurd (let no : ⊥ = omega (arith, as_long, past, below) in no);
      expanded = λ x h. absurd (no_expansion x h);
    };
  })
    where
      as_long : length answer.map.modules ≡ length c.map.modules
      as_long = ap (λ (x : Map). length x.modules) e ∙ same_length c

      no_expansion : (x : Expansion) → Contains [] x → ⊥
      no_expansion x (n, below, is) = let past : n < 0 = below in omega arith

  comes_end : (last : State) (ds : List DefDiagnostic) → answer.map ≡ with_diagnostics (ended last.core) ds → last.agenda ≡ [] → end ≡ last.core → Comes last
  comes_end last ds e over same = record {
    es = [];
    ahead = at_end last.core ds last.agenda e over;
    quiet = λ k low p. refl;
    done = subst (λ (c : Core). AreDone c answer.map [] last) (sym same) (record {
      stays = λ i d h. h;
      derived = subst (λ (x : Map). StayDerived last.core.map x) (sym e) (StayDerived-ended last.core);
      each = λ i h. inl h;
      given_up = λ i h. inl h;
    });
    proc = ap (λ (c : Core). c.is_proc_macro) (sym same);
  }

  -- ---- the start

  same_visits : (site : Site) (tree : Tree) → tree_visits site tree ≡ visits_over site (items_of site.tree tree)
  same_visits site tree = go (is_declared site.tree tree)
    where
      go : (b : Bool) → (if b then visits_over site tree.items else []) ≡ visits_over site (if b then tree.items else no_items)
      go true = refl
      go false = refl

  module _ (holders : List ModuleId) (q : Comes (start_of tables w finished holders from)) where
    abbrev site : Site
    site = root_site from.tree

    abbrev items : KeptForest
    items = items_of from.tree (root_tree tables w from)

    at : IsAhead tables w finished from answer end q.es (start_of tables w finished holders from).core.map (visits_over site items)
    at =
        subst (λ (vs : List Task). IsAhead tables w finished from answer end q.es (start_of tables w finished holders from).core.map vs)
        (same_visits site (root_tree tables w from)) q.ahead

    holds : Holds tables w finished from answer end (expanded_in q.es) q.es (length (start_of tables w finished holders from).core.map.modules)
        (visits_over site items) at.listed
    holds = at.holds (expanded_in q.es) (λ k past. refl)

    root_quiet : HaveNoCall answer.map.crate_data.registered_tools items → expanded_in q.es 0 ≡ []
    root_quiet none_called =
        q.quiet 0 (omega arith) (record {
          visits = subst (λ (vs : List Task). NoCallNext answer.map.crate_data.registered_tools 0 vs)
              (sym (same_visits site (root_tree tables w from))) (quiet_of answer.map.crate_data.registered_tools 0 site items (λ here. none_called));
          calls = tt;
        })

    root_lists : ListsItsItems tables w finished from answer end (expanded_in q.es) 0
    root_lists =
        let low : 0 < 1 = omega arith in
        let root : StaysAt (module_at answer.map 0) (new_module (origin_of from.start) (root_visibility from.start) None) = at.stays 0 _ refl in
        record {
          value = root.value;
          there = root.there;
          site = site;
          home = refl;
          alone = refl;
          items = items;
          has = of_root root.origin refl;
          lists = record {
            own = altogether site items at.listed;
            declared = declare_altogether tables w finished from answer end (expanded_in q.es) site items at.listed holds.pending;
            listed = at.lists 0 low ∙ ap (λ (xs : List ModuleDefId). xs ++ expanded_in q.es 0) (gathered_at 0 site items at.listed);
            alone = root_quiet;
          };
        }

    lists_at : (n : ℕ) → n < length answer.map.modules → ListsItsItems tables w finished from answer end (expanded_in q.es) n
    lists_at zero h = root_lists
    lists_at (suc n) h = holds.modules (suc n) (omega arith) h

    all_given_up : (i : ℕ) (d : MacroDirective) → slice_get end.calls i ≡ Some d → slice_get end.fates i ≡ Some GivenUp → (e : Expansion) × Contains q.es e
        × (e.call ≡ d)
    all_given_up i d there given_up = elim (q.done.given_up i given_up) as (λ _. (e : Expansion) × Contains q.es e × (e.call ≡ d)) [
      | inl early ↦ let gone : None ≡ Some GivenUp = early in absurd (let no : ⊥ = cc in no)
      | inr later ↦ later d there
    ]

    all_done : (i : ℕ) (d : MacroDirective) → slice_get end.calls i ≡ Some d → slice_get end.fates i ≡ Some Handled → IsDone answer.map q.es d
    all_done i d there handled = elim (q.done.each i handled) as (λ _. IsDone answer.map q.es d) [
      | inl early ↦ let gone : None ≡ Some Handled = early in absurd (let no : ⊥ = cc in no)
      | inr later ↦ later d there
    ]

    lists_all : ListsAll tables w finished from answer end
    lists_all = record { expansions = q.es; each = holds.expanded; done = all_done; given_up = all_given_up; modules = lists_at }

-- where nothing is written that waits, nothing was expanded, and nothing went on
module _ (tables : TablesValue) (w : Workspace) (answer : CollectedValue) (without : NoCallIsWritten tables w answer) where
  none_with : (site : Site) (node : AstId) (id : AttrId) (i : KeptItem) (a : Numbered) → HasAttributeAt tables w answer site node id i a
      → is_always_passed answer.map.crate_data.registered_tools a ≡ true
  none_with site node id i a at = without.no_attribute (key_of answer site.tree) i at.written at.enabled a at.has

  no_call_by : (d : MacroDirective) (kind : MacroDirectiveKind) → IsCallBy tables w answer d kind → ⊥
  no_call_by d (FnLike path) by =
      let on : is_enabled by.head.attributes ≡ true = by.enabled in
      let off : is_enabled by.head.attributes ≡ false = without.no_call (key_of answer d.site.tree) by.head by.path by.written in
      let no : ⊥ = cc in
      no
  no_call_by d (Derive path attr index adt) by =
      let always : is_always_passed answer.map.crate_data.registered_tools by.attribute ≡ true = none_with d.site d.ast_id attr by.item by.attribute by.at in
      let unpassed : is_always_passed answer.map.crate_data.registered_tools by.attribute ≡ false = by.at.unpassed in
      let no : ⊥ = cc in
      no
  no_call_by d (Attr path attr k) by =
      let always : is_always_passed answer.map.crate_data.registered_tools by.attribute ≡ true = none_with d.site d.ast_id attr by.item by.attribute by.at in
      let unpassed : is_always_passed answer.map.crate_data.registered_tools by.attribute ≡ false = by.at.unpassed in
      let no : ⊥ = cc in
      no

  none_expanded : (finished : Maps) (last : Core) (besides : ℕ → List ModuleDefId) (es : List Expansion)
      → ((e : Expansion) → Contains es e → IsExpansion tables w finished answer last besides e) → es ≡ []
  none_expanded finished last besides [] each = refl
  none_expanded finished last besides (e ∷ es) each = absurd (go (each e (at_first e es)))
    where
      go : IsExpansion tables w finished answer last besides e → ⊥
      go (expanded call makro seen p) = no_call_by e.call e.call.kind call.by
      go (resumed call k item p) = no_call_by e.call e.call.kind call.by

pub modules_list_their_items : ModulesListTheirItems
modules_list_their_items tables w finished from answer e =
    let seen : Maps = read_by w finished from.start in
    lists_all tables w seen from answer e.last.core (holders_by finished from.start)
    (back_Steps tables w seen from answer e.last.core (answer_here tables w finished from answer e)
    (in_range-start tables w seen (holders_by finished from.start) from)
    (first_written tables w finished from answer e) (answer_asked tables w finished from answer e) e.derived
    (comes_end tables w seen from answer e.last.core e.last (leftover_reports seen e.last.core) e.map_is e.visited refl))

pub modules_list_their_items_alone : ModulesListTheirItemsAlone
modules_list_their_items_alone tables w finished from answer e no_call number low =
    let seen : Maps = read_by w finished from.start in
    let all : ListsAll tables w seen from answer e.last.core = modules_list_their_items tables w finished from answer e in
    subst (λ (es : List Expansion). ListsItsItems tables w seen from answer e.last.core (expanded_in es) number)
    (none_expanded tables w answer no_call seen e.last.core (expanded_in all.expansions) all.expansions all.each) (all.modules number low)
