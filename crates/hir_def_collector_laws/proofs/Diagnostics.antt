-- Each diagnostic of a run speaks of an item that was visited, or of a call or an import that was come upon.
use Rattle.std.proofs.Common.{◌≡◌, ◌∙◌, ◌<◌, ◌≤◌, ℕ, zero, suc, List, [], ◌∷◌, ◌++◌, length, slice_get, Bool, true, false, cond, Option, None, Some, inl, inr}
use Rattle.std.proofs.Common.{refl, sym, ap, subst, arith, drop, Contains}
use Rattle.std.proofs.lemmas.List.Elements.{Contains-append_cases}
use Rattle.hir_collector_rules.specs.HirIds.declared.ast_id.AstId.{AstId}
use Rattle.hir_collector_rules.specs.HirIds.declared.ast_id.AttrId.{AttrId}
use Rattle.hir_collector_rules.specs.HirIds.declared.ids.Crate.{Crate}
use Rattle.hir_collector_rules.specs.HirIds.declared.ids.MapId.{MapId}
use Rattle.hir_collector_rules.specs.HirIds.declared.ids.ModuleId.{ModuleId}
use Rattle.hir_collector_rules.specs.HirIds.declared.ast_id.AstKind.TheVariants as nodes
use Rattle.hir_collector_rules.specs.HirItemTree.Collected.{Numbered}
use Rattle.hir_collector_rules.specs.HirItemTree.KeptForest.{KeptItem, extern_crate, import, leaf, macro_call}
use Rattle.hir_collector_rules.specs.HirItemTree.Kinds.{item_head, item_kind}
use Rattle.hir_collector_rules.specs.HirTables.Tables.{TablesValue}
use Rattle.hir_collector_rules.specs.HirDefMapRules.Diagnostics.{call_node, diagnostic_view, node_of as node_told}
use Rattle.hir_collector_rules.specs.HirDefMapRules.Overlay.{Maps}
use Rattle.hir_collector_rules.specs.HirDefMapRules.State.{Local, Map, numbered}
use Rattle.hir_collector_rules.specs.HirMapParts.declared.diagnostics.DefDiagnostic.{DefDiagnostic}
use Rattle.hir_collector_rules.specs.HirMapParts.declared.diagnostics.DefDiagnosticKind.TheVariants as kinds
use Rattle.hir_collector_rules.specs.HirImportRules.Directives.{TakenValue, is_untaken}
use Rattle.hir_collector_rules.specs.HirImportRules.Rules.{acts as import_acts}
use Rattle.hir_collector_rules.specs.HirImportRules.declared.directive.ImportDirective.{ImportDirective}
use Rattle.hir_collector_rules.specs.HirImportRules.declared.directive.ImportSource.{ImportSource}
use Rattle.hir_collector_rules.specs.HirImportRules.declared.directive.ImportSource.TheVariants as sources
use Rattle.hir_collector_rules.specs.declared.macro_directive.EagerMacro.{EagerMacro}
use Rattle.hir_collector_rules.specs.declared.macro_directive.Fate.{Fate}
use Rattle.hir_collector_rules.specs.declared.macro_directive.MacroDirective.{MacroDirective}
use Rattle.hir_collector_rules.specs.declared.macro_directive.MacroDirectiveKind.{MacroDirectiveKind}
use Rattle.hir_collector_rules.specs.declared.macro_directive.Fate.TheVariants as fates
use Rattle.hir_collector_rules.specs.declared.macro_directive.MacroDirectiveKind.TheVariants.{Attr, Derive, FnLike}
use Rattle.hir_collector_rules.specs.Attributes.{item_node}
use Rattle.hir_collector_rules.specs.Calls.{call_kind, error_of, kind_by, path_of_call}
use Rattle.hir_collector_rules.specs.Changes.{Change, lists, makes, gives_variants, begins_paths, reaches, awaits, ends, settles, changes_imports, adds_textual}
use Rattle.hir_collector_rules.specs.Changes.{takes_textual, defines, describes, helps, lists_derive, notes, exports, uses_macros, tells, goes_on, act}
use Rattle.hir_collector_rules.specs.Derivation.{CollectedValue, Ends}
use Rattle.hir_collector_rules.specs.ItemIds.{module_id, node_of}
use Rattle.hir_collector_rules.specs.Keys.{environment}
use Rattle.hir_collector_rules.specs.Reports.{begins_with, call_report, crates_among, failed_call, leftover_diagnostics, report_by, reports_of}
use Rattle.hir_collector_rules.specs.Reports.{unimplemented_macro, unresolved_among, unresolved_calls}
use Rattle.hir_collector_rules.specs.Start.{Beginning, begin_of, holders_by, krate_of, read_by}
use Rattle.hir_collector_rules.specs.State.{State, Task, Visit, eager_among, eager_at, visits, import_state}
use Rattle.hir_collector_rules.specs.Steps.{Rule, drops_item, awaits_attribute, lists_derives, faults_derive, exports_macro, reaches_call, rests}
use Rattle.hir_collector_rules.specs.Steps.{expands_call, meets_macro}
use Rattle.hir_collector_rules.specs.Steps.{drops_call, drops_reached, derives_builtin, skips_attribute, falls_back, defines_rules, defines_macro}
use Rattle.hir_collector_rules.specs.Steps.{closes_module, declares_item, declares_enum, lists_constant, lists_impl, opens_module, opens_file, drops_file}
use Rattle.hir_collector_rules.specs.Steps.{misses_file, enters_block, reaches_imports, reaches_crate, resolves_imports, IsFaulty, May, Steps, no_paths}
use Rattle.hir_collector_rules.specs.Steps.{no_target, acts, asking, call_at, more, none}
use Rattle.hir_collector_rules.specs.Workspace.{Workspace}
use Rattle.hir_collector_rules.proofs.Asks.{only, still_asked-Step}
use Rattle.hir_collector_rules.proofs.Changes.{AllFine, all_fine, fine_bringing, fine_expanding, fine_macro, fine_reporting, perform_keeps}
use Rattle.hir_collector_rules.proofs.Grows.{Grows-Step}
use Rattle.hir_collector_rules.proofs.Holds.{in_range-start}
use Rattle.hir_collector_rules.proofs.ImportEdits.{Edit, edit_of, edited, map_after}
use Rattle.hir_collector_rules.proofs.InRange.{ImportsBelow, IsInRange, call_below, in_range-Steps, next_home}
use Rattle.hir_def_collector_laws.specs.Calls.{HasAttributeAt, IsCall, IsCallBy}
use Rattle.hir_def_collector_laws.specs.Diagnostics.{DiagnosticsAreOfItems, IsOfItem, IsToldOfItem}
use Rattle.hir_def_collector_laws.specs.Imports.{IsImport, IsOfSource}
use Rattle.hir_def_collector_laws.specs.Written.{IsWritten}
use Rattle.hir_def_collector_laws.proofs.Ended.{same_diagnostics, same_id, same_length}
use Rattle.hir_def_collector_laws.proofs.Imports.{answer_asked, answer_here, call_there, first_written, import_written}
use Rattle.hir_def_collector_laws.proofs.Lists.{at_first, later, standing}
use Rattle.hir_def_collector_laws.proofs.Written.{AreAsked, IsAllWritten, call_among, placed_next, written-Steps}

module _ (tables : TablesValue) (w : Workspace) (from : Beginning) (answer : CollectedValue) where
  abbrev IsTold : DefDiagnostic → Type 0
  IsTold d = IsToldOfItem tables w answer (diagnostic_view d)

  abbrev AllTold : List DefDiagnostic → Type 0
  AllTold ds = (d : DefDiagnostic) → Contains ds d → IsTold d

  told_more : (ds es : List DefDiagnostic) → AllTold ds → AllTold es → AllTold (ds ++ es)
  told_more ds es f g d h = elim (Contains-append_cases ds es d h) as (λ _. IsTold d) [
    | inl before ↦ f d before
    | inr behind ↦ g d behind
  ]

  none_told : AllTold []
  none_told d (n, below, is) = let past : n < 0 = below in absurd (omega arith)

  one_told : (d : DefDiagnostic) → IsTold d → AllTold (d ∷ [])
  one_told d f e h = subst IsTold (only d e h) f

  pub record AreTold (s : State) : Type 0 where
    pub each : AllTold s.core.map.diagnostics

  -- a call stands on the node of an item
  call_item : (d : MacroDirective) → IsCall tables w answer d → IsOfItem tables w answer d.ast_id
  call_item d c = go d.kind c.by
    where
      -- an item with an attribute
      item_with : (id : AttrId) (i : KeptItem) (a : Numbered) → HasAttributeAt tables w answer d.site d.ast_id id i a → IsOfItem tables w answer d.ast_id
      item_with id i a at =
          let item : IsOfItem tables w answer (item_node d.site i) = record { item = i; written = at.written; kind = refl; id = refl } in
          subst (λ (node : AstId). IsOfItem tables w answer node) (sym at.node_is) item

      go : (kind : MacroDirectiveKind) → IsCallBy tables w answer d kind → IsOfItem tables w answer d.ast_id
      go (FnLike path) by =
          let item : IsOfItem tables w answer (call_at d.site by.head by.path).ast_id = record {
            item = leaf by.head (macro_call by.path);
            written = by.written;
            kind = refl;
            id = refl;
          } in
          subst (λ (x : MacroDirective). IsOfItem tables w answer x.ast_id) (sym by.is) item
      go (Derive path attr index adt) by = item_with attr by.item by.attribute by.at
      go (Attr path attr k) by = item_with attr by.item by.attribute by.at

  -- and is reported as one
  call_node_is : (d : MacroDirective) → call_node (call_kind d) ≡ d.ast_id
  call_node_is d = go d.kind
    where
      go : (kind : MacroDirectiveKind) → call_node (kind_by d.ast_id kind) ≡ d.ast_id
      go (FnLike path) = refl
      go (Derive path attr index adt) = refl
      go (Attr path attr k) = refl

  -- ---- changes

  -- what is told speaks of an item
  abbrev IsFine : State → Change → Type 0
  IsFine s (tells d) = IsTold d
  IsFine s other = Unit {0}

  same_edited : (m : Map) (o : Option (ℕ × Edit)) → (edited m o).diagnostics ≡ m.diagnostics
  same_edited m None = refl
  same_edited m (Some e) = refl

  told-act : (s : State) (c : Change) → AreTold s → IsFine s c → AreTold (act s c)
  told-act s (changes_imports c) f fine = record {
    each = subst AllTold (sym (ap (λ (m : Map). m.diagnostics) (map_after (import_state s) c) ∙ same_edited s.core.map (edit_of (import_state s) c))) f.each;
  }
  told-act s (tells d) f fine = record { each = told_more s.core.map.diagnostics (d ∷ []) f.each (one_told d fine) }
  told-act s other f fine = record { each = f.each }

  -- ---- rules

  module _ (finished : Maps) (s : State) (written : IsAllWritten tables w from answer s) (in_range : IsInRange s) (fits : length s.core.map.modules ≤ length answer.map.modules) where
    -- the next item is one of which may be told
    next_told : (v : Visit) (rest : List Task) → s.agenda ≡ visits v ∷ rest → (d : DefDiagnostic) → d.in_module ≡ module_id s.core.map v.site.home
        → node_told (diagnostic_view d).kind ≡ node_of v.site.tree (item_kind v.item) (item_head v.item).id → IsTold d
    next_told v rest next d at about =
        let home : v.site.home < length s.core.map.modules = next_home s in_range v rest next in
        let item : IsOfItem tables w answer (node_of v.site.tree (item_kind v.item) (item_head v.item).id) =
        record { item = v.item; written = (placed_next tables w from answer s.agenda v rest written.visits next).0; kind = refl; id = refl } in
        record {
          number = v.site.home;
          there = omega arith;
          module_is = at ∙ ap (λ (id : MapId). numbered id v.site.home) written.id;
          of_item = subst (λ (node : AstId). IsOfItem tables w answer node) (sym about) item;
        }

    -- so is a call
    call_told : (d : MacroDirective) (i : ℕ) → slice_get s.core.calls i ≡ Some d → (error : List ℕ)
        → IsTold (failed_call (module_id s.core.map d.site.home) d.ast_id (path_of_call d) error)
    call_told d i at error =
        let home : d.site.home < length s.core.map.modules = call_below (length s.core.map.modules) s.core.calls i d in_range.calls at in
        record {
          number = d.site.home;
          there = omega arith;
          module_is = ap (λ (id : MapId). numbered id d.site.home) written.id;
          of_item = call_item d (call_among tables w from answer s.core.calls d written.calls (standing s.core.calls i d at));
        }

    -- an attribute that is given up
    given_up_told : (d : MacroDirective) (i : ℕ) → slice_get s.core.calls i ≡ Some d → IsTold (call_report finished s.core.local s.core.map d (eager_at s.core i))
    given_up_told d i at =
        let home : d.site.home < length s.core.map.modules = call_below (length s.core.map.modules) s.core.calls i d in_range.calls at in
        let item : IsOfItem tables w answer d.ast_id = call_item d (call_among tables w from answer s.core.calls d written.calls (standing s.core.calls i d at))
        in
        record {
          number = d.site.home;
          there = omega arith;
          module_is = ap (λ (id : MapId). numbered id d.site.home) written.id;
          of_item = subst (λ (node : AstId). IsOfItem tables w answer node) (sym (call_node_is d)) item;
        }

    -- and a `derive` that is reported
    fault_told : (v : Visit) (rest : List Task) → s.agenda ≡ visits v ∷ rest → (a : Numbered) (report : DefDiagnostic) → IsFaulty s v a report → IsTold report
    fault_told v rest next a report (no_target missing is) =
        next_told v rest next report (ap (λ (d : DefDiagnostic). d.in_module) is) (ap (λ (d : DefDiagnostic). node_told (diagnostic_view d).kind) is)
    fault_told v rest next a report (no_paths adt target missing is) =
        next_told v rest next report (ap (λ (d : DefDiagnostic). d.in_module) is) (ap (λ (d : DefDiagnostic). node_told (diagnostic_view d).kind) is)

    fine_rule : (r : Rule) → May finished s r → AllFine IsFine (asking s r) (acts finished s r)
    fine_rule (drops_item v report rest) may = (
      tt,
      (
        next_told v rest may.next report (ap (λ (d : DefDiagnostic). d.in_module) may.reported.is)
            (ap (λ (d : DefDiagnostic). node_told (diagnostic_view d).kind) may.reported.is),
        tt,
      ),
    )
    fine_rule (declares_item v d rest) may = (tt, (tt, (tt, tt)))
    fine_rule (declares_enum site head name found rest) may = (tt, (tt, (tt, (tt, tt))))
    fine_rule (opens_module site head name items rest) may = (tt, (tt, (tt, (tt, (tt, tt)))))
    fine_rule (opens_file site head name search file rest) may = (tt, (tt, (tt, (tt, (tt, tt)))))
    fine_rule (drops_file site head name search report rest) may =
        let speaks : IsTold report =
        next_told _ rest may.looks.here.next report (ap (λ (d : DefDiagnostic). d.in_module) may.reported.is)
        (ap (λ (d : DefDiagnostic). node_told (diagnostic_view d).kind) may.reported.is) in
        (tt, (speaks, tt))
    fine_rule (misses_file site head name search report rest) may =
        let speaks : IsTold report =
        next_told _ rest may.looks.here.next report (ap (λ (d : DefDiagnostic). d.in_module) may.reported.is)
        (ap (λ (d : DefDiagnostic). node_told (diagnostic_view d).kind) may.reported.is) in
        (tt, (tt, (tt, (tt, (tt, (speaks, tt))))))
    fine_rule (reaches_imports site head tree rest) may = (tt, (tt, (tt, tt)))
    fine_rule (reaches_crate site head name alias rest) may = (tt, (tt, (tt, (tt, (tt, tt)))))
    fine_rule (defines_rules site head name expander helpers rest) may =
        let speaks : IsTold (unimplemented_macro (module_id s.core.map site.home) (node_of site.tree nodes.MacroRules head.id)) =
        next_told _ rest may.next (unimplemented_macro (module_id s.core.map site.home) (node_of site.tree nodes.MacroRules head.id)) refl refl in
        (tt, (tt, (tt, (tt, fine_macro IsFine _ _ expander (λ t. speaks) head name _ (λ t. tt) _))))
    fine_rule (defines_macro site head name expander helpers rest) may =
        let speaks : IsTold (unimplemented_macro (module_id s.core.map site.home) (node_of site.tree nodes.MacroDef head.id)) =
        next_told _ rest may.next (unimplemented_macro (module_id s.core.map site.home) (node_of site.tree nodes.MacroDef head.id)) refl refl in
        (tt, (tt, (tt, (tt, (tt, fine_reporting IsFine _ _ expander (λ t. speaks) _)))))
    fine_rule (lists_derives v at a adt paths call rest) may = (tt, (tt, (tt, tt)))
    fine_rule (faults_derive v at report rest) may = (tt, (fault_told v rest may.has.on.next may.attribute report may.faulty, tt))
    fine_rule (exports_macro site head name d e rest) may = (tt, (tt, (tt, (tt, (tt, (tt, (tt, tt)))))))
    fine_rule (meets_macro i d makro x) may = (tt, tt)
    fine_rule rests may = (tt, tt)
    fine_rule (expands_call i d makro x) may = (
      tt,
      (
        tt,
        (
          tt,
          fine_expanding IsFine _ (λ t helper. tt) _ (module_id s.core.map d.site.home) d (error_of x.there)
              (λ t text. call_told d i may.called.due.waiting.call text) _,
        ),
      ),
    )
    fine_rule (drops_call i d) may = (tt, tt)
    fine_rule (drops_reached i d makro) may = (tt, fine_bringing IsFine _ (λ t helper. tt) _ _)
    fine_rule (derives_builtin i d makro imp) may = (tt, (tt, (tt, fine_bringing IsFine _ (λ t helper. tt) _ _)))
    fine_rule (falls_back i d k waited) may = (tt, (given_up_told d i may.waiting.call, (tt, tt)))
    fine_rule (resolves_imports rule) may = all_fine IsFine (λ t c. tt) (import_acts finished (import_state s) rule) (asking s (resolves_imports rule))
    fine_rule other may = (tt, (tt, tt))

  -- ---- steps

  told-Steps : {finished : Maps} {begun last : State} → answer.map.id.krate ≡ krate_of from.start → IsAllWritten tables w from answer begun → IsInRange begun
      → AreTold begun
      → AreAsked tables w from answer last → length last.core.map.modules ≤ length answer.map.modules → Steps (environment tables w) finished begun last
      → AreTold last
  told-Steps here written in_range f asked fits none = f
  told-Steps {finished = finished} here written in_range f asked fits (more old new before step) =
      let earlier : AreAsked tables w from answer old = λ key h. asked key (still_asked-Step step key h) in
      let longer : length old.core.map.modules ≤ length new.core.map.modules = (Grows-Step step).longer in
      let fits_earlier : length old.core.map.modules ≤ length answer.map.modules = omega arith in
      let before_told : AreTold old = told-Steps here written in_range f earlier fits_earlier before in
      let begun : AreTold (asking old step.rule) = record { each = before_told.each } in
      let done = perform_keeps AreTold IsFine told-act (acts finished old step.rule) (asking old step.rule) begun
      (fine_rule finished old (written-Steps tables w from answer here before earlier written) (in_range-Steps before in_range) fits_earlier step.rule step.may)
      in
      subst AreTold (sym step.is) (record { each = done.each })

  -- ---- what is left over

  krate_of_module : (m : ModuleId) (number : ℕ) → m ≡ numbered answer.map.id number → m.map.krate ≡ answer.map.id.krate
  krate_of_module m number e = ap (λ (x : ModuleId). x.map.krate) e

  told_source : (names : List (List ℕ)) (r : ImportDirective) → r.home < length answer.map.modules → (source : ImportSource) → IsOfSource tables w from answer r
      source
      → AllTold (report_by (numbered answer.map.id r.home) names source r.path)
  told_source names r there (sources.Use id kind) is = go (begins_with names r.path.kind r.path.segments)
    where
      item : IsOfItem tables w answer (record { file_id = id.use_.loc.file_id; block = id.use_.loc.block; kind = nodes.Use; id = id.use_.loc.id })
      item = record {
        item = leaf is.head (import is.tree);
        written =
            subst (λ (k : Crate). IsWritten tables w answer.asked (record { krate = k; id = record { file = id.use_.loc.file_id; block = id.use_.loc.block } })
            (leaf is.head (import is.tree)))
            (krate_of_module id.use_.loc.container r.home is.module_is) is.written;
        kind = refl;
        id = is.node;
      }

      go : (b : Bool) → AllTold (cond b [] (record { in_module = numbered answer.map.id r.home; kind = kinds.UnresolvedImport id.use_ id.idx } ∷ []))
      go true = none_told
      go false = one_told _ (record { number = r.home; there = there; module_is = refl; of_item = item })
  told_source names r there (sources.ExternCrate id krate) is = one_told _ (record { number = r.home; there = there; module_is = refl; of_item = item })
    where
      item : IsOfItem tables w answer (record { file_id = id.loc.file_id; block = id.loc.block; kind = nodes.ExternCrate; id = id.loc.id })
      item = record {
        item = leaf is.head (extern_crate is.name r.alias);
        written =
            subst (λ (k : Crate). IsWritten tables w answer.asked (record { krate = k; id = record { file = id.loc.file_id; block = id.loc.block } })
            (leaf is.head (extern_crate is.name r.alias)))
            (krate_of_module id.loc.container r.home is.module_is) is.written;
        kind = refl;
        id = is.node;
      }

  abbrev AreCallsThere : List MacroDirective → Type 0
  AreCallsThere ds = (d : MacroDirective) → Contains ds d → IsCall tables w answer d × (d.site.home < length answer.map.modules)

  -- a call that waits
  module _ (finished : Maps) (local : Local) (m : Map) (same : m.id ≡ answer.map.id) where
    told_call : (d : MacroDirective) (seen : List EagerMacro) → IsCall tables w answer d → d.site.home < length answer.map.modules
        → IsTold (call_report finished local m d seen)
    told_call d seen c there = record {
      number = d.site.home;
      there = there;
      module_is = ap (λ (id : MapId). numbered id d.site.home) same;
      of_item = subst (λ (node : AstId). IsOfItem tables w answer node) (sym (call_node_is d)) (call_item d c);
    }

    told_calls : (ds : List MacroDirective) (fs : List Fate) (es : List (List EagerMacro)) → AreCallsThere ds
        → AllTold (unresolved_calls finished local m ds fs es)
    told_calls [] fs es f = none_told
    told_calls (d ∷ ds) [] es f = none_told
    told_calls (d ∷ ds) (fates.Waits ∷ fs) es f =
        let first = f d (at_first d ds) in
        let report : DefDiagnostic = call_report finished local m d (eager_among es 0) in
        told_more (report ∷ []) (unresolved_calls finished local m ds fs (drop 1 es)) (one_told report (told_call d (eager_among es 0) first.0 first.1))
        (told_calls ds fs (drop 1 es) (λ e h. f e (later d ds e h)))
    told_calls (d ∷ ds) (fates.Handled ∷ fs) es f = told_calls ds fs (drop 1 es) (λ e h. f e (later d ds e h))
    told_calls (d ∷ ds) (fates.GivenUp ∷ fs) es f = told_calls ds fs (drop 1 es) (λ e h. f e (later d ds e h))

  abbrev AreImportsThere : List ImportDirective → Type 0
  AreImportsThere rs = (r : ImportDirective) → Contains rs r → IsImport tables w from answer r × (r.home < length answer.map.modules)

  told_reports : (names : List (List ℕ)) (rs : List ImportDirective) → AreImportsThere rs → AllTold (reports_of answer.map.id names rs)
  told_reports names [] f = none_told
  told_reports names (r ∷ rs) f =
      let first = f r (0, omega arith, refl) in
      told_more (report_by (numbered answer.map.id r.home) names r.source r.path) (reports_of answer.map.id names rs)
      (told_source names r first.1 r.source first.0.of_source) (told_reports names rs (λ t h. f t (later r rs t h)))

-- what is unresolved was found
unresolved_found : (rs : List ImportDirective) (ts : List TakenValue) (r : ImportDirective) → Contains (unresolved_among rs ts) r → Contains rs r
unresolved_found [] ts r h = h
unresolved_found (x ∷ xs) [] r (n, below, is) = let past : n < 0 = below in absurd (omega arith)
unresolved_found (x ∷ xs) (t ∷ ts) r h = go (is_untaken t) h (λ c. unresolved_found xs ts r c)
  where
    go : (b : Bool) → Contains (cond b (x ∷ unresolved_among xs ts) (unresolved_among xs ts)) r → (Contains (unresolved_among xs ts) r → Contains xs r)
        → Contains (x ∷ xs) r
    go true (zero, below, is) others = (0, omega arith, is)
    go true (suc n, below, is) others = later x xs r (others (n, omega (arith, below), is))
    go false c others = later x xs r (others c)

import_below : (n : ℕ) (rs : List ImportDirective) (r : ImportDirective) → ImportsBelow n rs → Contains rs r → r.home < n
import_below n [] r f (k, below, is) = let past : k < 0 = below in absurd (omega arith)
import_below n (x ∷ xs) r f (zero, below, is) = subst (λ (y : ImportDirective). y.home < n) is f.0
import_below n (x ∷ xs) r f (suc k, below, is) = import_below n xs r f.1 (k, omega (arith, below), is)

module _ (tables : TablesValue) (w : Workspace) (finished : Maps) (from : Beginning) (answer : CollectedValue) (e : Ends tables w finished from answer) where
  same_count : length answer.map.modules ≡ length e.last.core.map.modules
  same_count = ap (λ (m : Map). length m.modules) e.map_is ∙ same_length e.last.core

  begun_in_range : IsInRange (begin_of tables w finished from)
  begun_in_range = in_range-start tables w (read_by w finished from.start) (holders_by finished from.start) from

  last_told : AreTold tables w from answer e.last
  last_told =
      told-Steps tables w from answer (answer_here tables w finished from answer e) (first_written tables w finished from answer e) begun_in_range
      (record { each = none_told tables w from answer })
      (answer_asked tables w finished from answer e) (omega (arith, same_count)) e.derived

  imports_there : AreImportsThere tables w from answer (unresolved_among e.last.core.reached e.last.core.taken)
  imports_there r h =
      let among : Contains e.last.core.reached r = unresolved_found e.last.core.reached e.last.core.taken r h in
      let below : r.home < length e.last.core.map.modules = import_below (length e.last.core.map.modules) e.last.core.reached r
      (in_range-Steps e.derived begun_in_range).imports among in
      (import_written tables w finished from answer e r among, omega (arith, same_count))

  -- the map of the answer is that of the last state
  last_id : e.last.core.map.id ≡ answer.map.id
  last_id = sym (ap (λ (m : Map). m.id) e.map_is ∙ same_id e.last.core)

  leftover_told : AllTold tables w from answer (leftover_diagnostics e.last.core.map e.last.core.reached e.last.core.taken)
  leftover_told =
      let unresolved : List ImportDirective = unresolved_among e.last.core.reached e.last.core.taken in
      subst (λ (id : MapId). AllTold tables w from answer (reports_of id (crates_among [] unresolved) unresolved)) (sym last_id)
      (told_reports tables w from answer (crates_among [] unresolved) unresolved imports_there)

  abbrev left_over : List DefDiagnostic
  left_over =
      unresolved_calls (read_by w finished from.start) e.last.core.local e.last.core.map e.last.core.calls e.last.core.fates e.last.core.eager

  calls_told : AllTold tables w from answer left_over
  calls_told =
      told_calls tables w from answer (read_by w finished from.start) e.last.core.local e.last.core.map last_id e.last.core.calls e.last.core.fates
      e.last.core.eager (λ d h. call_there tables w finished from answer e d h)

  all_told : AllTold tables w from answer answer.map.diagnostics
  all_told =
      let calls : List DefDiagnostic = left_over in
      let imports : List DefDiagnostic = leftover_diagnostics e.last.core.map e.last.core.reached e.last.core.taken in
      subst (λ (ds : List DefDiagnostic). AllTold tables w from answer ds)
      (sym (ap (λ (m : Map). m.diagnostics) e.map_is ∙ ap (λ (ds : List DefDiagnostic). ds ++ (calls ++ imports)) (same_diagnostics e.last.core)))
      (told_more tables w from answer e.last.core.map.diagnostics (calls ++ imports) last_told.each
      (told_more tables w from answer calls imports calls_told leftover_told))

pub diagnostics_are_of_items : DiagnosticsAreOfItems
diagnostics_are_of_items tables w finished from answer e d h = all_told tables w finished from answer e d h
