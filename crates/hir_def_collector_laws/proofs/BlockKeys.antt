-- A crate's run asks for nothing of a block: all that it comes upon is written in trees of files and of expansions.
use Rattle.std.specs.Prelude.{◌≡◌, ◌||◌, ℕ, List, [], ◌∷◌, ◌++◌, Bool, true, false, is_some, Option, None, Some, cond, option_map, slice_get}
use Rattle.std.specs.List.{list_any}
use Rattle.std.proofs.Common.{◌+◌, ◌<◌, zero, suc, Contains, ap, refl, subst, sym, ◌∙◌, arith}
use Rattle.hir_collector_rules.specs.HirBase.ModPath.{Path}
use Rattle.hir_collector_rules.specs.HirIds.declared.ids.AdtId.{AdtId}
use Rattle.hir_collector_rules.specs.HirIds.declared.ast_id.AstId.{AstId}
use Rattle.hir_collector_rules.specs.HirIds.declared.ast_id.AttrId.{AttrId}
use Rattle.hir_collector_rules.specs.HirIds.declared.ast_id.BlockId.{BlockId}
use Rattle.hir_collector_rules.specs.HirIds.declared.ids.Crate.{Crate}
use Rattle.hir_collector_rules.specs.HirIds.declared.edition.Edition.{Edition}
use Rattle.hir_collector_rules.specs.HirIds.declared.macro_kind.MacroId.{MacroId}
use Rattle.hir_collector_rules.specs.HirIds.declared.ids.ModuleId.{ModuleId}
use Rattle.hir_collector_rules.specs.HirIds.declared.macro_kind.MacroId.TheVariants as macros
use Rattle.hir_collector_rules.specs.HirBase.declared.resolve_mode.MacroSubNs.TheVariants.{Bang}
use Rattle.hir_collector_rules.specs.HirBase.declared.tree_id.TreeId.{TreeId}
use Rattle.hir_collector_rules.specs.HirPerNs.PerNs.{Item}
use Rattle.hir_collector_rules.specs.HirPerNs.declared.imports.ImportOrExternCrate.{ImportOrExternCrate}
use Rattle.hir_collector_rules.specs.HirUseTree.UseTree.{count_of}
use Rattle.hir_collector_rules.specs.HirDefMapRules.Closed.{PathsLeadToWhatIsThere}
use Rattle.hir_collector_rules.specs.HirDefMapRules.Overlay.{Maps, overlay}
use Rattle.hir_collector_rules.specs.HirDefMapRules.Scoping.{resolution_of}
use Rattle.hir_collector_rules.specs.HirDefMapRules.Sources.{HoldsNowhere, HoldsOfNone, PathsAnswerFromSources, on_import}
use Rattle.hir_collector_rules.specs.HirDefMapRules.Sources.{on_macro, on_macro_item, on_some, on_visibility}
use Rattle.hir_collector_rules.specs.HirDefMapRules.State.{numbered}
use Rattle.hir_collector_rules.specs.HirDefMapRules.WellFormed.{AreWellFormed}
use Rattle.hir_collector_rules.proofs.HirDefMapRules.NoneOf.{neither, none_at, not_first}
use Rattle.hir_collector_rules.proofs.HirDefMapRules.StaysSourced.{HoldsNowhere-overlay}
use Rattle.hir_collector_rules.specs.HirImportRules.Rules.{acts as import_acts}
use Rattle.hir_collector_rules.specs.HirTables.Tables.{TablesValue}
use Rattle.hir_collector_rules.specs.Attributes.{attr_id, item_node}
use Rattle.hir_collector_rules.specs.Calls.{AreReached, Grown, InnerMacro, IsGrown, asked_first, by_style, called_macro, entry_readings, error_of}
use Rattle.hir_collector_rules.specs.Calls.{expansion_readings, grown_readings, inner_macro, inner_readings, path_of_call, style_of, suited, suits}
use Rattle.hir_collector_rules.specs.Calls.{text_readings}
use Rattle.hir_collector_rules.specs.Changes.{Change, lists, makes, gives_variants, begins_paths, reaches, awaits, ends, settles, changes_imports, adds_textual}
use Rattle.hir_collector_rules.specs.Changes.{takes_textual, defines, describes, helps, lists_derive, notes, exports, uses_macros, tells, goes_on, act}
use Rattle.hir_collector_rules.specs.ItemIds.{macro_rules_id, module_id}
use Rattle.hir_collector_rules.specs.Keys.{Environment, dependency_keys, environment, keys_behind}
use Rattle.hir_collector_rules.specs.ModuleFiles.{LookedAt, Reading, Tried, file_readings, tried_in}
use Rattle.hir_collector_rules.specs.Start.{Beginning, begin_of, block_of, holders_by, krate_of, read_by, start_of}
use Rattle.hir_collector_rules.specs.State.{State, import_state}
use Rattle.hir_collector_rules.specs.Steps.{Rule, drops_item, awaits_attribute, lists_derives, faults_derive, exports_macro, reaches_call, rests}
use Rattle.hir_collector_rules.specs.Steps.{expands_call, meets_macro}
use Rattle.hir_collector_rules.specs.Steps.{drops_call, drops_reached, derives_builtin, skips_attribute, falls_back, defines_rules, defines_macro}
use Rattle.hir_collector_rules.specs.Steps.{closes_module, declares_item, declares_enum, lists_constant, lists_impl, opens_module, opens_file, drops_file}
use Rattle.hir_collector_rules.specs.Steps.{misses_file, enters_block, reaches_imports, reaches_crate, resolves_imports, May, acts, asking, derives_from}
use Rattle.hir_collector_rules.specs.Steps.{keys_read, reads, Step, Steps, none, more}
use Rattle.hir_collector_rules.specs.Workspace.{EntryLook, Workspace, transitive_dependencies_in}
use Rattle.hir_collector_rules.specs.declared.source_database.Key.{Key}
use Rattle.hir_collector_rules.specs.declared.macro_directive.MacroDirective.{MacroDirective}
use Rattle.hir_collector_rules.specs.declared.site.Site.{Site}
use Rattle.hir_collector_rules.specs.declared.start.Start.{Start}
use Rattle.hir_collector_rules.specs.declared.source_database.Key.TheVariants as keys
use Rattle.hir_collector_rules.specs.declared.start.Start.TheVariants as starts
use Rattle.hir_collector_rules.proofs.Changes.{AllFine, all_fine, asked-Step, fine_bringing, fine_expanding, fine_macro, fine_reporting, perform_keeps}
use Rattle.hir_collector_rules.proofs.Holds.{in_range-start}
use Rattle.hir_collector_rules.proofs.InRange.{IsInRange, in_range-Steps}
use Rattle.hir_collector_rules.proofs.Lists.{none_joined}
use Rattle.hir_def_collector_laws.specs.BlockKeys.{CratesAskForNoBlock, block_of_key, in_blocks}
use Rattle.hir_def_collector_laws.specs.Sources.{BeginsClear}
use Rattle.hir_def_collector_laws.proofs.Sourced.{ends_sourced, first_sourced, sourced-Step}
use Rattle.hir_def_collector_laws.proofs.SourcedItems.{next_visits}
use Rattle.hir_def_collector_laws.proofs.SourcedState.{AreClear, IsSourced}
use Rattle.hir_def_collector_laws.proofs.Whole.{begins, steps_keep}
use Rattle.hir_def_collector_laws.proofs.WholeChanges.{NamesWhatIsThere}

-- ---- keys of no block

abbrev macro_in : Option (Item MacroId ImportOrExternCrate) → Option MacroId
macro_in found = option_map (λ (i : Item MacroId ImportOrExternCrate). i.def) found

no_block : (o : Option BlockId) → is_some o ≡ false → o ≡ None
no_block None e = refl
no_block (Some b) e = absurd (let wrong : ⊥ = cc in wrong)

abbrev Blockless : List Key → Type 0
Blockless [] = Unit {0}
Blockless (key ∷ others) = (block_of_key key ≡ None) × Blockless others

both : (xs ys : List Key) → Blockless xs → Blockless ys → Blockless (xs ++ ys)
both [] ys f g = g
both (x ∷ xs) ys f g = (f.0, both xs ys f.1 g)

of_each : (xs : List Key) → Blockless xs → (key : Key) → Contains xs key → block_of_key key ≡ None
of_each [] f key h = absurd (let past : h.0 < 0 = h.1 in omega arith)
of_each (x ∷ xs) f key (zero, within, is) = ap block_of_key (sym is) ∙ f.0
of_each (x ∷ xs) f key (suc n, within, is) = of_each xs f.1 key (n, omega arith, is)

of_dependencies : (crates : List Crate) → Blockless (dependency_keys crates)
of_dependencies [] = tt
of_dependencies (c ∷ cs) = (refl, (refl, of_dependencies cs))

of_crates : (krate : Crate) (transitive : List Crate) → Blockless (keys_behind krate transitive)
of_crates krate transitive = (refl, of_dependencies transitive)

of_files : (krate : Crate) (edition : Edition) (tried : List Tried) → Blockless (keys_read (file_readings krate edition tried))
of_files krate edition [] = tt
of_files krate edition (t ∷ ts) = go t.file (of_files krate edition ts)
  where
    go : (o : Option LookedAt) → Blockless (keys_read (file_readings krate edition ts))
        → Blockless (keys_read (file_readings krate edition (record t { file = o } ∷ ts)))
    go None others = others
    go (Some f) others = (refl, others)

-- what is read of a macro's text is of no block, where the macro is in none
text_blockless : (makro : MacroId) (text : Option (List ℕ)) → on_macro in_blocks makro ≡ false → Blockless (keys_read (text_readings makro text))
text_blockless (macros.Macro2Id id) text e = (no_block id.loc.block e, tt)
text_blockless (macros.MacroRulesId id) text e = (no_block id.loc.block e, tt)
text_blockless (macros.ProcMacroId id) text e = tt

both_read : (xs ys : List Reading) → Blockless (keys_read xs) → Blockless (keys_read ys) → Blockless (keys_read (xs ++ ys))
both_read [] ys f g = g
both_read (x ∷ xs) ys f g = (f.0, both_read xs ys f.1 g)

-- ---- calls that wait

-- whether the node of a call is in a block
abbrev on_node : MacroDirective → Bool
on_node d = is_some d.ast_id.block

-- no call that a change lets wait is
abbrev Written : State → Change → Type 0
Written s (awaits calls) = list_any on_node calls ≡ false
Written s other = Unit {0}

abbrev AreWritten : State → Type 0
AreWritten s = list_any on_node s.core.calls ≡ false

written-act : (s : State) (c : Change) → AreWritten s → Written s c → AreWritten (act s c)
written-act s (awaits calls) f fine = none_joined on_node s.core.calls calls f fine
written-act s other f fine = f

derives_written : (site : Site) (node : AstId) (attr : AttrId) (adt : AdtId) → is_some node.block ≡ false → (index : ℕ) (paths : List Path)
    → list_any on_node (derives_from site node attr adt index paths) ≡ false
derives_written site node attr adt own index [] = refl
derives_written site node attr adt own index (path ∷ paths) =
    neither (is_some node.block) (list_any on_node (derives_from site node attr adt (count_of (index + 1)) paths)) own
    (derives_written site node attr adt own (count_of (index + 1)) paths)

-- ---- steps

-- a run came upon nothing of a block
record IsBlockless (s : State) : Type 0 where
  pub sourced : IsSourced in_blocks s
  pub asked : Blockless s.core.asked
  pub calls : AreWritten s

module _ (answers : PathsAnswerFromSources) (paths : PathsLeadToWhatIsThere) (finished : Maps) (whole : AreWellFormed finished) (nowhere : HoldsNowhere in_blocks finished) where
  module _ (s : State) (inside : IsInRange s) (names : NamesWhatIsThere finished s) (b : IsBlockless s) where
    -- the macro that a call reaches
    called_clear : (d : MacroDirective) (makro : MacroId) → called_macro finished s.core.local s.core.map d ≡ Some makro → on_macro in_blocks makro ≡ false
    called_clear d makro reached = go _ clear.macros reached
      where
        clear : HoldsOfNone in_blocks (resolution_of (overlay finished s.core.map) (by_style (style_of d.kind) s.core.local)
            (numbered s.core.map.id d.site.home) (path_of_call d)).resolved_def
        clear = answers in_blocks (overlay finished s.core.map) (by_style (style_of d.kind) s.core.local) (numbered s.core.map.id d.site.home) (path_of_call d)
            (HoldsNowhere-overlay in_blocks finished s.core.map nowhere b.sourced.map) b.sourced.local

        by : (i : Item MacroId ImportOrExternCrate) → on_macro_item in_blocks i ≡ false → (t : Bool) → cond t (Some i.def) None ≡ Some makro
            → on_macro in_blocks makro ≡ false
        by i f true e =
            let same : i.def ≡ makro = cc in
            subst (λ (m : MacroId). on_macro in_blocks m ≡ false) same
            (not_first (on_macro in_blocks i.def) (on_visibility in_blocks i.vis || on_some (on_import in_blocks) i.import) f)
        by i f false e = absurd (let wrong : ⊥ = cc in wrong)

        go : (o : Option (Item MacroId ImportOrExternCrate)) → on_some (on_macro_item in_blocks) o ≡ false → suited d.kind (macro_in o) ≡ Some makro
            → on_macro in_blocks makro ≡ false
        go None f e = absurd (let wrong : ⊥ = cc in wrong)
        go (Some i) f e = by i f (suits d.kind i.def) e

    -- the macro that a path reaches which a macro asks to have resolved first
    inner_clear : (home : ℕ) (path : Path) (makro : MacroId) → inner_macro finished s.core.local s.core.map home path ≡ Some makro
        → on_macro in_blocks makro ≡ false
    inner_clear home path makro reached = go _ clear.macros reached
      where
        clear : HoldsOfNone in_blocks (resolution_of (overlay finished s.core.map) (by_style Bang s.core.local) (numbered s.core.map.id home) path).resolved_def
        clear = answers in_blocks (overlay finished s.core.map) (by_style Bang s.core.local) (numbered s.core.map.id home) path
            (HoldsNowhere-overlay in_blocks finished s.core.map nowhere b.sourced.map) b.sourced.local

        go : (o : Option (Item MacroId ImportOrExternCrate)) → on_some (on_macro_item in_blocks) o ≡ false → macro_in o ≡ Some makro
            → on_macro in_blocks makro ≡ false
        go None f e = absurd (let wrong : ⊥ = cc in wrong)
        go (Some i) f e =
            let same : i.def ≡ makro = cc in
            subst (λ (m : MacroId). on_macro in_blocks m ≡ false) same
            (not_first (on_macro in_blocks i.def) (on_visibility in_blocks i.vis || on_some (on_import in_blocks) i.import) f)

    -- what is read of those that paths reach
    inner_blockless : (home : ℕ) (reaching : List Path) (reached : List InnerMacro) → AreReached finished s.core.local s.core.map home reaching reached
        → Blockless (keys_read (inner_readings reached))
    inner_blockless home [] [] h = tt
    inner_blockless home [] (i ∷ is) h = absurd h
    inner_blockless home (p ∷ ps) [] h = absurd h
    inner_blockless home (p ∷ ps) (i ∷ is) h =
        both_read (text_readings i.makro i.text) (inner_readings is) (text_blockless i.makro i.text (inner_clear home p i.makro h.0))
        (inner_blockless home ps is h.2)

    grown_blockless : (home : ℕ) (makro : MacroId) (there : EntryLook) (g : Option Grown) → IsGrown finished s.core.local s.core.map home makro there g
        → Blockless (keys_read (grown_readings g))
    grown_blockless home makro there None h = tt
    grown_blockless home makro there (Some g) h = (refl, inner_blockless home (asked_first makro g.there) g.macros h.1)

    call_blockless : (i : ℕ) (d : MacroDirective) → slice_get s.core.calls i ≡ Some d → d.ast_id.block ≡ None
    call_blockless i d at = no_block d.ast_id.block (none_at on_node s.core.calls b.calls i d at)

    -- what a rule reads is of no block
    reads_blockless : (r : Rule) → May finished s r → Blockless (keys_read (reads s r))
    reads_blockless (declares_enum site head name found rest) may =
        (no_block site.tree.block (next_visits in_blocks s.agenda _ rest b.sourced.visits may.next).0, tt)
    reads_blockless (opens_file site head name search f rest) may = of_files s.core.map.id.krate s.core.map.crate_data.edition (tried_in search)
    reads_blockless (drops_file site head name search report rest) may = of_files s.core.map.id.krate s.core.map.crate_data.edition (tried_in search)
    reads_blockless (misses_file site head name search report rest) may = of_files s.core.map.id.krate s.core.map.crate_data.edition (tried_in search)
    reads_blockless (expands_call i d makro x) may =
        both_read (text_readings makro x.text) (expansion_readings s.core.map.id.krate d x)
        (text_blockless makro x.text (called_clear d makro may.called.reaches)) (
          call_blockless i d may.called.due.waiting.call,
          both_read (grown_readings x.grown) (entry_readings s.core.map.id.krate x) (grown_blockless d.site.home makro x.there x.grown may.first)
              (refl, (refl, tt)),
        )
    reads_blockless (meets_macro i d makro x) may =
        both_read (text_readings makro x.text) _ (text_blockless makro x.text (called_clear d makro may.called.reaches))
        (call_blockless i d may.called.due.waiting.call, (refl, tt))
    reads_blockless other may = tt

    -- nor is a call that it lets wait
    brings_written : (r : Rule) → May finished s r → AllFine Written (asking s r) (acts finished s r)
    brings_written (declares_item v d rest) may = (tt, (tt, (tt, tt)))
    brings_written (declares_enum site head name found rest) may = (tt, (tt, (tt, (tt, tt))))
    brings_written (opens_module site head name items rest) may = (tt, (tt, (tt, (tt, (tt, tt)))))
    brings_written (opens_file site head name search f rest) may = (tt, (tt, (tt, (tt, (tt, tt)))))
    brings_written (misses_file site head name search report rest) may = (tt, (tt, (tt, (tt, (tt, (tt, tt))))))
    brings_written (reaches_imports site head tree rest) may = (tt, (tt, (tt, tt)))
    brings_written (reaches_crate site head name alias rest) may = (tt, (tt, (tt, (tt, (tt, tt)))))
    brings_written (defines_rules site head name expander helpers rest) may =
        (tt, (tt, (tt, (tt, fine_macro Written _ _ expander (λ at. tt) head name (macro_rules_id s.core.map site head.id expander) (λ at. tt) _))))
    brings_written (defines_macro site head name expander helpers rest) may = (tt, (tt, (tt, (tt, (tt, fine_reporting Written _ _ expander (λ at. tt) _)))))
    brings_written (awaits_attribute v a k rest) may =
        (tt, (neither (is_some v.site.tree.block) false (next_visits in_blocks s.agenda v rest b.sourced.visits may.has.on.next).0 refl, tt))
    brings_written (lists_derives v at a adt ps call rest) may = (
      tt,
      (
        derives_written v.site (item_node v.site v.item) (attr_id a) adt (next_visits in_blocks s.agenda v rest b.sourced.visits may.has.on.next).0 0 ps,
        (tt, tt),
      ),
    )
    brings_written (exports_macro site head name d e rest) may = (tt, (tt, (tt, (tt, (tt, (tt, (tt, tt)))))))
    brings_written (reaches_call site head path rest) may =
        (tt, (neither (is_some site.tree.block) false (next_visits in_blocks s.agenda _ rest b.sourced.visits may.next).0 refl, tt))
    brings_written (meets_macro i d makro x) may = (tt, tt)
    brings_written rests may = (tt, tt)
    brings_written (expands_call i d makro x) may =
        (tt, (tt, (tt, fine_expanding Written _ (λ at helper. tt) _ (module_id s.core.map d.site.home) d (error_of x.there) (λ at text. tt) _)))
    brings_written (drops_call i d) may = (tt, tt)
    brings_written (drops_reached i d makro) may = (tt, fine_bringing Written _ (λ at helper. tt) _ _)
    brings_written (derives_builtin i d makro imp) may = (tt, (tt, (tt, fine_bringing Written _ (λ at helper. tt) _ _)))
    brings_written (falls_back i d k item) may = (tt, (tt, (tt, tt)))
    brings_written (resolves_imports rule) may = all_fine Written (λ at c. tt) (import_acts finished (import_state s) rule) _
    brings_written other may = (tt, (tt, tt))

    blockless-Step : (env : Environment) (new : State) → Step env finished s new → IsBlockless new
    blockless-Step env new step =
        let asked : Blockless new.core.asked =
        subst Blockless (sym (asked-Step step)) (both s.core.asked (keys_read (reads s step.rule)) b.asked (reads_blockless step.rule step.may)) in
        let clear : AreClear in_blocks new = λ key h. ap (λ (o : Option BlockId). is_some o) (of_each new.core.asked asked (keys.Tree key) h) in
        record {
          sourced = sourced-Step in_blocks answers paths finished whole nowhere s inside names (λ at there. refl) b.sourced env new step clear;
          asked = asked;
          calls =
              subst AreWritten (sym step.is) (perform_keeps AreWritten Written written-act (acts finished s step.rule) (asking s step.rule) b.calls
              (brings_written step.rule step.may));
        }

  all_blockless : (env : Environment) (from to : State) → IsInRange from → NamesWhatIsThere finished from → IsBlockless from → Steps env finished from to
      → IsBlockless to
  all_blockless env from to inside names first none = first
  all_blockless env from to inside names first (more old new before last) =
      blockless-Step old (in_range-Steps before inside) (steps_keep paths finished whole env from old inside names before)
      (all_blockless env from old inside names first before) env new last

-- ---- a crate's run

-- it begins with the tree of a file
first_blockless : (finished : Maps) → HoldsNowhere in_blocks finished → (tables : TablesValue) (w : Workspace) (from : Beginning) (start : Start)
    → block_of start ≡ None → from.tree.block ≡ None
    → IsBlockless (start_of tables w finished (holders_by finished start) (record from { start = start }))
first_blockless finished nowhere tables w from (starts.Crate krate root) own fileless = record {
  sourced =
      first_sourced in_blocks finished nowhere tables w (holders_by finished (starts.Crate krate root)) (record from { start = starts.Crate krate root }) tt
      (ap (λ (o : Option BlockId). is_some o) fileless);
  asked = (fileless, tt);
  calls = refl;
}
first_blockless finished nowhere tables w from (starts.Block krate block holder at) own fileless = absurd (let wrong : ⊥ = cc in wrong)

begins_clear : (finished : Maps) (start : Start) (tree : TreeId) → block_of start ≡ None → BeginsClear in_blocks finished start tree
begins_clear finished (starts.Crate krate root) tree own = tt
begins_clear finished (starts.Block krate block holder at) tree own = absurd (let wrong : ⊥ = cc in wrong)

pub none_asked : PathsAnswerFromSources → PathsLeadToWhatIsThere → CratesAskForNoBlock
none_asked answers paths tables w all from answer whole stands e own fileless nowhere =
    let finished : Maps = read_by w all from.start in
    let holders : List ModuleId = holders_by all from.start in
    let begun : State = begin_of tables w all from in
    let names : NamesWhatIsThere finished begun = begins paths finished whole tables w holders from stands in
    let no_holders : holders_by all from.start ≡ holders_by finished from.start = no_holder all finished from.start own in
    let first : IsBlockless begun =
    subst (λ (hs : List ModuleId). IsBlockless (start_of tables w finished hs from)) (sym no_holders)
    (first_blockless finished nowhere tables w from from.start own fileless) in
    let last : IsBlockless e.last = all_blockless answers paths finished whole nowhere (environment tables w) begun e.last
    (in_range-start tables w finished holders from) names first e.derived in
    let transitive : List Crate = transitive_dependencies_in w (krate_of from.start) in
    let asked : Blockless answer.asked =
    subst Blockless (sym e.asked_is) (both e.last.core.asked (keys_behind (krate_of from.start) transitive) last.asked
    (of_crates (krate_of from.start) transitive)) in (
      of_each answer.asked asked,
      (ends_sourced in_blocks answers paths finished whole tables w all from answer refl stands (begins_clear finished from.start from.tree own) e (record {
        written = λ key h. ap (λ (o : Option BlockId). is_some o) (of_each answer.asked asked (keys.Tree key) h);
        shown = λ m there. refl;
        read = nowhere;
      })).0,
    )
  where
    no_holder : (xs ys : Maps) (start : Start) → block_of start ≡ None → holders_by xs start ≡ holders_by ys start
    no_holder xs ys (starts.Crate krate root) is_crate = refl
    no_holder xs ys (starts.Block krate block holder at) is_crate = absurd (let wrong : ⊥ = cc in wrong)
