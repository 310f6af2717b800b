-- Steps by which what waits is expanded, dropped, derived or given up, and by which imports rest.
use Rattle.std.specs.Prelude.{IsSome, Bool, true, false, Contains, cond, option_map, unwrap_or}
use Rattle.std.specs.Option.{option_and_then}
use Rattle.std.proofs.Common.{◌≡◌, ◌∙◌, ◌+◌, ℕ, ◌<◌, ◌≤◌, List, [], ◌∷◌, ◌++◌, length, slice_get, slice_set, Option, None, Some, inl, refl, sym, ap, subst}
use Rattle.std.proofs.Common.{arith, append-nil}
use Rattle.std.proofs.lemmas.List.Elements.{Contains-push}
use Rattle.hir_collector_state.specs.HirBase.ModPath.{Path}
use Rattle.either.specs.declared.Either.TheVariants as either
use Rattle.hir_collector_state.specs.HirIds.Ids.{macro_module}
use Rattle.hir_collector_state.specs.HirIds.contracts.ids.MapIdPartialEq.TheImpl as map_id
use Rattle.hir_collector_state.specs.HirIds.declared.ast_id.AstId.{AstId}
use Rattle.hir_collector_state.specs.HirIds.declared.macro_kind.BuiltinDeriveImplId.{BuiltinDeriveImplId}
use Rattle.hir_collector_state.specs.HirIds.declared.ast_id.MacroCallId.{MacroCallId}
use Rattle.hir_collector_state.specs.HirIds.declared.macro_kind.MacroId.{MacroId}
use Rattle.hir_collector_state.specs.HirIds.declared.ids.MapId.{MapId}
use Rattle.hir_collector_state.specs.HirIds.declared.ids.ModuleId.{ModuleId}
use Rattle.hir_collector_state.specs.HirItemTree.KeptForest.{KeptForest, KeptItem, all_items}
use Rattle.hir_collector_state.specs.HirItemTree.Rows.{items_at, numbers_of}
use Rattle.hir_collector_state.specs.HirItemTree.SourceTree.{SourceTreeValue}
use Rattle.hir_collector_state.specs.HirItemTree.declared.rows.ModItemId.{ModItemId}
use Rattle.hir_collector_state.specs.HirTables.Tables.{KeepsTables, TablesValue}
use Rattle.hir_collector_state.proofs.HirTables.Growth.{KeepsTables-trans}
use Rattle.hir_collector_state.specs.HirDefMapRules.Macros.{macro_data_at, with_diagnostic}
use Rattle.hir_collector_state.specs.HirDefMapRules.Overlay.{Maps, Placed, placed_in}
use Rattle.hir_collector_state.specs.HirDefMapRules.State.{MacroDataValue, Map, numbered}
use Rattle.hir_collector_state.specs.HirMapParts.declared.derive_helpers.DeriveHelper.{DeriveHelper}
use Rattle.hir_collector_state.specs.HirImportRules.Rest.{IsAtRest}
use Rattle.hir_collector_state.specs.HirCollectorRules.declared.start.TheConstants.{STEP_LIMIT}
use Rattle.hir_collector_state.specs.HirCollectorRules.declared.macro_directive.EagerMacro.{EagerMacro}
use Rattle.hir_collector_state.specs.HirCollectorRules.declared.macro_directive.Fate.{Fate}
use Rattle.hir_collector_state.specs.HirCollectorRules.declared.macro_directive.MacroDirective.{MacroDirective}
use Rattle.hir_collector_state.specs.HirCollectorRules.declared.site.Site.{Site}
use Rattle.hir_collector_state.specs.HirCollectorRules.declared.source_database.Key.{Key}
use Rattle.hir_collector_state.specs.HirCollectorRules.declared.macro_directive.WaitingItem.{WaitingItem}
use Rattle.hir_collector_state.specs.HirCollectorRules.declared.macro_directive.Fate.TheVariants.{GivenUp, Handled, Waits}
use Rattle.hir_collector_state.specs.HirCollectorRules.CallMoves.{NoneWaitsBefore, OnlyMeets, Rested, RestsTooFar, SeesCall, SeesEager, already, moved}
use Rattle.hir_collector_state.specs.HirCollectorRules.Calls.{DerivedCall, EagerLook, Expanding, IsMeantAt, IsWaiting, LacksMacro, LeadsNowhere}
use Rattle.hir_collector_state.specs.HirCollectorRules.Calls.{asked_first, call_site, eager_readings, error_of, helpers_brought, helpers_by, inner_macro}
use Rattle.hir_collector_state.specs.HirCollectorRules.Calls.{is_inert_now, is_same_macro, lacks_inner}
use Rattle.hir_collector_state.specs.HirCollectorRules.Calls.{helpers_of, item_kept, kept_of, waiting_item}
use Rattle.hir_collector_state.specs.HirCollectorRules.Changes.{Change, act, helps, perform, with_derived}
use Rattle.hir_collector_state.specs.HirCollectorRules.Derivation.{IsSpent, counted_out, numbered_out}
use Rattle.hir_collector_state.specs.HirCollectorRules.Invocations.{Invocation, impl_noted, invocation_of, with_noted}
use Rattle.hir_collector_state.specs.HirCollectorRules.ItemIds.{module_id}
use Rattle.hir_collector_state.specs.HirCollectorRules.Keys.{Environment, environment}
use Rattle.hir_collector_state.specs.HirCollectorRules.NumberedOut.{LacksExpansion, lacks_call}
use Rattle.hir_collector_state.specs.HirCollectorRules.Moves.{Makes, OnceGrown, Walks, WalksTooFar}
use Rattle.hir_collector_state.specs.HirCollectorRules.State.{Core, State, Task, at_rest, behind, counted, eager_at, import_state}
use Rattle.hir_collector_state.specs.HirCollectorRules.State.{joined, ticked, visit, visits, visits_over, with_fate}
use Rattle.hir_collector_state.specs.HirCollectorRules.State.{with_eager, with_map, with_settled}
use Rattle.hir_collector_state.specs.HirCollectorRules.Steps.{CallsMacro, DerivesBuiltin, Expands, FallsBack, IsDeep, IsQuiet, MeetsEager, keys_read}
use Rattle.hir_collector_state.specs.HirCollectorRules.Steps.{meets_macro, with_keys}
use Rattle.hir_collector_state.specs.HirCollectorRules.Steps.{IsReachedDeep, May, MayRest, Numbered, Rule, Sees}
use Rattle.hir_collector_state.specs.HirCollectorRules.Steps.{Skips, Step, Steps, bringing, derives_builtin, drops_call}
use Rattle.hir_collector_state.specs.HirCollectorRules.Steps.{drops_reached, expands_call, failing, falls_back, none}
use Rattle.hir_collector_state.specs.HirCollectorRules.Steps.{reads, rests, site_behind, skips_attribute, visit_behind}
use Rattle.hir_collector_state.specs.HirCollectorRules.TreeReads.{visits_at, visits_behind, visits_found}
use Rattle.hir_collector_state.specs.HirCollectorRules.Workspace.{TreeLook, Workspace}
use Rattle.hir_collector_state.specs.HirCollectorRules.Reports.{call_report}
use Rattle.hir_collector_state.proofs.HirCollectorRules.Changes.{Keeps-perform, perform-append}
use Rattle.hir_collector_state.proofs.HirCollectorRules.Grows.{Grows-Step}
use Rattle.hir_collector_state.proofs.HirCollectorRules.Lists.{get_inside, get_set_same}
use Rattle.hir_collector_state.proofs.Made.{Goes, count_kept, goes, made}
use Rattle.hir_collector_state.proofs.HirCollectorRules.Moves.{Steps-first, Steps-one, spent_after}
use Rattle.hir_collector_state.proofs.HirCollectorRules.Numbers.{tables_stay}
use Rattle.hir_collector_state.proofs.HirCollectorRules.Tried.{handled_stays}

-- ---- numbers

-- a call might be expanded, but that it or its expansion can't get a number
pub spent_by_numbers : (tables : TablesValue) (w : Workspace) (finished : Maps) (c : Core) (i : ℕ) (d : MacroDirective) (makro : MacroId)
    → CallsMacro finished (at_rest c) i d makro → d.site.level < c.map.crate_data.recursion_limit
    → OnceGrown tables w (λ env. LacksExpansion env finished c.local c.map d makro)
    → OnceGrown tables w (λ env. IsSpent env finished (at_rest c))
spent_by_numbers tables w finished c i d makro called shallow lacks = λ grown kept. record {
  at = at_rest c;
  steps = none;
  stuck = numbered_out (lacks_call (record { place = i; call = d; makro = makro; called = called; shallow = shallow; expansion = lacks grown kept }));
}

-- ---- changes of helpers and diagnostics

-- changes that are made one after another
pub makes_append : (cs ds : List Change) (c d e : Core) → Makes cs c d → Makes ds d e → Makes (cs ++ ds) c e
makes_append cs ds c d e first then_ = record {
  is = λ rest. then_.is rest ∙ ap (λ (s : State). perform s ds) (first.is rest) ∙ sym (perform-append cs ds (joined c rest));
}

-- helpers and a report leave what becomes of what waits
fates_bringing : (node : AstId) (helpers : List DeriveHelper) (s : State) → (perform s (bringing node helpers)).core.fates ≡ s.core.fates
fates_bringing node [] s = refl
fates_bringing node (helper ∷ helpers) s = fates_bringing node helpers (act s (helps node helper))

-- where helpers are brought alone, the fate that was set is there
pub fate_helped : (c ended helped new : Core) (i : ℕ) (node : AstId) (helpers : List DeriveHelper) → slice_get c.fates i ≡ Some Waits → ended.fates
    ≡ slice_set c.fates i Handled
    → Makes (bringing node helpers) ended helped → new ≡ counted helped → slice_get new.fates i ≡ Some Handled
fate_helped c ended helped new i node helpers waits set brings ticks =
    ap (λ (n : Core). slice_get n.fates i) ticks
    ∙ ap (λ (fs : List Fate). slice_get fs i) (ap (λ (s : State). s.core.fates) (brings.is []) ∙ fates_bringing node helpers (joined ended []) ∙ set)
    ∙ get_set_same c.fates i Handled (get_inside c.fates i Waits waits)

fates_failing : (at : ModuleId) (d : MacroDirective) (error : Option (List ℕ)) (s : State) → (perform s (failing at d error)).core.fates ≡ s.core.fates
fates_failing at d None s = refl
fates_failing at d (Some error) s = refl

-- ---- what is noted of calls leaves what is kept of macros

kept_noted : (finished : Maps) (m : Map) (home : ℕ) (invocation : Invocation) (makro : MacroId) → kept_of finished (with_noted m home invocation) makro
    ≡ kept_of finished m makro
kept_noted finished m home invocation makro = go (map_id.ghosts.eq (macro_module makro).map m.id)
  where
    go : (b : Bool) → option_and_then (λ (own : Map). macro_data_at own makro)
        (option_map (λ (p : Placed). p.map) (cond b (Some (placed_in finished (with_noted m home invocation))) (finished (macro_module makro).map)))
        ≡ option_and_then (λ (own : Map). macro_data_at own makro)
        (option_map (λ (p : Placed). p.map) (cond b (Some (placed_in finished m)) (finished (macro_module makro).map)))
    go true = refl
    go false = refl

-- so the helpers of a derive are the same
helpers_noted : (finished : Maps) (m : Map) (home : ℕ) (invocation : Invocation) (d : MacroDirective) (makro : MacroId) (became : DerivedCall)
    → helpers_brought finished (with_noted m home invocation) d makro became ≡ helpers_brought finished m d makro became
helpers_noted finished m home invocation d makro became =
    ap (λ (what : Option MacroDataValue). helpers_by d.kind (helpers_of what) makro became) (kept_noted finished m home invocation makro)

-- ---- a call, a path of a derive or an attribute is expanded

module _ (tables : TablesValue) (w : Workspace) (finished : Maps) (c asked : Core) (i : ℕ) (d : MacroDirective) (makro : MacroId) (x : Expanding) (source : SourceTreeValue)
    (sees : SeesCall tables w finished d makro c asked x source) (called : CallsMacro finished (at_rest c) i d makro)
    (shallow : d.site.level < c.map.crate_data.recursion_limit) where
  may : Expands finished (at_rest c) i d makro x
  may = record { called = called; shallow = shallow; text = sees.text; first = sees.first }

  abbrev items : List Task
  items = visits_over (call_site d x.id) x.tree.tree.items

  -- the helpers that it brings, and what is told of it
  abbrev helped : List Change
  helped = bringing d.ast_id (helpers_brought finished c.map d makro (Some (either.Left x.id)))

  abbrev told : List Change
  told = failing (module_id c.map d.site.home) d (error_of x.there)

  -- it is noted in its module
  abbrev once_noted : Core → Core
  once_noted e = with_map e (with_noted e.map d.site.home (invocation_of d x.id))

  -- one step comes to where the items of the expansion are to be visited
  pub expanded : (ended noted reported new : Core) → ended ≡ with_fate asked i Handled → noted ≡ once_noted ended → Makes (helped ++ told) noted reported → new
      ≡ counted reported
      → OnceGrown tables w (λ env. Step env finished (at_rest c) (joined new (visits_over (call_site d x.id) source.tree.items)))
  expanded ended noted reported new handled notes tells ticks = λ grown kept.
      subst (λ (look : TreeLook). Step (environment grown w) finished (at_rest c) (joined new (visits_over (call_site d x.id) look.tree.items))) sees.tree
      (made (expands_call i d makro x) may (sees.sees grown kept finished) (sees.numbered grown kept)
      (ap (λ (n : Core). joined n items) ticks ∙ ap ticked (tells.is items)
      ∙ ap (λ (e : Core). ticked (perform (joined e items) (helped ++ told)))
      (notes ∙ ap once_noted (handled ∙ ap (λ (a : Core). with_fate a i Handled) sees.asked))))

  -- as many as are counted were taken already, and the call might be expanded
  pub expanded_past : STEP_LIMIT ≤ c.count → OnceGrown tables w (λ env. IsSpent env finished (at_rest c))
  expanded_past full = λ grown kept.
      let next : Goes (environment grown w) finished (at_rest c) = goes (expands_call i d makro x) may (sees.sees grown kept finished)
      (sees.numbered grown kept) in
      record { at = at_rest c; steps = none; stuck = counted_out next.next next.step (inl full) }

  -- what becomes of what waits is what it was
  fates_told : (noted reported : Core) → Makes (helped ++ told) noted reported → reported.fates ≡ noted.fates
  fates_told noted reported tells =
      ap (λ (s : State). s.core.fates) (tells.is [] ∙ perform-append helped told (joined noted []))
      ∙ fates_failing (module_id c.map d.site.home) d (error_of x.there) (perform (joined noted []) helped)
      ∙ fates_bringing d.ast_id (helpers_brought finished c.map d makro (Some (either.Left x.id))) (joined noted [])

-- it is expanded as the program does it: it is handled and noted, its helpers are brought, its failure reported, and its items are visited
module _ (tables : TablesValue) (w : Workspace) (finished : Maps) (c asked : Core) (i : ℕ) (d : MacroDirective) (makro : MacroId) (x : Expanding) (source : SourceTreeValue)
    (sees : SeesCall tables w finished d makro c asked x source) (called : CallsMacro finished (at_rest c) i d makro)
    (shallow : d.site.level < c.map.crate_data.recursion_limit)
    (ended noted brought reported : Core) (id : MacroCallId) (error : Option (List ℕ)) (ends : ended ≡ with_fate asked i Handled) (is_id : id ≡ x.id)
    (is_error : error ≡ error_of x.there)
    (notes : noted ≡ with_map ended (with_noted ended.map d.site.home (invocation_of d id)))
    (brings : Makes (bringing d.ast_id (helpers_brought finished noted.map d makro (Some (either.Left id)))) noted brought)
    (tells : Makes (failing (module_id brought.map d.site.home) d error) brought reported) where
  -- it was handled
  from_start : ended ≡ with_fate (record c { asked = asked.asked }) i Handled
  from_start = ends ∙ ap (λ (a : Core). with_fate a i Handled) (sees.asked ∙ sym (ap (λ (a : Core). record c { asked = a.asked }) sees.asked))

  same_map : ended.map ≡ c.map
  same_map = ap (λ (e : Core). e.map) from_start

  -- it was noted
  is_noted : noted ≡ once_noted tables w finished c asked i d makro x source sees called shallow ended
  is_noted = notes ∙ ap (λ (n : MacroCallId). with_map ended (with_noted ended.map d.site.home (invocation_of d n))) is_id

  -- its helpers are those that the rule brings
  brings_helped : Makes (helped tables w finished c asked i d makro x source sees called shallow) noted brought
  brings_helped =
      subst (λ (hs : List DeriveHelper). Makes (bringing d.ast_id hs) noted brought)
      (ap (λ (n : Core). helpers_brought finished n.map d makro (Some (either.Left x.id))) is_noted
      ∙ helpers_noted finished ended.map d.site.home (invocation_of d x.id) d makro (Some (either.Left x.id))
      ∙ ap (λ (m : Map). helpers_brought finished m d makro (Some (either.Left x.id))) same_map)
      (subst (λ (n : MacroCallId). Makes (bringing d.ast_id (helpers_brought finished noted.map d makro (Some (either.Left n)))) noted brought) is_id brings)

  same_own : brought.map.id ≡ c.map.id
  same_own =
      ap (λ (s : State). s.core.map.id) (brings_helped.is [])
      ∙ (Keeps-perform (helped tables w finished c asked i d makro x source sees called shallow) (joined noted [])).id ∙ ap (λ (n : Core). n.map.id) is_noted
      ∙ ap (λ (m : Map). m.id) same_map

  -- and so is what is told
  tells_told : Makes (told tables w finished c asked i d makro x source sees called shallow) brought reported
  tells_told =
      subst (λ (own : MapId). Makes (failing (numbered own d.site.home) d (error_of x.there)) brought reported) same_own
      (subst (λ (e : Option (List ℕ)). Makes (failing (module_id brought.map d.site.home) d e) brought reported) is_error tells)

  both : Makes (helped tables w finished c asked i d makro x source sees called shallow ++ told tables w finished c asked i d makro x source sees called
      shallow) noted reported
  both = makes_append _ _ noted brought reported brings_helped tells_told

  -- as many as are counted were taken already
  pub past_reported : STEP_LIMIT ≤ reported.count → OnceGrown tables w (λ env. IsSpent env finished (at_rest c))
  past_reported full =
      let same : reported.count ≡ c.count = count_kept _ noted reported both ∙ ap (λ (n : Core). n.count) is_noted ∙ ap (λ (e : Core). e.count) from_start in
      expanded_past tables w finished c asked i d makro x source sees called shallow (subst (λ (n : ℕ). STEP_LIMIT ≤ n) same full)

  module _ (new : Core) (ticks : new ≡ counted reported) where
    one_step : OnceGrown tables w (λ env. Step env finished (at_rest c) (joined new (visits_over (call_site d x.id) source.tree.items)))
    one_step = expanded tables w finished c asked i d makro x source sees called shallow ended noted reported new ends is_noted both ticks

    longer : length c.map.modules ≤ length new.map.modules
    longer = (Grows-Step (one_step tables (tables_stay tables))).longer

    fate_now : slice_get new.fates i ≡ Some Handled
    fate_now =
        ap (λ (n : Core). slice_get n.fates i) ticks ∙ ap (λ (fs : List Fate). slice_get fs i) (fates_told tables w finished c asked i d makro x source sees
        called shallow noted reported both)
        ∙ ap (λ (n : Core). slice_get n.fates i) is_noted ∙ ap (λ (e : Core). slice_get e.fates i) from_start ∙ get_set_same c.fates i Handled
        (get_inside c.fates i Waits called.due.waiting.waits)

    module _ (site : Site) (ids : List ModItemId) (is_site : site ≡ call_site d id) (all : items_at (all_items source.tree.items) (numbers_of ids) ≡ source.tree.items) where
      at_call : site ≡ call_site d x.id
      at_call = is_site ∙ ap (call_site d) is_id

      -- the items are visited in the module of the call, and their site means something
      pub site_inside : d.site.home < length c.map.modules → site.home < length new.map.modules
      site_inside inside = subst (λ (s : Site). s.home < length new.map.modules) (sym at_call) (omega (arith, inside, longer))

      pub site_meant : IsMeantAt tables site
      site_meant = subst (IsMeantAt tables) (sym at_call) sees.written

      visits_same : visits_at source.tree site (numbers_of ids) ++ [] ≡ visits_over (call_site d x.id) source.tree.items
      visits_same =
          append-nil (visits_at source.tree site (numbers_of ids)) ∙ ap (λ (items : KeptForest). visits_over site items) all
          ∙ ap (λ (s : Site). visits_over s source.tree.items) at_call

      module _ (later : TablesValue) (kept : KeepsTables tables later) (v : Workspace) (same : v ≡ w) where
        -- then they are
        pub expanded_and_walked : (last : Core) → OnceGrown later v (λ env. Walks env finished new last (visits_at source.tree site (numbers_of ids)))
            → OnceGrown later w (λ env. Steps env finished (at_rest c) (at_rest last))
        expanded_and_walked last walks = λ grown k.
            let on : Walks (environment grown w) finished new last (visits_at source.tree site (numbers_of ids)) =
            subst (λ (u : Workspace). Walks (environment grown u) finished new last (visits_at source.tree site (numbers_of ids))) same (walks grown k) in
            Steps-first (one_step grown (KeepsTables-trans tables later grown kept k))
            (subst (λ (ts : List Task). Steps (environment grown w) finished (joined new ts) (at_rest last)) visits_same (on.steps []))

        pub expanded_too_far : OnceGrown later v (λ env. WalksTooFar env finished new (visits_at source.tree site (numbers_of ids)))
            → OnceGrown later w (λ env. IsSpent env finished (at_rest c))
        expanded_too_far far = λ grown k.
            let on : WalksTooFar (environment grown w) finished new (visits_at source.tree site (numbers_of ids)) =
            subst (λ (u : Workspace). WalksTooFar (environment grown u) finished new (visits_at source.tree site (numbers_of ids))) same (far grown k) in
            spent_after (Steps-one (one_step grown (KeepsTables-trans tables later grown kept k)))
            (subst (λ (ts : List Task). IsSpent (environment grown w) finished (joined new ts)) visits_same (on.spent []))

        -- the call stays handled
        pub handled_at_last : (last : Core) → OnceGrown later v (λ env. Walks env finished new last (visits_at source.tree site (numbers_of ids)))
            → slice_get last.fates i ≡ Some Handled
        handled_at_last last walks =
            let on : Walks (environment later v) finished new last (visits_at source.tree site (numbers_of ids)) = walks later (tables_stay later) in
            handled_stays (on.steps []) i fate_now

-- ---- a call meets an eager macro, and waits for a path

module _ (tables : TablesValue) (w : Workspace) (finished : Maps) (c asked met new : Core) (i : ℕ) (d : MacroDirective) (makro : MacroId) (x : EagerLook)
    (sees : SeesEager tables w finished d makro c asked x) (called : CallsMacro finished (at_rest c) i d makro)
    (shallow : d.site.level < c.map.crate_data.recursion_limit) (path : Path) (among : Contains (asked_first makro x.there) path)
    (missing : inner_macro finished c.local c.map d.site.home path ≡ None)
    (meets : met ≡ with_eager asked i (record { makro = makro; inner = asked_first makro x.there })) (ticks : new ≡ counted met) where
  abbrev note : EagerMacro
  note = record { makro = makro; inner = asked_first makro x.there }

  may_meet : MeetsEager finished (at_rest c) i d makro x
  may_meet = record { called = called; shallow = shallow; text = sees.text; path = path; asked = among; missing = missing }

  abbrev asked_keys : List Key
  asked_keys = with_keys c.asked (keys_read (eager_readings c.map.id.krate d makro x))

  abbrev later : Core
  later = counted (with_eager (record c { asked = asked_keys }) i note)

  is_met : new ≡ later
  is_met = ticks ∙ ap counted (meets ∙ ap (λ (a : Core). with_eager a i note) sees.asked)

  -- one step
  pub meets_step : OnceGrown tables w (λ env. Step env finished (at_rest c) (at_rest new))
  meets_step = λ grown kept. made (meets_macro i d makro x) may_meet (sees.sees grown kept finished) (sees.numbered grown kept) (ap at_rest is_met)

  -- nothing else was done
  pub only_meets : OnlyMeets c new
  only_meets = record { eager = slice_set c.eager i (eager_at c i ++ note ∷ []); asked = asked_keys; count = c.count + 1; is = is_met }

  -- it leads nowhere
  pub meets_nowhere : i < length c.eager → is_same_macro makro makro ≡ true → LeadsNowhere finished (at_rest new) i
  meets_nowhere inside itself =
      subst (λ (n : Core). LeadsNowhere finished (at_rest n) i) (sym is_met) (record {
        shallow = λ e waiting call. subst (λ (y : MacroDirective). y.site.level < c.map.crate_data.recursion_limit) (same e waiting.call) shallow;
        nowhere = λ e waiting. subst (LacksMacro finished later i) (same e waiting.call) lacks;
        active = λ e waiting. subst (λ (y : MacroDirective). is_inert_now c.map y ≡ false) (same e waiting.call) called.active;
      })
    where
      same : (e : MacroDirective) → slice_get c.calls i ≡ Some e → d ≡ e
      same e at = let first : slice_get c.calls i ≡ Some d = called.due.waiting.call in cc

      noted : Contains (eager_at later i) note
      noted =
          subst (λ (o : Option (List EagerMacro)). Contains (unwrap_or o []) note)
          (sym (get_set_same c.eager i (eager_at c i ++ note ∷ []) inside)) (Contains-push (eager_at c i) note)

      lacks : LacksMacro finished later i d
      lacks = lacks_inner makro note path called.reaches noted itself among missing

-- ---- what waits is dropped, or stands for an impl, and imports rest

module _ (env : Environment) (finished : Maps) (c : Core) where
  -- as many as are counted were taken already, and a rule might be applied
  pub past_rule : (r : Rule) → May finished (at_rest c) r → Sees env finished (reads (at_rest c) r) → Numbered env.tables (at_rest c) r → STEP_LIMIT ≤ c.count
      → IsSpent env finished (at_rest c)
  past_rule r may sees numbers full =
      let next : Goes env finished (at_rest c) = goes r may sees numbers in
      record { at = at_rest c; steps = none; stuck = counted_out next.next next.step (inl full) }

  pub dropped : (i : ℕ) (d : MacroDirective) (new : Core) → IsDeep (at_rest c) i d → new ≡ counted (with_fate c i Handled) → Steps env finished (at_rest c)
      (at_rest new)
  dropped i d new may is = Steps-one (made (drops_call i d) may tt tt (ap at_rest is))

  -- one that reaches a macro brings its helpers
  pub dropped_reached : (i : ℕ) (d : MacroDirective) (makro : MacroId) (ended helped new : Core) → IsReachedDeep finished (at_rest c) i d makro → ended
      ≡ with_fate c i Handled
      → Makes (bringing d.ast_id (helpers_brought finished ended.map d makro None)) ended helped → new ≡ counted helped → Steps env finished (at_rest c)
      (at_rest new)
  dropped_reached i d makro ended helped new may handled brings ticks =
      let same : Makes (bringing d.ast_id (helpers_brought finished c.map d makro None)) ended helped =
      subst (λ (m : Map). Makes (bringing d.ast_id (helpers_brought finished m d makro None)) ended helped) (ap (λ (e : Core). e.map) handled) brings in
      Steps-one (made (drops_reached i d makro) may tt tt
      (ap at_rest ticks ∙ ap ticked (same.is []) ∙ ap
      (λ (e : Core). ticked (perform (at_rest e) (bringing d.ast_id (helpers_brought finished c.map d makro None)))) handled))

  -- a path of a derive that reaches a builtin macro stands for an impl
  pub derived : (i : ℕ) (d : MacroDirective) (makro : MacroId) (imp : BuiltinDeriveImplId) (ended listed noted helped new : Core)
      → DerivesBuiltin finished (at_rest c) i d makro imp
      → ended ≡ with_fate c i Handled → listed ≡ with_map ended (with_derived ended.map d.site.home imp) → noted
      ≡ with_map listed (with_noted listed.map d.site.home (impl_noted d.ast_id imp))
      → Makes (bringing d.ast_id (helpers_brought finished c.map d makro (Some (either.Right imp)))) noted helped → new ≡ counted helped
      → Steps env finished (at_rest c) (at_rest new)
  derived i d makro imp ended listed noted helped new may handled is_listed is_noted is_helped ticks =
      Steps-one (made (derives_builtin i d makro imp) may tt tt
      (ap at_rest ticks ∙ ap ticked (is_helped.is [])
      ∙ ap (λ (l : Core). ticked (perform (at_rest l) (bringing d.ast_id (helpers_brought finished c.map d makro (Some (either.Right imp))))))
      (is_noted ∙ ap (λ (l : Core). with_map l (with_noted l.map d.site.home (impl_noted d.ast_id imp)))
      (is_listed ∙ ap (λ (e : Core). with_map e (with_derived e.map d.site.home imp)) handled))))

  quiet : IsAtRest finished (import_state (at_rest c)) → IsQuiet finished (at_rest c)
  quiet rest = record { visited = refl; settled = rest.settled; closed = rest.closed }

  may_rest : IsAtRest finished (import_state (at_rest c)) → ¬ (c.settled ≡ length c.calls) → MayRest finished (at_rest c)
  may_rest rest more = record { quiet = quiet rest; more = more }

  pub rested : (new : Core) → IsAtRest finished (import_state (at_rest c)) → Rested c new → Steps env finished (at_rest c) (at_rest new)
  rested new rest (already all same) = subst (λ (n : Core). Steps env finished (at_rest c) (at_rest n)) (sym same) none
  rested new rest (moved more ticks) = Steps-one (made rests (may_rest rest more) tt tt (ap at_rest ticks))

  pub rested_past : IsAtRest finished (import_state (at_rest c)) → RestsTooFar c → IsSpent env finished (at_rest c)
  rested_past rest far = past_rule rests (may_rest rest far.more) tt tt far.full

  -- ---- the item of an attribute goes on

  pub skipped : (i : ℕ) (d : MacroDirective) (k : WaitingItem) (item : KeptItem) (ended new : Core) → Skips finished (at_rest c) i d k item → ended
      ≡ with_fate c i Handled → new ≡ counted ended
      → Step env finished (at_rest c) (joined new (visits (visit_behind d k item) ∷ []))
  skipped i d k item ended new may handled ticks =
      made (skips_attribute i d k item) may tt tt (ap (λ (n : Core). joined n (visits (visit_behind d k item) ∷ [])) (ticks ∙ ap counted handled))

  pub given_up : (i : ℕ) (d : MacroDirective) (k : WaitingItem) (item : KeptItem) (ended told new : Core) → FallsBack finished (at_rest c) i d k item → ended
      ≡ with_fate c i GivenUp
      → told ≡ with_map ended (with_diagnostic ended.map (call_report finished c.local c.map d (eager_at c i))) → new ≡ counted told → Step env finished (at_rest c)
      (joined new (visits (visit_behind d k item) ∷ []))
  given_up i d k item ended told new may handled is_told ticks =
      made (falls_back i d k item) may tt tt
      (ap (λ (n : Core). joined n (visits (visit_behind d k item) ∷ []))
      (ticks ∙ ap counted (is_told
      ∙ ap (λ (e : Core). with_map e (with_diagnostic e.map (call_report finished c.local c.map d (eager_at c i)))) handled)))

  -- it may be where imports rest, nothing that waits reaches anything, and no attribute waits before it
  pub falls_back_at : (i : ℕ) (d : MacroDirective) (k : WaitingItem) (item : KeptItem) → IsAtRest finished (import_state (at_rest c))
      → ((j : ℕ) → LeadsNowhere finished (at_rest c) j)
      → NoneWaitsBefore c i → IsWaiting (at_rest c) i d → waiting_item d ≡ Some k → item_kept k ≡ Some item → FallsBack finished (at_rest c) i d k item
  falls_back_at i d k item rest nowhere first waits of_item kept = record {
    waiting = waits;
    of = record { waits = of_item; kept = kept };
    quiet = quiet rest;
    nowhere = nowhere;
    first = λ j e other there is. first.none j (record { call = e; waits = there; item = other; is_item = is });
  }

-- the item is visited as the program does it
module _ (k : WaitingItem) (i : KeptItem) (site : Site) (d : MacroDirective) (is_site : site ≡ site_behind d.site) (kept : item_kept k ≡ Some i) where
  pub visits_it : visits_behind k.source.tree site k.id.0 k.done ++ [] ≡ visits (visit_behind d k i) ∷ []
  visits_it =
      append-nil (visits_found site k.done (item_kept k)) ∙ ap (λ (o : Option KeptItem). visits_found site k.done o) kept
      ∙ ap (λ (s : Site). visits (behind (visit s i) k.done) ∷ []) is_site

  -- steps that begin with one to where it is visited
  pub went_on : {env : Environment} {finished : Maps} {c new last : Core} → Step env finished (at_rest c) (joined new (visits (visit_behind d k i) ∷ []))
      → Walks env finished new last (visits_behind k.source.tree site k.id.0 k.done) → Steps env finished (at_rest c) (at_rest last)
  went_on {env = env} {finished = finished} {new = new} {last = last} step walks =
      Steps-first step (subst (λ (ts : List Task). Steps env finished (joined new ts) (at_rest last)) visits_it (walks.steps []))

  pub went_too_far : {env : Environment} {finished : Maps} {c new : Core} → Step env finished (at_rest c) (joined new (visits (visit_behind d k i) ∷ []))
      → WalksTooFar env finished new (visits_behind k.source.tree site k.id.0 k.done) → IsSpent env finished (at_rest c)
  went_too_far {env = env} {finished = finished} {new = new} step far =
      spent_after (Steps-one step) (subst (λ (ts : List Task). IsSpent env finished (joined new ts)) visits_it (far.spent []))

-- an item that is kept lies in the tree that is kept with it
pub kept_inside : (k : WaitingItem) → IsSome (item_kept k) → k.id.0 < length (all_items k.source.tree.items)
kept_inside k there = go (item_kept k) refl there
  where
    go : (o : Option KeptItem) → item_kept k ≡ o → IsSome o → k.id.0 < length (all_items k.source.tree.items)
    go None e h = absurd (let no : ⊥ = cc in no)
    go (Some item) e h = get_inside (all_items k.source.tree.items) k.id.0 item e

-- and is the item of a number there
pub kept_item : (k : WaitingItem) → IsSome (item_kept k) → (item : KeptItem) × (item_kept k ≡ Some item)
kept_item k there = go (item_kept k) refl there
  where
    go : (o : Option KeptItem) → item_kept k ≡ o → IsSome o → (item : KeptItem) × (item_kept k ≡ Some item)
    go None e h = absurd (let no : ⊥ = cc in no)
    go (Some item) e h = (item, e)

-- imports that rest do so where a step was counted
rest_counted : (finished : Maps) (c : Core) → IsAtRest finished (import_state (at_rest c))
    → IsAtRest finished (import_state (at_rest (counted (with_settled c))))
rest_counted finished c rest = record {
  settled = λ i. record { among = (rest.settled i).among; linked = (rest.settled i).linked };
  recorded = λ i. record {
    each = λ r t target at before taken.
        let source = (rest.recorded i).each r t target at before taken in
        record { number = source.number; edge = source.edge; recorded = source.recorded; source = source.source; into = source.into };
  };
  closed = rest.closed;
  stands = rest.stands;
}

-- so they do once calls may be expanded
pub rest_rested : (finished : Maps) (c d : Core) → Rested c d → IsAtRest finished (import_state (at_rest c)) → IsAtRest finished (import_state (at_rest d))
rest_rested finished c d (already all same) rest = subst (λ (n : Core). IsAtRest finished (import_state (at_rest n))) (sym same) rest
rest_rested finished c d (moved more is) rest = subst (λ (n : Core). IsAtRest finished (import_state (at_rest n))) (sym is) (rest_counted finished c rest)

-- then all calls that there are may be expanded
pub settled_rested : (c d : Core) → Rested c d → d.settled ≡ length d.calls
settled_rested c d (already all same) = ap (λ (n : Core). n.settled) same ∙ all ∙ sym (ap (λ (n : Core). length n.calls) same)
settled_rested c d (moved more is) = ap (λ (n : Core). n.settled) is ∙ sym (ap (λ (n : Core). length n.calls) is)

-- and steps count on
pub count_rested : (c d : Core) → Rested c d → c.count ≤ d.count
count_rested c d (already all same) = let stays : d.count ≡ c.count = ap (λ (n : Core). n.count) same in omega (arith, stays)
count_rested c d (moved more is) = let one : d.count ≡ c.count + 1 = ap (λ (n : Core). n.count) is in omega (arith, one)
