use Rattle.std.proofs.Common.{rules, ◌≡◌, ◌∙◌, ◌<◌, ◌≤◌, ℕ, slice_get, [], ◌∷◌, ◌++◌, List, Option, Some, length, inl, refl, sym, ap, subst, arith}
use Rattle.std.proofs.lemmas.List.Elements.{All-map}
use Rattle.std.specs.List.{All}
use Rattle.std.specs.Option.{IfSome}
use Rattle.std.specs.Prelude.{not, option_map}
use Rattle.hir_collector_state.specs.HirBase.Cfg.{cfg_view}
use Rattle.hir_collector_state.specs.HirBase.declared.cfg.CfgExpr.{CfgExpr}
use Rattle.hir_collector_state.specs.HirItemTree.ItemTree.{Tree}
use Rattle.hir_collector_state.specs.HirItemTree.KeptForest.{KeptItem, all_items}
use Rattle.hir_collector_state.specs.HirItemTree.Kinds.{item_head, kind_content, kind_of}
use Rattle.hir_collector_state.specs.HirItemTree.Rows.{numbers_of, held_numbers, item_of, items_at}
use Rattle.hir_collector_state.specs.HirItemTree.SourceTree.{SourceTreeValue}
use Rattle.hir_collector_state.specs.HirItemTree.declared.rows.ModItemId.{ModItemId}
use Rattle.hir_collector_state.specs.HirTables.Tables.{KeepsTables}
use Rattle.hir_collector_state.proofs.HirTables.Growth.{KeepsTables-trans}
use Rattle.hir_collector_state.specs.HirNameres.WorldParts.{part_of}
use Rattle.hir_collector_state.specs.HirMapParts.declared.diagnostics.DefDiagnosticKind.TheVariants as diagnostics
use Rattle.hir_collector_state.specs.HirCollectorRules.ItemIds.{module_id, node_of}
use Rattle.hir_collector_state.specs.HirCollectorRules.Workspace.{Workspace}
use Rattle.hir_collector_state.specs.HirCollectorRules.Calls.{IsMeantAt}
use Rattle.hir_collector_state.specs.HirCollectorRules.Keys.{Environment, environment}
use Rattle.hir_collector_state.specs.HirCollectorRules.Moves.{HandlesAndSpreads, OnceGrown, Passes, PassesTooFar, Walks, WalksTooFar}
use Rattle.hir_mod_resolution.specs.Walking.{GoesInside, IsOfFile, IsWithin, tasks_of}
use Rattle.hir_collector_state.specs.HirCollectorRules.State.{Task, Visit, core_in, visits, visits_over}
use Rattle.hir_collector_state.specs.HirCollectorRules.Steps.{behind, closing, none, visit}
use Rattle.hir_collector_state.specs.HirCollectorRules.TreeReads.{head_of, visits_at, visits_behind, above}
use Rattle.hir_mod_resolution.specs.declared.modules.Inside.{Inside}
use Rattle.hir_collector_state.proofs.HirCollectorRules.Numbers.{tables_stay}
use Rattle.hir_mod_resolution.proofs.Finding.{falls_inside, falls_to_file, falls_to_item}
use Rattle.hir_collector_state.proofs.HirCollectorRules.ModuleFiles.{site_kept}
use Rattle.hir_mod_resolution.proofs.Outline.{meant_inside}
use Rattle.hir_mod_collector.proofs.Walked.{All-below, All-same_numbers, Walks-all, Walks-append, Walks-through, Walks-waits, WalksTo-next, WalksTo-none}
use Rattle.hir_mod_collector.proofs.Walked.{WalksTooFar-behind, WalksTooFar-first, WalksTooFar-here, WalksTooFar-next, WalksTooFar-passed, WalksTooFar-passing}
use Rattle.hir_mod_collector.proofs.Walked.{WalksTooFar-through, above_each, above_least, at_each, at_index, dropped_at, enabled_one, far_at, holds_of_one}
use Rattle.hir_mod_collector.proofs.Walked.{longer_after, past_none, past_one, still_there, there_behind, visits_alone, visits_one}
use Rattle.hir_collector_state.proofs.Noted.{beside_follow, noted_beside, noted_itself}
use Rattle.hir_mod_collector.proofs.mod_collector.+walk.Goals as goal

pub walk_all-loop-id-init : goal.walk_all-loop-id-init
walk_all-loop-id-init g t c = record {
  kept = tables_stay c.args.locations.now;
  placed = λ h. h;
  same = refl;
  walked =
      λ grown k. WalksTo-none c.args.source.now.value.tree c.args.site.now (environment grown (g.D.SourceDatabase.workspace c.args.db.now))
      (part_of c.args.world) c.args.ids.now (core_in c.args.run.now);
  in_range = c.requires.in_range;
  noted = noted_beside (noted_itself c.args.run.now);
}

pub walk_all-walk_item-requires : goal.walk_all-walk_item-requires
walk_all-walk_item-requires g t c =
    let ids = c.args.ids.now in
    let i = c.loop-id.id-index in
    let within : i < length ids = c.loop-id-test.true in
    let x : ModItemId = record { 0 = c.counted.result } in
    let e = at_index ids i x (record { 0 = 0 }) within (ap (λ (n : ℕ). record { 0 = n }) c.counted.ensures.value) in
    let w = g.D.SourceDatabase.workspace c.args.db.now in
    let site = c.args.site.now in
    let tree = c.args.source.now.value.tree in
    let part = part_of c.args.world in
    let there = at_each (length (all_items tree.items)) ids i x c.requires.there within e in
    let meant : IsMeantAt c.loop-id.locations site = site_kept c.args.locations.now c.loop-id.locations c.loop-id.invariant.kept site c.requires.meant in
    let falls = falls_to_item site.dir.depth x.0 (above (numbers_of ids)) (above_each ids i x within e)
    (subst (λ (m : ℕ). m < 18446744073709551616) (sym c.counted.ensures.value) c.counted.ensures.below) in
    λ κs lives. (omega (arith, falls, c.decreases), (lives, (c.loop-id.invariant.in_range, (meant, there))))

pub walk_all-loop-id-preserved : goal.walk_all-loop-id-preserved
walk_all-loop-id-preserved g t c =
    let ids = c.args.ids.now in
    let i = c.loop-id.id-index in
    let within : i < length ids = c.loop-id-test.true in
    let x : ModItemId = record { 0 = c.counted.result } in
    let e = at_index ids i x (record { 0 = 0 }) within (ap (λ (n : ℕ). record { 0 = n }) c.counted.ensures.value) in
    let w = g.D.SourceDatabase.workspace c.args.db.now in
    let site = c.args.site.now in
    let tree = c.args.source.now.value.tree in
    let part = part_of c.args.world in
    let step : OnceGrown c.walk_item.new.locations w (λ env. Walks env part (core_in c.loop-id.run) (core_in c.walk_item.new.run)
    (visits_at tree site (x.0 ∷ []))) =
    subst (λ (vs : List Task). OnceGrown c.walk_item.new.locations w (λ env. Walks env part (core_in c.loop-id.run) (core_in c.walk_item.new.run) vs))
    (sym (visits_alone tree site x.0))
    (subst (λ (u : Workspace). OnceGrown c.walk_item.new.locations u (λ env. Walks env part (core_in c.loop-id.run) (core_in c.walk_item.new.run)
    (visits_behind tree site x.0 0))) c.loop-id.invariant.same c.in_ok-walk_item.ensures.ok) in
    let walks = step c.walk_item.new.locations (tables_stay c.walk_item.new.locations) in
    let longer : length (core_in c.loop-id.run).map.modules ≤ length (core_in c.walk_item.new.run).map.modules = longer_after (core_in c.loop-id.run)
    (core_in c.walk_item.new.run) (visits_at tree site (x.0 ∷ [])) walks in
    record {
      kept = KeepsTables-trans c.args.locations.now c.loop-id.locations c.walk_item.new.locations c.loop-id.invariant.kept c.in_ok-walk_item.ensures.kept;
      placed = λ h. c.in_ok-walk_item.ensures.placed (c.loop-id.invariant.placed h);
      same = c.in_ok-walk_item.ensures.same ∙ c.loop-id.invariant.same;
      walked = λ grown k.
          WalksTo-next tree site (environment grown w) part ids (core_in c.args.run.now) (core_in c.loop-id.run) (core_in c.walk_item.new.run) i x within e
          (c.loop-id.invariant.walked grown (KeepsTables-trans c.loop-id.locations c.walk_item.new.locations grown c.in_ok-walk_item.ensures.kept k))
          (step grown k);
      in_range = omega (arith, longer, c.loop-id.invariant.in_range);
      noted = beside_follow c.loop-id.invariant.noted c.in_ok-walk_item.ensures.noted;
    }

pub walk_all-returns-in_err-walk_item-clause-kept : goal.walk_all-returns-in_err-walk_item-clause-kept
walk_all-returns-in_err-walk_item-clause-kept g t c =
    KeepsTables-trans c.args.locations.now c.loop-id.locations c.walk_item.new.locations c.loop-id.invariant.kept c.in_err-walk_item.ensures.kept

pub walk_all-returns-in_err-walk_item-clause-placed : goal.walk_all-returns-in_err-walk_item-clause-placed
walk_all-returns-in_err-walk_item-clause-placed g t c = λ h. c.in_err-walk_item.ensures.placed (c.loop-id.invariant.placed h)

pub walk_all-returns-in_err-walk_item-clause-many : goal.walk_all-returns-in_err-walk_item-clause-many
walk_all-returns-in_err-walk_item-clause-many g t c = λ far_off grown k.
    let ids = c.args.ids.now in
    let i = c.loop-id.id-index in
    let within : i < length ids = c.loop-id-test.true in
    let x : ModItemId = record { 0 = c.counted.result } in
    let e = at_index ids i x (record { 0 = 0 }) within (ap (λ (n : ℕ). record { 0 = n }) c.counted.ensures.value) in
    let w = g.D.SourceDatabase.workspace c.args.db.now in
    let site = c.args.site.now in
    let tree = c.args.source.now.value.tree in
    let part = part_of c.args.world in
    let far : OnceGrown c.walk_item.new.locations w (λ env. WalksTooFar env part (core_in c.loop-id.run) (visits_at tree site (x.0 ∷ []))) =
    subst (λ (vs : List Task). OnceGrown c.walk_item.new.locations w (λ env. WalksTooFar env part (core_in c.loop-id.run) vs))
    (sym (visits_alone tree site x.0))
    (subst (λ (u : Workspace). OnceGrown c.walk_item.new.locations u (λ env. WalksTooFar env part (core_in c.loop-id.run) (visits_behind tree site x.0 0)))
    c.loop-id.invariant.same (c.in_err-walk_item.ensures.many (search rules))) in
    WalksTooFar-next tree site (environment grown w) part ids (core_in c.args.run.now) (core_in c.loop-id.run) i x within e
    (c.loop-id.invariant.walked grown (KeepsTables-trans c.loop-id.locations c.walk_item.new.locations grown c.in_err-walk_item.ensures.kept k)) (far grown k)

pub walk_all-returns-clause-ok : goal.walk_all-returns-clause-ok
walk_all-returns-clause-ok g t c = λ grown k.
    Walks-all c.args.source.now.value.tree c.args.site.now (environment grown (g.D.SourceDatabase.workspace c.args.db.now)) (part_of c.args.world)
    c.args.ids.now (core_in c.args.run.now) (core_in c.loop-id.run) c.loop-id.id-index c.loop-id-test.false
    (c.loop-id.invariant.walked grown k)

pub walk_item-returns-in_err-drop_item-clause-many : goal.walk_item-returns-in_err-drop_item-clause-many
walk_item-returns-in_err-drop_item-clause-many g t c = λ far_off grown k.
    let n = c.args.id.0 in
    let w = g.D.SourceDatabase.workspace c.args.db.now in
    let site = c.args.site.now in
    let tree = c.args.source.now.value.tree in
    let part = part_of c.args.world in
    let h = head_of c.head_at-head.result in
    let item = c.index-item.result in
    let done = c.args.done in
    let heads : IfSome (slice_get (all_items tree.items) n) (λ i. h ≡ item_head i) =
    subst (λ (t : Tree). IfSome (slice_get (all_items t.items) n) (λ i. h ≡ item_head i)) (c.tree.ensures.value ∙ ap (λ (s : SourceTreeValue). s.tree)
    c.deref.ensures) c.head_at-head.ensures.value in
    let contents : IfSome (slice_get (all_items tree.items) n) (λ i. item_of (all_items tree.items) (item_head i) (kind_content item) ≡ i) =
    subst (λ (t : Tree). IfSome (slice_get (all_items t.items) n) (λ i. item_of (all_items t.items) (item_head i) (kind_content item) ≡ i))
    (c.tree-2.ensures.value ∙ ap (λ (s : SourceTreeValue). s.tree) c.deref-2.ensures) c.index-item.ensures.value in
    let v : Visit = visit site (item_of (all_items tree.items) h (kind_content item)) in
    let is : visits_behind tree site n done ≡ visits (behind v done) ∷ [] = visits_one tree n h (kind_content item) c.requires.there heads contents site done in
    let off : h.attributes.disabled ≡ Some (cfg_view c.in-Some.cfg) = ap (λ (o : Option CfgExpr). option_map cfg_view o) c.in-Some.is in
    let run = core_in c.args.run.now in
    far_at site tree n done h item (cfg_view c.in-Some.cfg) is off (environment grown w) part run
    (record { in_module = module_id run.map site.home; kind = diagnostics.UnconfiguredCode (node_of site.tree (kind_of item) h.id) c.in-Some.cfg run.options })
    (record { cfg = c.in-Some.cfg; is = refl; says = refl }) (inl (c.in_err-drop_item.ensures.many (search rules)))

pub walk_item-returns-in-Some-clause-ok : goal.walk_item-returns-in-Some-clause-ok
walk_item-returns-in-Some-clause-ok g t c = λ grown k.
    let n = c.args.id.0 in
    let w = g.D.SourceDatabase.workspace c.args.db.now in
    let site = c.args.site.now in
    let tree = c.args.source.now.value.tree in
    let part = part_of c.args.world in
    let h = head_of c.head_at-head.result in
    let item = c.index-item.result in
    let done = c.args.done in
    let heads : IfSome (slice_get (all_items tree.items) n) (λ i. h ≡ item_head i) =
    subst (λ (t : Tree). IfSome (slice_get (all_items t.items) n) (λ i. h ≡ item_head i)) (c.tree.ensures.value ∙ ap (λ (s : SourceTreeValue). s.tree)
    c.deref.ensures) c.head_at-head.ensures.value in
    let contents : IfSome (slice_get (all_items tree.items) n) (λ i. item_of (all_items tree.items) (item_head i) (kind_content item) ≡ i) =
    subst (λ (t : Tree). IfSome (slice_get (all_items t.items) n) (λ i. item_of (all_items t.items) (item_head i) (kind_content item) ≡ i))
    (c.tree-2.ensures.value ∙ ap (λ (s : SourceTreeValue). s.tree) c.deref-2.ensures) c.index-item.ensures.value in
    let v : Visit = visit site (item_of (all_items tree.items) h (kind_content item)) in
    let is : visits_behind tree site n done ≡ visits (behind v done) ∷ [] = visits_one tree n h (kind_content item) c.requires.there heads contents site done in
    let off : h.attributes.disabled ≡ Some (cfg_view c.in-Some.cfg) = ap (λ (o : Option CfgExpr). option_map cfg_view o) c.in-Some.is in
    dropped_at site tree n done h item (cfg_view c.in-Some.cfg) is off (environment grown w) part (core_in c.args.run.now) (core_in c.drop_item.new.run)
    c.in_ok-drop_item.ensures.ok

pub walk_item-pass-requires-clause-enabled : goal.walk_item-pass-requires-clause-enabled
walk_item-pass-requires-clause-enabled g t c =
    let n = c.args.id.0 in
    let w = g.D.SourceDatabase.workspace c.args.db.now in
    let site = c.args.site.now in
    let tree = c.args.source.now.value.tree in
    let part = part_of c.args.world in
    let h = head_of c.head_at-head.result in
    let item = c.index-item.result in
    let done = c.args.done in
    let heads : IfSome (slice_get (all_items tree.items) n) (λ i. h ≡ item_head i) =
    subst (λ (t : Tree). IfSome (slice_get (all_items t.items) n) (λ i. h ≡ item_head i)) (c.tree.ensures.value ∙ ap (λ (s : SourceTreeValue). s.tree)
    c.deref.ensures) c.head_at-head.ensures.value in
    let contents : IfSome (slice_get (all_items tree.items) n) (λ i. item_of (all_items tree.items) (item_head i) (kind_content item) ≡ i) =
    subst (λ (t : Tree). IfSome (slice_get (all_items t.items) n) (λ i. item_of (all_items t.items) (item_head i) (kind_content item) ≡ i))
    (c.tree-2.ensures.value ∙ ap (λ (s : SourceTreeValue). s.tree) c.deref-2.ensures) c.index-item.ensures.value in
    enabled_one tree n h (kind_content item) c.requires.there heads contents (search rules)

pub walk_item-returns-in_err-pass-clause-many : goal.walk_item-returns-in_err-pass-clause-many
walk_item-returns-in_err-pass-clause-many g t c = λ far_off grown k.
    let n = c.args.id.0 in
    let w = g.D.SourceDatabase.workspace c.args.db.now in
    let site = c.args.site.now in
    let tree = c.args.source.now.value.tree in
    let part = part_of c.args.world in
    let h = head_of c.head_at-head.result in
    let item = c.index-item.result in
    let done = c.args.done in
    let heads : IfSome (slice_get (all_items tree.items) n) (λ i. h ≡ item_head i) =
    subst (λ (t : Tree). IfSome (slice_get (all_items t.items) n) (λ i. h ≡ item_head i)) (c.tree.ensures.value ∙ ap (λ (s : SourceTreeValue). s.tree)
    c.deref.ensures) c.head_at-head.ensures.value in
    let contents : IfSome (slice_get (all_items tree.items) n) (λ i. item_of (all_items tree.items) (item_head i) (kind_content item) ≡ i) =
    subst (λ (t : Tree). IfSome (slice_get (all_items t.items) n) (λ i. item_of (all_items t.items) (item_head i) (kind_content item) ≡ i))
    (c.tree-2.ensures.value ∙ ap (λ (s : SourceTreeValue). s.tree) c.deref-2.ensures) c.index-item.ensures.value in
    let v : Visit = visit site (item_of (all_items tree.items) h (kind_content item)) in
    let is : visits_behind tree site n done ≡ visits (behind v done) ∷ [] = visits_one tree n h (kind_content item) c.requires.there heads contents site done in
    let far = holds_of_one tree n h (kind_content item) c.requires.there heads contents
    (λ (i : KeptItem). PassesTooFar (environment grown w) part (core_in c.args.run.now) (visit site i) done)
    (c.in_err-pass.ensures.many (search rules) (environment grown w) part k) in
    WalksTooFar-passing (core_in c.args.run.now) v done (visits_behind tree site n done) is far

pub walk_item-returns-then-is_none-clause-ok : goal.walk_item-returns-then-is_none-clause-ok
walk_item-returns-then-is_none-clause-ok g t c = λ grown k.
    let n = c.args.id.0 in
    let w = g.D.SourceDatabase.workspace c.args.db.now in
    let site = c.args.site.now in
    let tree = c.args.source.now.value.tree in
    let part = part_of c.args.world in
    let h = head_of c.head_at-head.result in
    let item = c.index-item.result in
    let done = c.args.done in
    let heads : IfSome (slice_get (all_items tree.items) n) (λ i. h ≡ item_head i) =
    subst (λ (t : Tree). IfSome (slice_get (all_items t.items) n) (λ i. h ≡ item_head i)) (c.tree.ensures.value ∙ ap (λ (s : SourceTreeValue). s.tree)
    c.deref.ensures) c.head_at-head.ensures.value in
    let contents : IfSome (slice_get (all_items tree.items) n) (λ i. item_of (all_items tree.items) (item_head i) (kind_content item) ≡ i) =
    subst (λ (t : Tree). IfSome (slice_get (all_items t.items) n) (λ i. item_of (all_items t.items) (item_head i) (kind_content item) ≡ i))
    (c.tree-2.ensures.value ∙ ap (λ (s : SourceTreeValue). s.tree) c.deref-2.ensures) c.index-item.ensures.value in
    let v : Visit = visit site (item_of (all_items tree.items) h (kind_content item)) in
    let is : visits_behind tree site n done ≡ visits (behind v done) ∷ [] = visits_one tree n h (kind_content item) c.requires.there heads contents site done in
    let passed = core_in c.pass.new.run in
    let waits = holds_of_one tree n h (kind_content item) c.requires.there heads contents
    (λ (i : KeptItem). Passes (environment grown w) part (core_in c.args.run.now) passed (visit site i) done c.in_ok-pass.field-0)
    (c.in_ok-pass.ensures.ok (environment grown w) part k) in
    Walks-waits (core_in c.args.run.now) passed v done (visits_behind tree site n done) is
    (subst (λ (o : Option ℕ). Passes (environment grown w) part (core_in c.args.run.now) passed v done o)
    (past_none c.in_ok-pass.field-0 (c.is_none.ensures ∙ ap not c.if-is_none.true)) waits)

pub walk_item-visit_item-requires-clause-in_range : goal.walk_item-visit_item-requires-clause-in_range
walk_item-visit_item-requires-clause-in_range g t c =
    let n = c.args.id.0 in
    let w = g.D.SourceDatabase.workspace c.args.db.now in
    let site = c.args.site.now in
    let tree = c.args.source.now.value.tree in
    let part = part_of c.args.world in
    let h = head_of c.head_at-head.result in
    let item = c.index-item.result in
    let done = c.args.done in
    let heads : IfSome (slice_get (all_items tree.items) n) (λ i. h ≡ item_head i) =
    subst (λ (t : Tree). IfSome (slice_get (all_items t.items) n) (λ i. h ≡ item_head i)) (c.tree.ensures.value ∙ ap (λ (s : SourceTreeValue). s.tree)
    c.deref.ensures) c.head_at-head.ensures.value in
    let contents : IfSome (slice_get (all_items tree.items) n) (λ i. item_of (all_items tree.items) (item_head i) (kind_content item) ≡ i) =
    subst (λ (t : Tree). IfSome (slice_get (all_items t.items) n) (λ i. item_of (all_items t.items) (item_head i) (kind_content item) ≡ i))
    (c.tree-2.ensures.value ∙ ap (λ (s : SourceTreeValue). s.tree) c.deref-2.ensures) c.index-item.ensures.value in
    let v : Visit = visit site (item_of (all_items tree.items) h (kind_content item)) in
    let passed = core_in c.pass.new.run in
    let passes = holds_of_one tree n h (kind_content item) c.requires.there heads contents (λ (i : KeptItem). Passes (environment c.pass.new.locations w) part
    (core_in c.args.run.now) passed (visit site i) done c.in_ok-pass.field-0) (c.in_ok-pass.ensures.ok (environment c.pass.new.locations w) part
    (tables_stay c.pass.new.locations)) in
    there_behind (core_in c.args.run.now) passed v done c.in_ok-pass.field-0 site.home passes c.requires.in_range

pub walk_item-visit_item-requires-clause-meant : goal.walk_item-visit_item-requires-clause-meant
walk_item-visit_item-requires-clause-meant g t c =
    site_kept c.args.locations.now c.pass.new.locations c.in_ok-pass.ensures.kept c.args.site.now c.requires.meant

pub walk_item-returns-in_err-inside-clause-kept : goal.walk_item-returns-in_err-inside-clause-kept
walk_item-returns-in_err-inside-clause-kept g t c =
    KeepsTables-trans c.args.locations.now c.pass.new.locations c.visit_item.new.locations c.in_ok-pass.ensures.kept c.in_err-inside.ensures.kept

pub walk_item-returns-in_err-inside-clause-placed : goal.walk_item-returns-in_err-inside-clause-placed
walk_item-returns-in_err-inside-clause-placed g t c = λ h. c.in_err-inside.ensures.placed (c.in_ok-pass.ensures.placed h)

pub walk_item-returns-in_err-inside-clause-many : goal.walk_item-returns-in_err-inside-clause-many
walk_item-returns-in_err-inside-clause-many g t c = λ far_off grown k.
    let n = c.args.id.0 in
    let w = g.D.SourceDatabase.workspace c.args.db.now in
    let site = c.args.site.now in
    let tree = c.args.source.now.value.tree in
    let part = part_of c.args.world in
    let h = head_of c.head_at-head.result in
    let item = c.index-item.result in
    let done = c.args.done in
    let heads : IfSome (slice_get (all_items tree.items) n) (λ i. h ≡ item_head i) =
    subst (λ (t : Tree). IfSome (slice_get (all_items t.items) n) (λ i. h ≡ item_head i)) (c.tree.ensures.value ∙ ap (λ (s : SourceTreeValue). s.tree)
    c.deref.ensures) c.head_at-head.ensures.value in
    let contents : IfSome (slice_get (all_items tree.items) n) (λ i. item_of (all_items tree.items) (item_head i) (kind_content item) ≡ i) =
    subst (λ (t : Tree). IfSome (slice_get (all_items t.items) n) (λ i. item_of (all_items t.items) (item_head i) (kind_content item) ≡ i))
    (c.tree-2.ensures.value ∙ ap (λ (s : SourceTreeValue). s.tree) c.deref-2.ensures) c.index-item.ensures.value in
    let v : Visit = visit site (item_of (all_items tree.items) h (kind_content item)) in
    let is : visits_behind tree site n done ≡ visits (behind v done) ∷ [] = visits_one tree n h (kind_content item) c.requires.there heads contents site done in
    let passed = core_in c.pass.new.run in
    let past = past_one c.in_ok-pass.field-0 (c.is_none.ensures ∙ ap not c.if-is_none.false) in
    let passes : (env : Environment) → KeepsTables c.pass.new.locations env.tables → Passes env part (core_in c.args.run.now) passed v done (Some past.0) =
    λ env keeps. subst (λ (o : Option ℕ). Passes env part (core_in c.args.run.now) passed v done o) past.1
    (holds_of_one tree n h (kind_content item) c.requires.there heads contents (λ (i : KeptItem). Passes env part (core_in c.args.run.now) passed (visit site i)
    done c.in_ok-pass.field-0) (c.in_ok-pass.ensures.ok env part keeps)) in
    let since : KeepsTables c.pass.new.locations grown = KeepsTables-trans c.pass.new.locations c.visit_item.new.locations grown c.in_err-inside.ensures.kept k
    in
    WalksTooFar-passed (core_in c.args.run.now) passed v done past.0 (visits_behind tree site n done) is (passes (environment grown w) since)
    (WalksTooFar-here passed v past.0 (passes (environment grown w) since).goes.0 (c.in_err-inside.ensures.many (search rules) grown k (all_items tree.items)))

pub walk_item-walk_all-requires : goal.walk_item-walk_all-requires
walk_item-walk_all-requires g t c =
    let n = c.args.id.0 in
    let w = g.D.SourceDatabase.workspace c.args.db.now in
    let site = c.args.site.now in
    let tree = c.args.source.now.value.tree in
    let part = part_of c.args.world in
    let h = head_of c.head_at-head.result in
    let item = c.index-item.result in
    let done = c.args.done in
    let heads : IfSome (slice_get (all_items tree.items) n) (λ i. h ≡ item_head i) =
    subst (λ (t : Tree). IfSome (slice_get (all_items t.items) n) (λ i. h ≡ item_head i)) (c.tree.ensures.value ∙ ap (λ (s : SourceTreeValue). s.tree)
    c.deref.ensures) c.head_at-head.ensures.value in
    let contents : IfSome (slice_get (all_items tree.items) n) (λ i. item_of (all_items tree.items) (item_head i) (kind_content item) ≡ i) =
    subst (λ (t : Tree). IfSome (slice_get (all_items t.items) n) (λ i. item_of (all_items t.items) (item_head i) (kind_content item) ≡ i))
    (c.tree-2.ensures.value ∙ ap (λ (s : SourceTreeValue). s.tree) c.deref-2.ensures) c.index-item.ensures.value in
    let v : Visit = visit site (item_of (all_items tree.items) h (kind_content item)) in
    let is : visits_behind tree site n done ≡ visits (behind v done) ∷ [] = visits_one tree n h (kind_content item) c.requires.there heads contents site done in
    let passed = core_in c.pass.new.run in
    let past = past_one c.in_ok-pass.field-0 (c.is_none.ensures ∙ ap not c.if-is_none.false) in
    let passes : (env : Environment) → KeepsTables c.pass.new.locations env.tables → Passes env part (core_in c.args.run.now) passed v done (Some past.0) =
    λ env keeps. subst (λ (o : Option ℕ). Passes env part (core_in c.args.run.now) passed v done o) past.1
    (holds_of_one tree n h (kind_content item) c.requires.there heads contents (λ (i : KeptItem). Passes env part (core_in c.args.run.now) passed (visit site i)
    done c.in_ok-pass.field-0) (c.in_ok-pass.ensures.ok env part keeps)) in
    let now = c.visit_item.new.locations in
    let mid = core_in c.visit_item.new.run in
    let inner = c.in-Held.inner in
    let ns = numbers_of c.in-Held.ids.now in
    let goes : IsWithin (length mid.map.modules) site inner × (ns ≡ held_numbers (kind_content item)) =
    subst (λ (o : Inside). GoesInside now (length mid.map.modules) site (held_numbers (kind_content item)) o) c.in-Held.is c.in_ok-inside.ensures.within in
    let size = length (all_items tree.items) in
    let below : All (λ m. m < n) ns =
    All-same_numbers (λ m. m < n) ns (held_numbers (kind_content item)) goes.1 c.index-item.ensures.below in
    let least : above ns ≤ n = above_least n ns below in
    let there : n < size = c.requires.there in
    let falls = falls_inside site.dir.depth inner.dir.depth n (above ns) goes.0.deep least in
    let meant : IsMeantAt now inner = meant_inside now site inner goes.0.tree goes.0.file
    (site_kept c.args.locations.now now (KeepsTables-trans c.args.locations.now c.pass.new.locations now c.in_ok-pass.ensures.kept c.in_ok-inside.ensures.kept)
    site c.requires.meant) in
    λ κs lives. (omega (arith, falls, c.decreases), (lives, (goes.0.there, (meant, All-below n size ns (omega (arith, there)) below))))

pub walk_item-returns-in_err-walk_all-in-Held-clause-kept : goal.walk_item-returns-in_err-walk_all-in-Held-clause-kept
walk_item-returns-in_err-walk_all-in-Held-clause-kept g t c =
    KeepsTables-trans c.args.locations.now c.pass.new.locations c.walk_all.new.locations c.in_ok-pass.ensures.kept
    (KeepsTables-trans c.pass.new.locations c.visit_item.new.locations c.walk_all.new.locations c.in_ok-inside.ensures.kept
    c.in_err-walk_all-in-Held.ensures.kept)

pub walk_item-returns-in_err-walk_all-in-Held-clause-placed : goal.walk_item-returns-in_err-walk_all-in-Held-clause-placed
walk_item-returns-in_err-walk_all-in-Held-clause-placed g t c =
    λ h. c.in_err-walk_all-in-Held.ensures.placed (c.in_ok-inside.ensures.placed (c.in_ok-pass.ensures.placed h))

pub walk_item-returns-in_err-walk_all-in-Held-clause-many : goal.walk_item-returns-in_err-walk_all-in-Held-clause-many
walk_item-returns-in_err-walk_all-in-Held-clause-many g t c = λ far_off grown k.
    let n = c.args.id.0 in
    let w = g.D.SourceDatabase.workspace c.args.db.now in
    let site = c.args.site.now in
    let tree = c.args.source.now.value.tree in
    let part = part_of c.args.world in
    let h = head_of c.head_at-head.result in
    let item = c.index-item.result in
    let done = c.args.done in
    let heads : IfSome (slice_get (all_items tree.items) n) (λ i. h ≡ item_head i) =
    subst (λ (t : Tree). IfSome (slice_get (all_items t.items) n) (λ i. h ≡ item_head i)) (c.tree.ensures.value ∙ ap (λ (s : SourceTreeValue). s.tree)
    c.deref.ensures) c.head_at-head.ensures.value in
    let contents : IfSome (slice_get (all_items tree.items) n) (λ i. item_of (all_items tree.items) (item_head i) (kind_content item) ≡ i) =
    subst (λ (t : Tree). IfSome (slice_get (all_items t.items) n) (λ i. item_of (all_items t.items) (item_head i) (kind_content item) ≡ i))
    (c.tree-2.ensures.value ∙ ap (λ (s : SourceTreeValue). s.tree) c.deref-2.ensures) c.index-item.ensures.value in
    let v : Visit = visit site (item_of (all_items tree.items) h (kind_content item)) in
    let is : visits_behind tree site n done ≡ visits (behind v done) ∷ [] = visits_one tree n h (kind_content item) c.requires.there heads contents site done in
    let passed = core_in c.pass.new.run in
    let past = past_one c.in_ok-pass.field-0 (c.is_none.ensures ∙ ap not c.if-is_none.false) in
    let passes : (env : Environment) → KeepsTables c.pass.new.locations env.tables → Passes env part (core_in c.args.run.now) passed v done (Some past.0) =
    λ env keeps. subst (λ (o : Option ℕ). Passes env part (core_in c.args.run.now) passed v done o) past.1
    (holds_of_one tree n h (kind_content item) c.requires.there heads contents (λ (i : KeptItem). Passes env part (core_in c.args.run.now) passed (visit site i)
    done c.in_ok-pass.field-0) (c.in_ok-pass.ensures.ok env part keeps)) in
    let now = c.visit_item.new.locations in
    let mid = core_in c.visit_item.new.run in
    let inner = c.in-Held.inner in
    let ns = numbers_of c.in-Held.ids.now in
    let goes : IsWithin (length mid.map.modules) site inner × (ns ≡ held_numbers (kind_content item)) =
    subst (λ (o : Inside). GoesInside now (length mid.map.modules) site (held_numbers (kind_content item)) o) c.in-Held.is c.in_ok-inside.ensures.within in
    let first : HandlesAndSpreads (environment grown w) part passed mid v (visits_at tree inner ns ++ closing c.in-Held.macro_use site.home inner.home) =
    subst (λ (o : Inside). HandlesAndSpreads (environment grown w) part passed mid v (tasks_of site.home (all_items tree.items) o)) c.in-Held.is
    (c.in_ok-inside.ensures.ok grown (KeepsTables-trans now c.walk_all.new.locations grown c.in_err-walk_all-in-Held.ensures.kept k) (all_items tree.items)) in
    let later : OnceGrown c.walk_all.new.locations w (λ env. WalksTooFar env part mid (visits_at tree inner ns)) =
    subst (λ (v : Workspace). OnceGrown c.walk_all.new.locations v (λ env. WalksTooFar env part mid (visits_at tree inner ns))) c.in_ok-inside.ensures.same
    (c.in_err-walk_all-in-Held.ensures.many (search rules)) in
    let behind = closing c.in-Held.macro_use site.home inner.home in
    let since : KeepsTables c.pass.new.locations grown = KeepsTables-trans c.pass.new.locations now grown c.in_ok-inside.ensures.kept
    (KeepsTables-trans now c.walk_all.new.locations grown c.in_err-walk_all-in-Held.ensures.kept k) in
    WalksTooFar-through (core_in c.args.run.now) passed mid v done past.0 (visits_behind tree site n done) (visits_at tree inner ns ++ behind) is
    (passes (environment grown w) since) first (WalksTooFar-first mid (visits_at tree inner ns) behind (later grown k))

pub walk_item-returns-in_err-walk_all-in-File-clause-kept : goal.walk_item-returns-in_err-walk_all-in-File-clause-kept
walk_item-returns-in_err-walk_all-in-File-clause-kept g t c =
    KeepsTables-trans c.args.locations.now c.pass.new.locations c.walk_all-in-File.new.locations c.in_ok-pass.ensures.kept
    (KeepsTables-trans c.pass.new.locations c.visit_item.new.locations c.walk_all-in-File.new.locations c.in_ok-inside.ensures.kept
    c.in_err-walk_all-in-File.ensures.kept)

pub walk_item-returns-in_err-walk_all-in-File-clause-placed : goal.walk_item-returns-in_err-walk_all-in-File-clause-placed
walk_item-returns-in_err-walk_all-in-File-clause-placed g t c =
    λ h. c.in_err-walk_all-in-File.ensures.placed (c.in_ok-inside.ensures.placed (c.in_ok-pass.ensures.placed h))

pub walk_item-returns-in_err-walk_all-in-File-clause-many : goal.walk_item-returns-in_err-walk_all-in-File-clause-many
walk_item-returns-in_err-walk_all-in-File-clause-many g t c = λ far_off grown k.
    let n = c.args.id.0 in
    let w = g.D.SourceDatabase.workspace c.args.db.now in
    let site = c.args.site.now in
    let tree = c.args.source.now.value.tree in
    let part = part_of c.args.world in
    let h = head_of c.head_at-head.result in
    let item = c.index-item.result in
    let done = c.args.done in
    let heads : IfSome (slice_get (all_items tree.items) n) (λ i. h ≡ item_head i) =
    subst (λ (t : Tree). IfSome (slice_get (all_items t.items) n) (λ i. h ≡ item_head i)) (c.tree.ensures.value ∙ ap (λ (s : SourceTreeValue). s.tree)
    c.deref.ensures) c.head_at-head.ensures.value in
    let contents : IfSome (slice_get (all_items tree.items) n) (λ i. item_of (all_items tree.items) (item_head i) (kind_content item) ≡ i) =
    subst (λ (t : Tree). IfSome (slice_get (all_items t.items) n) (λ i. item_of (all_items t.items) (item_head i) (kind_content item) ≡ i))
    (c.tree-2.ensures.value ∙ ap (λ (s : SourceTreeValue). s.tree) c.deref-2.ensures) c.index-item.ensures.value in
    let v : Visit = visit site (item_of (all_items tree.items) h (kind_content item)) in
    let is : visits_behind tree site n done ≡ visits (behind v done) ∷ [] = visits_one tree n h (kind_content item) c.requires.there heads contents site done in
    let passed = core_in c.pass.new.run in
    let past = past_one c.in_ok-pass.field-0 (c.is_none.ensures ∙ ap not c.if-is_none.false) in
    let passes : (env : Environment) → KeepsTables c.pass.new.locations env.tables → Passes env part (core_in c.args.run.now) passed v done (Some past.0) =
    λ env keeps. subst (λ (o : Option ℕ). Passes env part (core_in c.args.run.now) passed v done o) past.1
    (holds_of_one tree n h (kind_content item) c.requires.there heads contents (λ (i : KeptItem). Passes env part (core_in c.args.run.now) passed (visit site i)
    done c.in_ok-pass.field-0) (c.in_ok-pass.ensures.ok env part keeps)) in
    let now = c.visit_item.new.locations in
    let mid = core_in c.visit_item.new.run in
    let inner = c.in-File.inner in
    let source = c.in-File.source.value in
    let goes : IsOfFile now (length mid.map.modules) site inner =
    subst (λ (o : Inside). GoesInside now (length mid.map.modules) site (held_numbers (kind_content item)) o) c.in-File.is c.in_ok-inside.ensures.within in
    let first : HandlesAndSpreads (environment grown w) part passed mid v (visits_over inner source.tree.items ++ closing c.in-File.macro_use site.home
    inner.home) =
    subst (λ (o : Inside). HandlesAndSpreads (environment grown w) part passed mid v (tasks_of site.home (all_items tree.items) o)) c.in-File.is
    (c.in_ok-inside.ensures.ok grown (KeepsTables-trans now c.walk_all-in-File.new.locations grown c.in_err-walk_all-in-File.ensures.kept k)
    (all_items tree.items)) in
    let items_same : visits_at source.tree inner (numbers_of c.top_level_items-ids.result.now) ≡ visits_over inner source.tree.items =
    ap (visits_over inner) (subst (λ (t : Tree). items_at (all_items t.items) (numbers_of c.top_level_items-ids.result.now) ≡ t.items)
    (c.tree-in-File.ensures.value ∙ ap (λ (s : SourceTreeValue). s.tree) c.deref-in-File.ensures) c.top_level_items-ids.ensures.value) in
    let later : OnceGrown c.walk_all-in-File.new.locations w (λ env. WalksTooFar env part mid (visits_over inner source.tree.items)) =
    subst (λ (vs : List Task). OnceGrown c.walk_all-in-File.new.locations w (λ env. WalksTooFar env part mid vs)) items_same
    (subst (λ (v : Workspace). OnceGrown c.walk_all-in-File.new.locations v
    (λ env. WalksTooFar env part mid (visits_at source.tree inner (numbers_of c.top_level_items-ids.result.now)))) c.in_ok-inside.ensures.same
    (c.in_err-walk_all-in-File.ensures.many (search rules))) in
    let behind = closing c.in-File.macro_use site.home inner.home in
    let since : KeepsTables c.pass.new.locations grown = KeepsTables-trans c.pass.new.locations now grown c.in_ok-inside.ensures.kept
    (KeepsTables-trans now c.walk_all-in-File.new.locations grown c.in_err-walk_all-in-File.ensures.kept k) in
    WalksTooFar-through (core_in c.args.run.now) passed mid v done past.0 (visits_behind tree site n done) (visits_over inner source.tree.items ++ behind) is
    (passes (environment grown w) since) first (WalksTooFar-first mid (visits_over inner source.tree.items) behind (later grown k))

pub walk_item-walk_all-requires-in-File : goal.walk_item-walk_all-requires-in-File
walk_item-walk_all-requires-in-File g t c =
    let n = c.args.id.0 in
    let w = g.D.SourceDatabase.workspace c.args.db.now in
    let site = c.args.site.now in
    let tree = c.args.source.now.value.tree in
    let part = part_of c.args.world in
    let h = head_of c.head_at-head.result in
    let item = c.index-item.result in
    let done = c.args.done in
    let heads : IfSome (slice_get (all_items tree.items) n) (λ i. h ≡ item_head i) =
    subst (λ (t : Tree). IfSome (slice_get (all_items t.items) n) (λ i. h ≡ item_head i)) (c.tree.ensures.value ∙ ap (λ (s : SourceTreeValue). s.tree)
    c.deref.ensures) c.head_at-head.ensures.value in
    let contents : IfSome (slice_get (all_items tree.items) n) (λ i. item_of (all_items tree.items) (item_head i) (kind_content item) ≡ i) =
    subst (λ (t : Tree). IfSome (slice_get (all_items t.items) n) (λ i. item_of (all_items t.items) (item_head i) (kind_content item) ≡ i))
    (c.tree-2.ensures.value ∙ ap (λ (s : SourceTreeValue). s.tree) c.deref-2.ensures) c.index-item.ensures.value in
    let v : Visit = visit site (item_of (all_items tree.items) h (kind_content item)) in
    let is : visits_behind tree site n done ≡ visits (behind v done) ∷ [] = visits_one tree n h (kind_content item) c.requires.there heads contents site done in
    let passed = core_in c.pass.new.run in
    let past = past_one c.in_ok-pass.field-0 (c.is_none.ensures ∙ ap not c.if-is_none.false) in
    let passes : (env : Environment) → KeepsTables c.pass.new.locations env.tables → Passes env part (core_in c.args.run.now) passed v done (Some past.0) =
    λ env keeps. subst (λ (o : Option ℕ). Passes env part (core_in c.args.run.now) passed v done o) past.1
    (holds_of_one tree n h (kind_content item) c.requires.there heads contents (λ (i : KeptItem). Passes env part (core_in c.args.run.now) passed (visit site i)
    done c.in_ok-pass.field-0) (c.in_ok-pass.ensures.ok env part keeps)) in
    let now = c.visit_item.new.locations in
    let mid = core_in c.visit_item.new.run in
    let inner = c.in-File.inner in
    let source = c.in-File.source.value in
    let goes : IsOfFile now (length mid.map.modules) site inner =
    subst (λ (o : Inside). GoesInside now (length mid.map.modules) site (held_numbers (kind_content item)) o) c.in-File.is c.in_ok-inside.ensures.within in
    let ns = numbers_of c.top_level_items-ids.result.now in
    let falls = falls_to_file site.dir.depth inner.dir.depth n (above ns) goes.above goes.deeper in
    let there : All (λ m. m < length (all_items source.tree.items)) ns =
    All-map (λ m. m < length (all_items source.tree.items)) (λ (id : ModItemId). id.0) c.top_level_items-ids.result.now
    (subst (λ (t : Tree). All (λ (id : ModItemId). id.0 < length (all_items t.items)) c.top_level_items-ids.result.now)
    (c.tree-in-File.ensures.value ∙ ap (λ (s : SourceTreeValue). s.tree) c.deref-in-File.ensures) c.top_level_items-ids.ensures.there) in
    λ κs lives. (omega (arith, falls, c.decreases), (lives, (goes.there, (goes.meant, there))))

pub walk_item-returns-in_err-close-in-Held-clause-kept : goal.walk_item-returns-in_err-close-in-Held-clause-kept
walk_item-returns-in_err-close-in-Held-clause-kept g t c =
    KeepsTables-trans c.args.locations.now c.pass.new.locations c.walk_all.new.locations c.in_ok-pass.ensures.kept
    (KeepsTables-trans c.pass.new.locations c.visit_item.new.locations c.walk_all.new.locations c.in_ok-inside.ensures.kept
    c.in_ok-walk_all-in-Held.ensures.kept)

pub walk_item-returns-in_err-close-in-Held-clause-placed : goal.walk_item-returns-in_err-close-in-Held-clause-placed
walk_item-returns-in_err-close-in-Held-clause-placed g t c =
    λ h. c.in_ok-walk_all-in-Held.ensures.placed (c.in_ok-inside.ensures.placed (c.in_ok-pass.ensures.placed h))

pub walk_item-returns-in_ok-close-in-Held-clause-kept : goal.walk_item-returns-in_ok-close-in-Held-clause-kept
walk_item-returns-in_ok-close-in-Held-clause-kept g t c =
    KeepsTables-trans c.args.locations.now c.pass.new.locations c.walk_all.new.locations c.in_ok-pass.ensures.kept
    (KeepsTables-trans c.pass.new.locations c.visit_item.new.locations c.walk_all.new.locations c.in_ok-inside.ensures.kept
    c.in_ok-walk_all-in-Held.ensures.kept)

pub walk_item-returns-in_ok-close-in-Held-clause-placed : goal.walk_item-returns-in_ok-close-in-Held-clause-placed
walk_item-returns-in_ok-close-in-Held-clause-placed g t c =
    λ h. c.in_ok-walk_all-in-Held.ensures.placed (c.in_ok-inside.ensures.placed (c.in_ok-pass.ensures.placed h))

pub walk_item-returns-in_ok-close-in-Held-clause-ok : goal.walk_item-returns-in_ok-close-in-Held-clause-ok
walk_item-returns-in_ok-close-in-Held-clause-ok g t c = λ grown k.
    let n = c.args.id.0 in
    let w = g.D.SourceDatabase.workspace c.args.db.now in
    let site = c.args.site.now in
    let tree = c.args.source.now.value.tree in
    let part = part_of c.args.world in
    let h = head_of c.head_at-head.result in
    let item = c.index-item.result in
    let done = c.args.done in
    let heads : IfSome (slice_get (all_items tree.items) n) (λ i. h ≡ item_head i) =
    subst (λ (t : Tree). IfSome (slice_get (all_items t.items) n) (λ i. h ≡ item_head i)) (c.tree.ensures.value ∙ ap (λ (s : SourceTreeValue). s.tree)
    c.deref.ensures) c.head_at-head.ensures.value in
    let contents : IfSome (slice_get (all_items tree.items) n) (λ i. item_of (all_items tree.items) (item_head i) (kind_content item) ≡ i) =
    subst (λ (t : Tree). IfSome (slice_get (all_items t.items) n) (λ i. item_of (all_items t.items) (item_head i) (kind_content item) ≡ i))
    (c.tree-2.ensures.value ∙ ap (λ (s : SourceTreeValue). s.tree) c.deref-2.ensures) c.index-item.ensures.value in
    let v : Visit = visit site (item_of (all_items tree.items) h (kind_content item)) in
    let is : visits_behind tree site n done ≡ visits (behind v done) ∷ [] = visits_one tree n h (kind_content item) c.requires.there heads contents site done in
    let passed = core_in c.pass.new.run in
    let past = past_one c.in_ok-pass.field-0 (c.is_none.ensures ∙ ap not c.if-is_none.false) in
    let passes : (env : Environment) → KeepsTables c.pass.new.locations env.tables → Passes env part (core_in c.args.run.now) passed v done (Some past.0) =
    λ env keeps. subst (λ (o : Option ℕ). Passes env part (core_in c.args.run.now) passed v done o) past.1
    (holds_of_one tree n h (kind_content item) c.requires.there heads contents (λ (i : KeptItem). Passes env part (core_in c.args.run.now) passed (visit site i)
    done c.in_ok-pass.field-0) (c.in_ok-pass.ensures.ok env part keeps)) in
    let now = c.visit_item.new.locations in
    let mid = core_in c.visit_item.new.run in
    let inner = c.in-Held.inner in
    let ns = numbers_of c.in-Held.ids.now in
    let goes : IsWithin (length mid.map.modules) site inner × (ns ≡ held_numbers (kind_content item)) =
    subst (λ (o : Inside). GoesInside now (length mid.map.modules) site (held_numbers (kind_content item)) o) c.in-Held.is c.in_ok-inside.ensures.within in
    let first : HandlesAndSpreads (environment grown w) part passed mid v (visits_at tree inner ns ++ closing c.in-Held.macro_use site.home inner.home) =
    subst (λ (o : Inside). HandlesAndSpreads (environment grown w) part passed mid v (tasks_of site.home (all_items tree.items) o)) c.in-Held.is
    (c.in_ok-inside.ensures.ok grown (KeepsTables-trans now c.walk_all.new.locations grown c.in_ok-walk_all-in-Held.ensures.kept k) (all_items tree.items)) in
    let later : OnceGrown c.walk_all.new.locations w (λ env. Walks env part mid (core_in c.walk_all.new.run) (visits_at tree inner ns)) =
    subst (λ (v : Workspace). OnceGrown c.walk_all.new.locations v (λ env. Walks env part mid (core_in c.walk_all.new.run) (visits_at tree inner ns)))
    c.in_ok-inside.ensures.same c.in_ok-walk_all-in-Held.ensures.ok in
    let behind = closing c.in-Held.macro_use site.home inner.home in
    let since : KeepsTables c.pass.new.locations grown = KeepsTables-trans c.pass.new.locations now grown c.in_ok-inside.ensures.kept
    (KeepsTables-trans now c.walk_all.new.locations grown c.in_ok-walk_all-in-Held.ensures.kept k) in
    Walks-through (core_in c.args.run.now) passed mid (core_in c.close.new.run) v done past.0 (visits_behind tree site n done)
    (visits_at tree inner ns ++ behind) is (passes (environment grown w) since) first
    (Walks-append mid (core_in c.walk_all.new.run) (core_in c.close.new.run) (visits_at tree inner ns) behind (later grown k)
    (c.in_ok-close-in-Held.ensures.ok (environment grown w) part))

pub walk_item-returns-in_err-close-in-Held-clause-many : goal.walk_item-returns-in_err-close-in-Held-clause-many
walk_item-returns-in_err-close-in-Held-clause-many g t c = λ far_off grown k.
    let n = c.args.id.0 in
    let w = g.D.SourceDatabase.workspace c.args.db.now in
    let site = c.args.site.now in
    let tree = c.args.source.now.value.tree in
    let part = part_of c.args.world in
    let h = head_of c.head_at-head.result in
    let item = c.index-item.result in
    let done = c.args.done in
    let heads : IfSome (slice_get (all_items tree.items) n) (λ i. h ≡ item_head i) =
    subst (λ (t : Tree). IfSome (slice_get (all_items t.items) n) (λ i. h ≡ item_head i)) (c.tree.ensures.value ∙ ap (λ (s : SourceTreeValue). s.tree)
    c.deref.ensures) c.head_at-head.ensures.value in
    let contents : IfSome (slice_get (all_items tree.items) n) (λ i. item_of (all_items tree.items) (item_head i) (kind_content item) ≡ i) =
    subst (λ (t : Tree). IfSome (slice_get (all_items t.items) n) (λ i. item_of (all_items t.items) (item_head i) (kind_content item) ≡ i))
    (c.tree-2.ensures.value ∙ ap (λ (s : SourceTreeValue). s.tree) c.deref-2.ensures) c.index-item.ensures.value in
    let v : Visit = visit site (item_of (all_items tree.items) h (kind_content item)) in
    let is : visits_behind tree site n done ≡ visits (behind v done) ∷ [] = visits_one tree n h (kind_content item) c.requires.there heads contents site done in
    let passed = core_in c.pass.new.run in
    let past = past_one c.in_ok-pass.field-0 (c.is_none.ensures ∙ ap not c.if-is_none.false) in
    let passes : (env : Environment) → KeepsTables c.pass.new.locations env.tables → Passes env part (core_in c.args.run.now) passed v done (Some past.0) =
    λ env keeps. subst (λ (o : Option ℕ). Passes env part (core_in c.args.run.now) passed v done o) past.1
    (holds_of_one tree n h (kind_content item) c.requires.there heads contents (λ (i : KeptItem). Passes env part (core_in c.args.run.now) passed (visit site i)
    done c.in_ok-pass.field-0) (c.in_ok-pass.ensures.ok env part keeps)) in
    let now = c.visit_item.new.locations in
    let mid = core_in c.visit_item.new.run in
    let inner = c.in-Held.inner in
    let ns = numbers_of c.in-Held.ids.now in
    let goes : IsWithin (length mid.map.modules) site inner × (ns ≡ held_numbers (kind_content item)) =
    subst (λ (o : Inside). GoesInside now (length mid.map.modules) site (held_numbers (kind_content item)) o) c.in-Held.is c.in_ok-inside.ensures.within in
    let first : HandlesAndSpreads (environment grown w) part passed mid v (visits_at tree inner ns ++ closing c.in-Held.macro_use site.home inner.home) =
    subst (λ (o : Inside). HandlesAndSpreads (environment grown w) part passed mid v (tasks_of site.home (all_items tree.items) o)) c.in-Held.is
    (c.in_ok-inside.ensures.ok grown (KeepsTables-trans now c.walk_all.new.locations grown c.in_ok-walk_all-in-Held.ensures.kept k) (all_items tree.items)) in
    let later : OnceGrown c.walk_all.new.locations w (λ env. Walks env part mid (core_in c.walk_all.new.run) (visits_at tree inner ns)) =
    subst (λ (v : Workspace). OnceGrown c.walk_all.new.locations v (λ env. Walks env part mid (core_in c.walk_all.new.run) (visits_at tree inner ns)))
    c.in_ok-inside.ensures.same c.in_ok-walk_all-in-Held.ensures.ok in
    let behind = closing c.in-Held.macro_use site.home inner.home in
    let since : KeepsTables c.pass.new.locations grown = KeepsTables-trans c.pass.new.locations now grown c.in_ok-inside.ensures.kept
    (KeepsTables-trans now c.walk_all.new.locations grown c.in_ok-walk_all-in-Held.ensures.kept k) in
    WalksTooFar-through (core_in c.args.run.now) passed mid v done past.0 (visits_behind tree site n done) (visits_at tree inner ns ++ behind) is
    (passes (environment grown w) since) first
    (WalksTooFar-behind mid (core_in c.walk_all.new.run) (visits_at tree inner ns) behind (later grown k)
    (c.in_err-close-in-Held.ensures.many (search rules) (environment grown w) part))

pub walk_item-close-requires : goal.walk_item-close-requires
walk_item-close-requires g t c =
    let n = c.args.id.0 in
    let w = g.D.SourceDatabase.workspace c.args.db.now in
    let site = c.args.site.now in
    let tree = c.args.source.now.value.tree in
    let part = part_of c.args.world in
    let h = head_of c.head_at-head.result in
    let item = c.index-item.result in
    let done = c.args.done in
    let heads : IfSome (slice_get (all_items tree.items) n) (λ i. h ≡ item_head i) =
    subst (λ (t : Tree). IfSome (slice_get (all_items t.items) n) (λ i. h ≡ item_head i)) (c.tree.ensures.value ∙ ap (λ (s : SourceTreeValue). s.tree)
    c.deref.ensures) c.head_at-head.ensures.value in
    let contents : IfSome (slice_get (all_items tree.items) n) (λ i. item_of (all_items tree.items) (item_head i) (kind_content item) ≡ i) =
    subst (λ (t : Tree). IfSome (slice_get (all_items t.items) n) (λ i. item_of (all_items t.items) (item_head i) (kind_content item) ≡ i))
    (c.tree-2.ensures.value ∙ ap (λ (s : SourceTreeValue). s.tree) c.deref-2.ensures) c.index-item.ensures.value in
    let v : Visit = visit site (item_of (all_items tree.items) h (kind_content item)) in
    let is : visits_behind tree site n done ≡ visits (behind v done) ∷ [] = visits_one tree n h (kind_content item) c.requires.there heads contents site done in
    let passed = core_in c.pass.new.run in
    let past = past_one c.in_ok-pass.field-0 (c.is_none.ensures ∙ ap not c.if-is_none.false) in
    let passes : (env : Environment) → KeepsTables c.pass.new.locations env.tables → Passes env part (core_in c.args.run.now) passed v done (Some past.0) =
    λ env keeps. subst (λ (o : Option ℕ). Passes env part (core_in c.args.run.now) passed v done o) past.1
    (holds_of_one tree n h (kind_content item) c.requires.there heads contents (λ (i : KeptItem). Passes env part (core_in c.args.run.now) passed (visit site i)
    done c.in_ok-pass.field-0) (c.in_ok-pass.ensures.ok env part keeps)) in
    let now = c.visit_item.new.locations in
    let last = c.walk_all.new.locations in
    let mid = core_in c.visit_item.new.run in
    let inner = c.in-Held.inner in
    let ns = numbers_of c.in-Held.ids.now in
    let goes : IsWithin (length mid.map.modules) site inner × (ns ≡ held_numbers (kind_content item)) =
    subst (λ (o : Inside). GoesInside now (length mid.map.modules) site (held_numbers (kind_content item)) o) c.in-Held.is c.in_ok-inside.ensures.within in
    let first : HandlesAndSpreads (environment last w) part passed mid v (visits_at tree inner ns ++ closing c.in-Held.macro_use site.home inner.home) =
    subst (λ (o : Inside). HandlesAndSpreads (environment last w) part passed mid v (tasks_of site.home (all_items tree.items) o)) c.in-Held.is
    (c.in_ok-inside.ensures.ok last c.in_ok-walk_all-in-Held.ensures.kept (all_items tree.items)) in
    let later : OnceGrown c.walk_all.new.locations w (λ env. Walks env part mid (core_in c.walk_all.new.run) (visits_at tree inner ns)) =
    subst (λ (v : Workspace). OnceGrown c.walk_all.new.locations v (λ env. Walks env part mid (core_in c.walk_all.new.run) (visits_at tree inner ns)))
    c.in_ok-inside.ensures.same c.in_ok-walk_all-in-Held.ensures.ok in
    let since : KeepsTables c.pass.new.locations last = KeepsTables-trans c.pass.new.locations now last c.in_ok-inside.ensures.kept
    c.in_ok-walk_all-in-Held.ensures.kept in
    let there : site.home < length mid.map.modules = still_there passed mid v (visits_at tree inner ns ++ closing c.in-Held.macro_use site.home inner.home)
    site.home past.0 (passes (environment last w) since).goes.0 first
    (there_behind (core_in c.args.run.now) passed v done (Some past.0) site.home (passes (environment last w) since) c.requires.in_range) in
    let longer : length mid.map.modules ≤ length (core_in c.walk_all.new.run).map.modules = longer_after mid (core_in c.walk_all.new.run)
    (visits_at tree inner ns) (later last (tables_stay last)) in
    record { in_range = omega (arith, there, longer) }

pub walk_item-returns-in_err-close-in-File-clause-kept : goal.walk_item-returns-in_err-close-in-File-clause-kept
walk_item-returns-in_err-close-in-File-clause-kept g t c =
    KeepsTables-trans c.args.locations.now c.pass.new.locations c.walk_all-in-File.new.locations c.in_ok-pass.ensures.kept
    (KeepsTables-trans c.pass.new.locations c.visit_item.new.locations c.walk_all-in-File.new.locations c.in_ok-inside.ensures.kept
    c.in_ok-walk_all-in-File.ensures.kept)

pub walk_item-returns-in_err-close-in-File-clause-placed : goal.walk_item-returns-in_err-close-in-File-clause-placed
walk_item-returns-in_err-close-in-File-clause-placed g t c =
    λ h. c.in_ok-walk_all-in-File.ensures.placed (c.in_ok-inside.ensures.placed (c.in_ok-pass.ensures.placed h))

pub walk_item-returns-in_ok-close-in-File-clause-kept : goal.walk_item-returns-in_ok-close-in-File-clause-kept
walk_item-returns-in_ok-close-in-File-clause-kept g t c =
    KeepsTables-trans c.args.locations.now c.pass.new.locations c.walk_all-in-File.new.locations c.in_ok-pass.ensures.kept
    (KeepsTables-trans c.pass.new.locations c.visit_item.new.locations c.walk_all-in-File.new.locations c.in_ok-inside.ensures.kept
    c.in_ok-walk_all-in-File.ensures.kept)

pub walk_item-returns-in_ok-close-in-File-clause-placed : goal.walk_item-returns-in_ok-close-in-File-clause-placed
walk_item-returns-in_ok-close-in-File-clause-placed g t c =
    λ h. c.in_ok-walk_all-in-File.ensures.placed (c.in_ok-inside.ensures.placed (c.in_ok-pass.ensures.placed h))

pub walk_item-returns-in_ok-close-in-File-clause-ok : goal.walk_item-returns-in_ok-close-in-File-clause-ok
walk_item-returns-in_ok-close-in-File-clause-ok g t c = λ grown k.
    let n = c.args.id.0 in
    let w = g.D.SourceDatabase.workspace c.args.db.now in
    let site = c.args.site.now in
    let tree = c.args.source.now.value.tree in
    let part = part_of c.args.world in
    let h = head_of c.head_at-head.result in
    let item = c.index-item.result in
    let done = c.args.done in
    let heads : IfSome (slice_get (all_items tree.items) n) (λ i. h ≡ item_head i) =
    subst (λ (t : Tree). IfSome (slice_get (all_items t.items) n) (λ i. h ≡ item_head i)) (c.tree.ensures.value ∙ ap (λ (s : SourceTreeValue). s.tree)
    c.deref.ensures) c.head_at-head.ensures.value in
    let contents : IfSome (slice_get (all_items tree.items) n) (λ i. item_of (all_items tree.items) (item_head i) (kind_content item) ≡ i) =
    subst (λ (t : Tree). IfSome (slice_get (all_items t.items) n) (λ i. item_of (all_items t.items) (item_head i) (kind_content item) ≡ i))
    (c.tree-2.ensures.value ∙ ap (λ (s : SourceTreeValue). s.tree) c.deref-2.ensures) c.index-item.ensures.value in
    let v : Visit = visit site (item_of (all_items tree.items) h (kind_content item)) in
    let is : visits_behind tree site n done ≡ visits (behind v done) ∷ [] = visits_one tree n h (kind_content item) c.requires.there heads contents site done in
    let passed = core_in c.pass.new.run in
    let past = past_one c.in_ok-pass.field-0 (c.is_none.ensures ∙ ap not c.if-is_none.false) in
    let passes : (env : Environment) → KeepsTables c.pass.new.locations env.tables → Passes env part (core_in c.args.run.now) passed v done (Some past.0) =
    λ env keeps. subst (λ (o : Option ℕ). Passes env part (core_in c.args.run.now) passed v done o) past.1
    (holds_of_one tree n h (kind_content item) c.requires.there heads contents (λ (i : KeptItem). Passes env part (core_in c.args.run.now) passed (visit site i)
    done c.in_ok-pass.field-0) (c.in_ok-pass.ensures.ok env part keeps)) in
    let now = c.visit_item.new.locations in
    let mid = core_in c.visit_item.new.run in
    let inner = c.in-File.inner in
    let source = c.in-File.source.value in
    let goes : IsOfFile now (length mid.map.modules) site inner =
    subst (λ (o : Inside). GoesInside now (length mid.map.modules) site (held_numbers (kind_content item)) o) c.in-File.is c.in_ok-inside.ensures.within in
    let first : HandlesAndSpreads (environment grown w) part passed mid v (visits_over inner source.tree.items ++ closing c.in-File.macro_use site.home
    inner.home) =
    subst (λ (o : Inside). HandlesAndSpreads (environment grown w) part passed mid v (tasks_of site.home (all_items tree.items) o)) c.in-File.is
    (c.in_ok-inside.ensures.ok grown (KeepsTables-trans now c.walk_all-in-File.new.locations grown c.in_ok-walk_all-in-File.ensures.kept k)
    (all_items tree.items)) in
    let items_same : visits_at source.tree inner (numbers_of c.top_level_items-ids.result.now) ≡ visits_over inner source.tree.items =
    ap (visits_over inner) (subst (λ (t : Tree). items_at (all_items t.items) (numbers_of c.top_level_items-ids.result.now) ≡ t.items)
    (c.tree-in-File.ensures.value ∙ ap (λ (s : SourceTreeValue). s.tree) c.deref-in-File.ensures) c.top_level_items-ids.ensures.value) in
    let later : OnceGrown c.walk_all-in-File.new.locations w (λ env. Walks env part mid (core_in c.walk_all-in-File.new.run)
    (visits_over inner source.tree.items)) =
    subst (λ (vs : List Task). OnceGrown c.walk_all-in-File.new.locations w (λ env. Walks env part mid (core_in c.walk_all-in-File.new.run) vs)) items_same
    (subst (λ (v : Workspace). OnceGrown c.walk_all-in-File.new.locations v (λ env. Walks env part mid (core_in c.walk_all-in-File.new.run)
    (visits_at source.tree inner (numbers_of c.top_level_items-ids.result.now)))) c.in_ok-inside.ensures.same c.in_ok-walk_all-in-File.ensures.ok) in
    let behind = closing c.in-File.macro_use site.home inner.home in
    let since : KeepsTables c.pass.new.locations grown = KeepsTables-trans c.pass.new.locations now grown c.in_ok-inside.ensures.kept
    (KeepsTables-trans now c.walk_all-in-File.new.locations grown c.in_ok-walk_all-in-File.ensures.kept k) in
    Walks-through (core_in c.args.run.now) passed mid (core_in c.close-in-File.new.run) v done past.0 (visits_behind tree site n done)
    (visits_over inner source.tree.items ++ behind) is (passes (environment grown w) since) first
    (Walks-append mid (core_in c.walk_all-in-File.new.run) (core_in c.close-in-File.new.run) (visits_over inner source.tree.items) behind (later grown k)
    (c.in_ok-close-in-File.ensures.ok (environment grown w) part))

pub walk_item-returns-in_err-close-in-File-clause-many : goal.walk_item-returns-in_err-close-in-File-clause-many
walk_item-returns-in_err-close-in-File-clause-many g t c = λ far_off grown k.
    let n = c.args.id.0 in
    let w = g.D.SourceDatabase.workspace c.args.db.now in
    let site = c.args.site.now in
    let tree = c.args.source.now.value.tree in
    let part = part_of c.args.world in
    let h = head_of c.head_at-head.result in
    let item = c.index-item.result in
    let done = c.args.done in
    let heads : IfSome (slice_get (all_items tree.items) n) (λ i. h ≡ item_head i) =
    subst (λ (t : Tree). IfSome (slice_get (all_items t.items) n) (λ i. h ≡ item_head i)) (c.tree.ensures.value ∙ ap (λ (s : SourceTreeValue). s.tree)
    c.deref.ensures) c.head_at-head.ensures.value in
    let contents : IfSome (slice_get (all_items tree.items) n) (λ i. item_of (all_items tree.items) (item_head i) (kind_content item) ≡ i) =
    subst (λ (t : Tree). IfSome (slice_get (all_items t.items) n) (λ i. item_of (all_items t.items) (item_head i) (kind_content item) ≡ i))
    (c.tree-2.ensures.value ∙ ap (λ (s : SourceTreeValue). s.tree) c.deref-2.ensures) c.index-item.ensures.value in
    let v : Visit = visit site (item_of (all_items tree.items) h (kind_content item)) in
    let is : visits_behind tree site n done ≡ visits (behind v done) ∷ [] = visits_one tree n h (kind_content item) c.requires.there heads contents site done in
    let passed = core_in c.pass.new.run in
    let past = past_one c.in_ok-pass.field-0 (c.is_none.ensures ∙ ap not c.if-is_none.false) in
    let passes : (env : Environment) → KeepsTables c.pass.new.locations env.tables → Passes env part (core_in c.args.run.now) passed v done (Some past.0) =
    λ env keeps. subst (λ (o : Option ℕ). Passes env part (core_in c.args.run.now) passed v done o) past.1
    (holds_of_one tree n h (kind_content item) c.requires.there heads contents (λ (i : KeptItem). Passes env part (core_in c.args.run.now) passed (visit site i)
    done c.in_ok-pass.field-0) (c.in_ok-pass.ensures.ok env part keeps)) in
    let now = c.visit_item.new.locations in
    let mid = core_in c.visit_item.new.run in
    let inner = c.in-File.inner in
    let source = c.in-File.source.value in
    let goes : IsOfFile now (length mid.map.modules) site inner =
    subst (λ (o : Inside). GoesInside now (length mid.map.modules) site (held_numbers (kind_content item)) o) c.in-File.is c.in_ok-inside.ensures.within in
    let first : HandlesAndSpreads (environment grown w) part passed mid v (visits_over inner source.tree.items ++ closing c.in-File.macro_use site.home
    inner.home) =
    subst (λ (o : Inside). HandlesAndSpreads (environment grown w) part passed mid v (tasks_of site.home (all_items tree.items) o)) c.in-File.is
    (c.in_ok-inside.ensures.ok grown (KeepsTables-trans now c.walk_all-in-File.new.locations grown c.in_ok-walk_all-in-File.ensures.kept k)
    (all_items tree.items)) in
    let items_same : visits_at source.tree inner (numbers_of c.top_level_items-ids.result.now) ≡ visits_over inner source.tree.items =
    ap (visits_over inner) (subst (λ (t : Tree). items_at (all_items t.items) (numbers_of c.top_level_items-ids.result.now) ≡ t.items)
    (c.tree-in-File.ensures.value ∙ ap (λ (s : SourceTreeValue). s.tree) c.deref-in-File.ensures) c.top_level_items-ids.ensures.value) in
    let later : OnceGrown c.walk_all-in-File.new.locations w (λ env. Walks env part mid (core_in c.walk_all-in-File.new.run)
    (visits_over inner source.tree.items)) =
    subst (λ (vs : List Task). OnceGrown c.walk_all-in-File.new.locations w (λ env. Walks env part mid (core_in c.walk_all-in-File.new.run) vs)) items_same
    (subst (λ (v : Workspace). OnceGrown c.walk_all-in-File.new.locations v (λ env. Walks env part mid (core_in c.walk_all-in-File.new.run)
    (visits_at source.tree inner (numbers_of c.top_level_items-ids.result.now)))) c.in_ok-inside.ensures.same c.in_ok-walk_all-in-File.ensures.ok) in
    let behind = closing c.in-File.macro_use site.home inner.home in
    let since : KeepsTables c.pass.new.locations grown = KeepsTables-trans c.pass.new.locations now grown c.in_ok-inside.ensures.kept
    (KeepsTables-trans now c.walk_all-in-File.new.locations grown c.in_ok-walk_all-in-File.ensures.kept k) in
    WalksTooFar-through (core_in c.args.run.now) passed mid v done past.0 (visits_behind tree site n done) (visits_over inner source.tree.items ++ behind) is
    (passes (environment grown w) since) first
    (WalksTooFar-behind mid (core_in c.walk_all-in-File.new.run) (visits_over inner source.tree.items) behind (later grown k)
    (c.in_err-close-in-File.ensures.many (search rules) (environment grown w) part))

pub walk_item-close-requires-in-File : goal.walk_item-close-requires-in-File
walk_item-close-requires-in-File g t c =
    let n = c.args.id.0 in
    let w = g.D.SourceDatabase.workspace c.args.db.now in
    let site = c.args.site.now in
    let tree = c.args.source.now.value.tree in
    let part = part_of c.args.world in
    let h = head_of c.head_at-head.result in
    let item = c.index-item.result in
    let done = c.args.done in
    let heads : IfSome (slice_get (all_items tree.items) n) (λ i. h ≡ item_head i) =
    subst (λ (t : Tree). IfSome (slice_get (all_items t.items) n) (λ i. h ≡ item_head i)) (c.tree.ensures.value ∙ ap (λ (s : SourceTreeValue). s.tree)
    c.deref.ensures) c.head_at-head.ensures.value in
    let contents : IfSome (slice_get (all_items tree.items) n) (λ i. item_of (all_items tree.items) (item_head i) (kind_content item) ≡ i) =
    subst (λ (t : Tree). IfSome (slice_get (all_items t.items) n) (λ i. item_of (all_items t.items) (item_head i) (kind_content item) ≡ i))
    (c.tree-2.ensures.value ∙ ap (λ (s : SourceTreeValue). s.tree) c.deref-2.ensures) c.index-item.ensures.value in
    let v : Visit = visit site (item_of (all_items tree.items) h (kind_content item)) in
    let is : visits_behind tree site n done ≡ visits (behind v done) ∷ [] = visits_one tree n h (kind_content item) c.requires.there heads contents site done in
    let passed = core_in c.pass.new.run in
    let past = past_one c.in_ok-pass.field-0 (c.is_none.ensures ∙ ap not c.if-is_none.false) in
    let passes : (env : Environment) → KeepsTables c.pass.new.locations env.tables → Passes env part (core_in c.args.run.now) passed v done (Some past.0) =
    λ env keeps. subst (λ (o : Option ℕ). Passes env part (core_in c.args.run.now) passed v done o) past.1
    (holds_of_one tree n h (kind_content item) c.requires.there heads contents (λ (i : KeptItem). Passes env part (core_in c.args.run.now) passed (visit site i)
    done c.in_ok-pass.field-0) (c.in_ok-pass.ensures.ok env part keeps)) in
    let now = c.visit_item.new.locations in
    let last = c.walk_all-in-File.new.locations in
    let mid = core_in c.visit_item.new.run in
    let inner = c.in-File.inner in
    let source = c.in-File.source.value in
    let goes : IsOfFile now (length mid.map.modules) site inner =
    subst (λ (o : Inside). GoesInside now (length mid.map.modules) site (held_numbers (kind_content item)) o) c.in-File.is c.in_ok-inside.ensures.within in
    let first : HandlesAndSpreads (environment last w) part passed mid v (visits_over inner source.tree.items ++ closing c.in-File.macro_use site.home
    inner.home) =
    subst (λ (o : Inside). HandlesAndSpreads (environment last w) part passed mid v (tasks_of site.home (all_items tree.items) o)) c.in-File.is
    (c.in_ok-inside.ensures.ok last c.in_ok-walk_all-in-File.ensures.kept (all_items tree.items)) in
    let items_same : visits_at source.tree inner (numbers_of c.top_level_items-ids.result.now) ≡ visits_over inner source.tree.items =
    ap (visits_over inner) (subst (λ (t : Tree). items_at (all_items t.items) (numbers_of c.top_level_items-ids.result.now) ≡ t.items)
    (c.tree-in-File.ensures.value ∙ ap (λ (s : SourceTreeValue). s.tree) c.deref-in-File.ensures) c.top_level_items-ids.ensures.value) in
    let later : OnceGrown c.walk_all-in-File.new.locations w (λ env. Walks env part mid (core_in c.walk_all-in-File.new.run)
    (visits_over inner source.tree.items)) =
    subst (λ (vs : List Task). OnceGrown c.walk_all-in-File.new.locations w (λ env. Walks env part mid (core_in c.walk_all-in-File.new.run) vs)) items_same
    (subst (λ (v : Workspace). OnceGrown c.walk_all-in-File.new.locations v (λ env. Walks env part mid (core_in c.walk_all-in-File.new.run)
    (visits_at source.tree inner (numbers_of c.top_level_items-ids.result.now)))) c.in_ok-inside.ensures.same c.in_ok-walk_all-in-File.ensures.ok) in
    let since : KeepsTables c.pass.new.locations last = KeepsTables-trans c.pass.new.locations now last c.in_ok-inside.ensures.kept
    c.in_ok-walk_all-in-File.ensures.kept in
    let there : site.home < length mid.map.modules = still_there passed mid v (visits_over inner source.tree.items ++ closing c.in-File.macro_use site.home
    inner.home) site.home past.0 (passes (environment last w) since).goes.0 first
    (there_behind (core_in c.args.run.now) passed v done (Some past.0) site.home (passes (environment last w) since) c.requires.in_range) in
    let longer : length mid.map.modules ≤ length (core_in c.walk_all-in-File.new.run).map.modules = longer_after mid (core_in c.walk_all-in-File.new.run)
    (visits_over inner source.tree.items) (later last (tables_stay last)) in
    record { in_range = omega (arith, there, longer) }

pub walk_item-returns-in-Nothing-clause-ok : goal.walk_item-returns-in-Nothing-clause-ok
walk_item-returns-in-Nothing-clause-ok g t c = λ grown k.
    let n = c.args.id.0 in
    let w = g.D.SourceDatabase.workspace c.args.db.now in
    let site = c.args.site.now in
    let tree = c.args.source.now.value.tree in
    let part = part_of c.args.world in
    let h = head_of c.head_at-head.result in
    let item = c.index-item.result in
    let done = c.args.done in
    let heads : IfSome (slice_get (all_items tree.items) n) (λ i. h ≡ item_head i) =
    subst (λ (t : Tree). IfSome (slice_get (all_items t.items) n) (λ i. h ≡ item_head i)) (c.tree.ensures.value ∙ ap (λ (s : SourceTreeValue). s.tree)
    c.deref.ensures) c.head_at-head.ensures.value in
    let contents : IfSome (slice_get (all_items tree.items) n) (λ i. item_of (all_items tree.items) (item_head i) (kind_content item) ≡ i) =
    subst (λ (t : Tree). IfSome (slice_get (all_items t.items) n) (λ i. item_of (all_items t.items) (item_head i) (kind_content item) ≡ i))
    (c.tree-2.ensures.value ∙ ap (λ (s : SourceTreeValue). s.tree) c.deref-2.ensures) c.index-item.ensures.value in
    let v : Visit = visit site (item_of (all_items tree.items) h (kind_content item)) in
    let is : visits_behind tree site n done ≡ visits (behind v done) ∷ [] = visits_one tree n h (kind_content item) c.requires.there heads contents site done in
    let passed = core_in c.pass.new.run in
    let past = past_one c.in_ok-pass.field-0 (c.is_none.ensures ∙ ap not c.if-is_none.false) in
    let passes : (env : Environment) → KeepsTables c.pass.new.locations env.tables → Passes env part (core_in c.args.run.now) passed v done (Some past.0) =
    λ env keeps. subst (λ (o : Option ℕ). Passes env part (core_in c.args.run.now) passed v done o) past.1
    (holds_of_one tree n h (kind_content item) c.requires.there heads contents (λ (i : KeptItem). Passes env part (core_in c.args.run.now) passed (visit site i)
    done c.in_ok-pass.field-0) (c.in_ok-pass.ensures.ok env part keeps)) in
    let first : HandlesAndSpreads (environment grown w) part passed (core_in c.visit_item.new.run) v [] =
    subst (λ (o : Inside). HandlesAndSpreads (environment grown w) part passed (core_in c.visit_item.new.run) v (tasks_of site.home (all_items tree.items) o))
    c.in-Nothing.is
    (c.in_ok-inside.ensures.ok grown k (all_items tree.items)) in
    let since : KeepsTables c.pass.new.locations grown = KeepsTables-trans c.pass.new.locations c.visit_item.new.locations grown c.in_ok-inside.ensures.kept k
    in
    Walks-through (core_in c.args.run.now) passed (core_in c.visit_item.new.run) (core_in c.visit_item.new.run) v done past.0 (visits_behind tree site n done)
    [] is (passes (environment grown w) since) first (record { steps = λ rest. none })

pub walk_item-returns-in-Nothing-clause-kept : goal.walk_item-returns-in-Nothing-clause-kept
walk_item-returns-in-Nothing-clause-kept g t c =
    KeepsTables-trans c.args.locations.now c.pass.new.locations c.visit_item.new.locations c.in_ok-pass.ensures.kept c.in_ok-inside.ensures.kept

pub walk_item-returns-in-Nothing-clause-placed : goal.walk_item-returns-in-Nothing-clause-placed
walk_item-returns-in-Nothing-clause-placed g t c = λ h. c.in_ok-inside.ensures.placed (c.in_ok-pass.ensures.placed h)

pub walk_item-returns-in_ok-close-in-Held-clause-noted : goal.walk_item-returns-in_ok-close-in-Held-clause-noted
walk_item-returns-in_ok-close-in-Held-clause-noted g t c =
    beside_follow (noted_beside c.in_ok-pass.ensures.noted)
    (beside_follow c.in_ok-inside.ensures.noted (beside_follow c.in_ok-walk_all-in-Held.ensures.noted (noted_beside c.in_ok-close-in-Held.ensures.noted)))

pub walk_item-returns-in_ok-close-in-File-clause-noted : goal.walk_item-returns-in_ok-close-in-File-clause-noted
walk_item-returns-in_ok-close-in-File-clause-noted g t c =
    beside_follow (noted_beside c.in_ok-pass.ensures.noted)
    (beside_follow c.in_ok-inside.ensures.noted (beside_follow c.in_ok-walk_all-in-File.ensures.noted (noted_beside c.in_ok-close-in-File.ensures.noted)))

pub walk_item-returns-in-Nothing-clause-noted : goal.walk_item-returns-in-Nothing-clause-noted
walk_item-returns-in-Nothing-clause-noted g t c = beside_follow (noted_beside c.in_ok-pass.ensures.noted) c.in_ok-inside.ensures.noted

pub walk_item-returns-in-Some-clause-noted : goal.walk_item-returns-in-Some-clause-noted
walk_item-returns-in-Some-clause-noted g t c = noted_beside c.in_ok-drop_item.ensures.noted

pub walk_item-returns-then-is_none-clause-noted : goal.walk_item-returns-then-is_none-clause-noted
walk_item-returns-then-is_none-clause-noted g t c = noted_beside c.in_ok-pass.ensures.noted
