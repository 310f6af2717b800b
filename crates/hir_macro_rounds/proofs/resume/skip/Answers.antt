-- The item of an attribute that is passed over is handled behind it.
use Rattle.std.proofs.Common.{rules, [], ◌≡◌, ◌∙◌, ◌<◌, ◌≤◌, Some, ap, length, slice_get, subst, sym}
use Rattle.std.specs.Prelude.{IsSome}
use Rattle.hir_mod_collector.specs.HirItemTree.KeptForest.{KeptItem, all_items}
use Rattle.hir_mod_collector.specs.HirItemTree.SourceTree.{SourceTreeValue}
use Rattle.hir_mod_collector.specs.HirNameres.WorldParts.{part_of}
use Rattle.hir_mod_collector.specs.HirCollectorRules.declared.start.TheConstants.{STEP_LIMIT}
use Rattle.hir_mod_collector.specs.HirCollectorRules.declared.macro_directive.Fate.TheVariants.{Handled, Waits}
use Rattle.hir_mod_collector.specs.HirCollectorRules.declared.site.Site.{Site}
use Rattle.hir_mod_collector.specs.HirCollectorRules.declared.macro_directive.WaitingItem.{WaitingItem}
use Rattle.hir_mod_collector.specs.HirCollectorRules.Calls.{IsMeantAt, IsMeantCall, item_kept}
use Rattle.hir_mod_collector.specs.HirCollectorRules.Derivation.{IsSpent}
use Rattle.hir_mod_collector.specs.HirCollectorRules.Keys.{environment}
use Rattle.hir_mod_collector.specs.HirCollectorRules.Moves.{OnceGrown, Walks, WalksTooFar}
use Rattle.hir_mod_collector.specs.HirCollectorRules.State.{Core, at_rest, core_in, counted, joined, visits}
use Rattle.hir_mod_collector.specs.HirCollectorRules.Steps.{Skips, Step, skips_attribute, visit_behind}
use Rattle.hir_mod_collector.specs.HirCollectorRules.TreeReads.{visits_behind}
use Rattle.hir_collector_derives.proofs.CallSteps.{kept_inside, kept_item, past_rule, skipped, went_on, went_too_far}
use Rattle.hir_mod_collector.proofs.HirCollectorRules.Lists.{get_inside, get_set_same}
use Rattle.hir_mod_collector.proofs.HirCollectorRules.Numbers.{tables_stay}
use Rattle.hir_mod_collector.proofs.HirCollectorRules.Tried.{handled_stays}
use Rattle.hir_mod_collector.proofs.HirCollectorState.Noted.{beside_follow, noted_beside, noted_follow}
use Rattle.hir_macro_rounds.proofs.resume.skip.Goals as goal

pub walk_item-requires-clause-in_range : goal.walk_item-requires-clause-in_range
walk_item-requires-clause-in_range g c =
    let old : Core = core_in c.args.run.now in
    let d = c.args.call.now in
    let same : (core_in c.tick.new.self).map ≡ old.map = ap (λ (x : Core). x.map) (c.in_ok-tick.ensures.ok ∙ ap counted c.end_call.ensures.value) in
    subst (λ (s : Site). s.home < length (core_in c.tick.new.self).map.modules) (sym c.in_ok-site.ensures.value)
    (subst (λ m. d.site.home < length m.modules) (sym same) (c.requires.ready.calls c.args.i d c.requires.due.waiting.call))

pub walk_item-requires-clause-meant : goal.walk_item-requires-clause-meant
walk_item-requires-clause-meant g c =
    let meant : IsMeantCall c.args.locations.now c.args.call.now = c.requires.ready.meant c.args.i c.args.call.now c.requires.due.waiting.call in
    subst (IsMeantAt c.args.locations.now) (sym c.in_ok-site.ensures.value) (record { tree = meant.site.tree; file = meant.site.file })

pub walk_item-requires-clause-there : goal.walk_item-requires-clause-there
walk_item-requires-clause-there g c =
    let meant : IsMeantCall c.args.locations.now c.args.call.now = c.requires.ready.meant c.args.i c.args.call.now c.requires.due.waiting.call in
    subst (λ (s : SourceTreeValue). c.args.item.now.id.0 < length (all_items s.tree.items)) (sym c.tree.ensures.value)
    (kept_inside c.args.item.now (meant.item c.args.item.now c.requires.of))

pub returns-in_err-tick-clause-many : goal.returns-in_err-tick-clause-many
returns-in_err-tick-clause-many g c = λ h grown k.
    let old : Core = core_in c.args.run.now in
    let d = c.args.call.now in
    let meant : IsMeantCall c.args.locations.now d = c.requires.ready.meant c.args.i d c.requires.due.waiting.call in
    let kept = kept_item c.args.item.now (meant.item c.args.item.now c.requires.of) in
    let may : Skips (part_of c.args.world) (at_rest old) c.args.i d c.args.item.now kept.0 =
    record { due = c.requires.due; of = record { waits = c.requires.of; kept = kept.1 }; passed = c.requires.passed } in
    past_rule (environment grown (g.D.SourceDatabase.workspace c.args.db.now)) (part_of c.args.world) old (skips_attribute c.args.i d c.args.item.now kept.0)
    may tt tt
    (subst (λ (x : Core). STEP_LIMIT ≤ x.count) c.end_call.ensures.value (c.in_err-tick.ensures.many (search rules)))

pub returns-in_err-walk_item-clause-many : goal.returns-in_err-walk_item-clause-many
returns-in_err-walk_item-clause-many g c = λ h grown k.
    let old : Core = core_in c.args.run.now in
    let d = c.args.call.now in
    let meant : IsMeantCall c.args.locations.now d = c.requires.ready.meant c.args.i d c.requires.due.waiting.call in
    let kept = kept_item c.args.item.now (meant.item c.args.item.now c.requires.of) in
    let may : Skips (part_of c.args.world) (at_rest old) c.args.i d c.args.item.now kept.0 =
    record { due = c.requires.due; of = record { waits = c.requires.of; kept = kept.1 }; passed = c.requires.passed } in
    let env = environment grown (g.D.SourceDatabase.workspace c.args.db.now) in
    went_too_far c.args.item.now kept.0 c.in_ok-site.site d c.in_ok-site.ensures.value kept.1
    (skipped env (part_of c.args.world) old c.args.i d c.args.item.now kept.0 (core_in c.end_call.new.self) (core_in c.tick.new.self) may
    c.end_call.ensures.value c.in_ok-tick.ensures.ok)
    (subst (λ (s : SourceTreeValue). WalksTooFar env (part_of c.args.world) (core_in c.tick.new.self)
    (visits_behind s.tree c.in_ok-site.site c.args.item.now.id.0 c.args.item.now.done)) c.tree.ensures.value
    (c.in_err-walk_item.ensures.many (search rules) grown k))

pub returns-clause-ok : goal.returns-clause-ok
returns-clause-ok g c = λ grown k.
    let old : Core = core_in c.args.run.now in
    let d = c.args.call.now in
    let meant : IsMeantCall c.args.locations.now d = c.requires.ready.meant c.args.i d c.requires.due.waiting.call in
    let kept = kept_item c.args.item.now (meant.item c.args.item.now c.requires.of) in
    let may : Skips (part_of c.args.world) (at_rest old) c.args.i d c.args.item.now kept.0 =
    record { due = c.requires.due; of = record { waits = c.requires.of; kept = kept.1 }; passed = c.requires.passed } in
    let env = environment grown (g.D.SourceDatabase.workspace c.args.db.now) in
    went_on c.args.item.now kept.0 c.in_ok-site.site d c.in_ok-site.ensures.value kept.1
    (skipped env (part_of c.args.world) old c.args.i d c.args.item.now kept.0 (core_in c.end_call.new.self) (core_in c.tick.new.self) may
    c.end_call.ensures.value c.in_ok-tick.ensures.ok)
    (subst (λ (s : SourceTreeValue). Walks env (part_of c.args.world) (core_in c.tick.new.self) (core_in c.walk_item.new.run)
    (visits_behind s.tree c.in_ok-site.site c.args.item.now.id.0 c.args.item.now.done)) c.tree.ensures.value
    (c.in_ok-walk_item.ensures.ok grown k))

-- it stays handled
pub returns-clause-handled : goal.returns-clause-handled
returns-clause-handled g c =
    let old : Core = core_in c.args.run.now in
    let now : slice_get (core_in c.tick.new.self).fates c.args.i ≡ Some Handled =
    ap (λ (x : Core). slice_get x.fates c.args.i) (c.in_ok-tick.ensures.ok ∙ ap counted c.end_call.ensures.value)
    ∙ get_set_same old.fates c.args.i Handled (get_inside old.fates c.args.i Waits c.requires.due.waiting.waits) in
    let tables = c.walk_item.new.locations in
    handled_stays ((c.in_ok-walk_item.ensures.ok tables (tables_stay tables)).steps []) c.args.i now

pub returns-clause-noted : goal.returns-clause-noted
returns-clause-noted g c = beside_follow (noted_beside (noted_follow c.end_call.ensures.noted c.in_ok-tick.ensures.noted)) c.in_ok-walk_item.ensures.noted
