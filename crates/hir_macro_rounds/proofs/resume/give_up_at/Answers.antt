-- An attribute is given up in one step, and then its item is handled behind it.
use Rattle.std.proofs.Common.{rules, arith, ◌≡◌, ◌∙◌, ◌+◌, ◌<◌, ◌≤◌, ◌++◌, [], Some, ap, length, refl, subst, sym}
use Rattle.hir_mod_collector.proofs.HirCollectorRules.Changes.{count-Steps}
use Rattle.hir_mod_collector.specs.HirItemTree.KeptForest.{all_items}
use Rattle.hir_mod_collector.specs.HirItemTree.SourceTree.{SourceTreeValue}
use Rattle.hir_mod_collector.specs.HirDefMapRules.Macros.{with_diagnostic}
use Rattle.hir_mod_collector.specs.HirNameres.WorldParts.{part_of}
use Rattle.hir_mod_collector.specs.HirMapParts.declared.diagnostics.DefDiagnostic.{DefDiagnostic}
use Rattle.hir_mod_collector.specs.HirCollectorRules.declared.start.TheConstants.{STEP_LIMIT}
use Rattle.hir_mod_collector.specs.HirCollectorRules.declared.macro_directive.Fate.TheVariants.{GivenUp, Waits}
use Rattle.hir_mod_collector.specs.HirCollectorRules.declared.site.Site.{Site}
use Rattle.hir_mod_collector.specs.HirCollectorRules.Calls.{IsMeantAt, IsMeantCall}
use Rattle.hir_mod_collector.specs.HirCollectorRules.Keys.{environment}
use Rattle.hir_mod_collector.specs.HirCollectorRules.Moves.{Walks, WalksTooFar}
use Rattle.hir_mod_collector.specs.HirCollectorRules.Reports.{call_report}
use Rattle.hir_mod_collector.specs.HirCollectorRules.State.{Core, at_rest, core_in, counted, eager_at, with_map}
use Rattle.hir_mod_collector.specs.HirCollectorRules.Steps.{FallsBack, falls_back}
use Rattle.hir_mod_collector.specs.HirCollectorRules.TreeReads.{visits_behind}
use Rattle.hir_collector_derives.proofs.CallSteps.{falls_back_at, given_up, kept_inside, kept_item, past_rule, went_on, went_too_far}
use Rattle.hir_macro_calls.proofs.GivingUp.{none_before}
use Rattle.hir_mod_collector.proofs.HirCollectorRules.Lists.{get_inside}
use Rattle.hir_mod_collector.proofs.HirCollectorRules.Numbers.{tables_stay}
use Rattle.hir_mod_collector.proofs.HirCollectorState.Noted.{beside_follow, noted_beside, noted_follow}
use Rattle.hir_macro_rounds.proofs.resume.give_up_at.Goals as goal

pub walk_item-requires-clause-in_range : goal.walk_item-requires-clause-in_range
walk_item-requires-clause-in_range g c =
    let old : Core = core_in c.args.run.now in
    let d = c.args.call.now in
    let same : (core_in c.tick.new.self).map.modules ≡ old.map.modules =
    ap (λ (x : Core). x.map.modules) c.in_ok-tick.ensures.ok ∙ ap (λ (x : Core). x.map.modules) c.in_ok-tell.ensures.ok ∙ ap (λ (x : Core). x.map.modules)
    c.end_call.ensures.value in
    subst (λ (s : Site). s.home < length (core_in c.tick.new.self).map.modules) (sym c.in_ok-site.ensures.value)
    (subst (λ ms. d.site.home < length ms) (sym same) (c.requires.ready.calls c.args.i d c.requires.waits.call))

pub walk_item-requires-clause-meant : goal.walk_item-requires-clause-meant
walk_item-requires-clause-meant g c =
    let meant : IsMeantCall c.args.locations.now c.args.call.now = c.requires.ready.meant c.args.i c.args.call.now c.requires.waits.call in
    subst (IsMeantAt c.args.locations.now) (sym c.in_ok-site.ensures.value) (record { tree = meant.site.tree; file = meant.site.file })

pub walk_item-requires-clause-there : goal.walk_item-requires-clause-there
walk_item-requires-clause-there g c =
    let meant : IsMeantCall c.args.locations.now c.args.call.now = c.requires.ready.meant c.args.i c.args.call.now c.requires.waits.call in
    subst (λ (s : SourceTreeValue). c.args.item.now.id.0 < length (all_items s.tree.items)) (sym c.tree.ensures.value)
    (kept_inside c.args.item.now (meant.item c.args.item.now c.requires.of))

pub returns-in_err-tick-clause-many : goal.returns-in_err-tick-clause-many
returns-in_err-tick-clause-many g c = λ h grown k.
    let old : Core = core_in c.args.run.now in
    let d = c.args.call.now in
    let meant : IsMeantCall c.args.locations.now d = c.requires.ready.meant c.args.i d c.requires.waits.call in
    let kept = kept_item c.args.item.now (meant.item c.args.item.now c.requires.of) in
    let env = environment grown (g.D.SourceDatabase.workspace c.args.db.now) in
    let part = part_of c.args.world in
    let may : FallsBack part (at_rest old) c.args.i d c.args.item.now kept.0 =
    falls_back_at env part old c.args.i d c.args.item.now kept.0 c.requires.rests c.requires.nowhere c.requires.first.first c.requires.waits c.requires.of
    kept.1 in
    let same : (core_in c.tell.new.self).count ≡ old.count = ap (λ (x : Core). x.count) c.in_ok-tell.ensures.ok ∙ ap (λ (x : Core). x.count)
    c.end_call.ensures.value in
    past_rule env part old (falls_back c.args.i d c.args.item.now kept.0) may tt tt
    (subst (λ n. STEP_LIMIT ≤ n) same (c.in_err-tick.ensures.many (search rules)))

pub returns-in_err-walk_item-clause-many : goal.returns-in_err-walk_item-clause-many
returns-in_err-walk_item-clause-many g c = λ h grown k.
    let old : Core = core_in c.args.run.now in
    let d = c.args.call.now in
    let meant : IsMeantCall c.args.locations.now d = c.requires.ready.meant c.args.i d c.requires.waits.call in
    let kept = kept_item c.args.item.now (meant.item c.args.item.now c.requires.of) in
    let env = environment grown (g.D.SourceDatabase.workspace c.args.db.now) in
    let part = part_of c.args.world in
    let may : FallsBack part (at_rest old) c.args.i d c.args.item.now kept.0 =
    falls_back_at env part old c.args.i d c.args.item.now kept.0 c.requires.rests c.requires.nowhere c.requires.first.first c.requires.waits c.requires.of
    kept.1 in
    let ended : Core = core_in c.end_call.new.self in
    let own : ended.map ≡ old.map = ap (λ (x : Core). x.map) c.end_call.ensures.value in
    let tells : core_in c.tell.new.self ≡ with_map ended (with_diagnostic ended.map (call_report part old.local old.map d (eager_at old c.args.i))) =
    subst (λ (r : DefDiagnostic). core_in c.tell.new.self ≡ with_map ended (with_diagnostic ended.map r)) c.in_ok-told.ensures.value c.in_ok-tell.ensures.ok in
    went_too_far c.args.item.now kept.0 c.in_ok-site.site d c.in_ok-site.ensures.value kept.1
    (given_up env part old c.args.i d c.args.item.now kept.0 ended (core_in c.tell.new.self) (core_in c.tick.new.self) may c.end_call.ensures.value tells
    c.in_ok-tick.ensures.ok)
    (subst (λ (s : SourceTreeValue). WalksTooFar env part (core_in c.tick.new.self) (visits_behind s.tree c.in_ok-site.site c.args.item.now.id.0
    c.args.item.now.done)) c.tree.ensures.value
    (c.in_err-walk_item.ensures.many (search rules) grown k))

pub returns-clause-ok : goal.returns-clause-ok
returns-clause-ok g c = λ grown k.
    let old : Core = core_in c.args.run.now in
    let d = c.args.call.now in
    let meant : IsMeantCall c.args.locations.now d = c.requires.ready.meant c.args.i d c.requires.waits.call in
    let kept = kept_item c.args.item.now (meant.item c.args.item.now c.requires.of) in
    let env = environment grown (g.D.SourceDatabase.workspace c.args.db.now) in
    let part = part_of c.args.world in
    let may : FallsBack part (at_rest old) c.args.i d c.args.item.now kept.0 =
    falls_back_at env part old c.args.i d c.args.item.now kept.0 c.requires.rests c.requires.nowhere c.requires.first.first c.requires.waits c.requires.of
    kept.1 in
    let ended : Core = core_in c.end_call.new.self in
    let tells : core_in c.tell.new.self ≡ with_map ended (with_diagnostic ended.map (call_report part old.local old.map d (eager_at old c.args.i))) =
    subst (λ (r : DefDiagnostic). core_in c.tell.new.self ≡ with_map ended (with_diagnostic ended.map r)) c.in_ok-told.ensures.value c.in_ok-tell.ensures.ok in
    went_on c.args.item.now kept.0 c.in_ok-site.site d c.in_ok-site.ensures.value kept.1
    (given_up env part old c.args.i d c.args.item.now kept.0 ended (core_in c.tell.new.self) (core_in c.tick.new.self) may c.end_call.ensures.value tells
    c.in_ok-tick.ensures.ok)
    (subst (λ (s : SourceTreeValue). Walks env part (core_in c.tick.new.self) (core_in c.walk_item.new.run)
    (visits_behind s.tree c.in_ok-site.site c.args.item.now.id.0 c.args.item.now.done)) c.tree.ensures.value
    (c.in_ok-walk_item.ensures.ok grown k))

-- none waited before it, and it doesn't wait any more
pub returns-clause-before : goal.returns-clause-before
returns-clause-before g c =
    let old : Core = core_in c.args.run.now in
    let now : Core = core_in c.tick.new.self in
    let tables = c.walk_item.new.locations in
    none_before old now (core_in c.walk_item.new.run) c.args.i (visits_behind c.tree.result.now.value.tree c.in_ok-site.site c.args.item.now.id.0
    c.args.item.now.done ++ [])
    c.requires.ready.fated c.requires.first.first (get_inside old.fates c.args.i Waits c.requires.waits.waits)
    (ap (λ (x : Core). x.calls) c.in_ok-tick.ensures.ok ∙ ap (λ (x : Core). x.calls) c.in_ok-tell.ensures.ok ∙ ap (λ (x : Core). x.calls)
    c.end_call.ensures.value)
    (ap (λ (x : Core). x.fates) c.in_ok-tick.ensures.ok ∙ ap (λ (x : Core). x.fates) c.in_ok-tell.ensures.ok ∙ ap (λ (x : Core). x.fates)
    c.end_call.ensures.value)
    ((c.in_ok-walk_item.ensures.ok tables (tables_stay tables)).steps [])

pub returns-clause-noted : goal.returns-clause-noted
returns-clause-noted g c =
    beside_follow (noted_beside (noted_follow c.end_call.ensures.noted (noted_follow c.in_ok-tell.ensures.noted c.in_ok-tick.ensures.noted)))
    c.in_ok-walk_item.ensures.noted

-- a step was taken
pub returns-clause-counts : goal.returns-clause-counts
returns-clause-counts g c =
    let tables = c.walk_item.new.locations in
    let told : (core_in c.tell.new.self).count ≡ (core_in c.args.run.now).count = ap (λ (x : Core). x.count) c.in_ok-tell.ensures.ok ∙ ap
    (λ (x : Core). x.count) c.end_call.ensures.value in
    let one : (core_in c.tick.new.self).count ≡ (core_in c.tell.new.self).count + 1 = ap (λ (x : Core). x.count) c.in_ok-tick.ensures.ok in
    let more = count-Steps ((c.in_ok-walk_item.ensures.ok tables (tables_stay tables)).steps []) in
    omega (arith, told, one, more)
