-- What reaches a macro and is too deep is handled, and brings its helpers.
use Rattle.std.proofs.Common.{rules, ◌≡◌, ◌∙◌, ◌≤◌, None, ap, subst}
use Rattle.hir_collector_state.specs.HirNameres.WorldParts.{part_of}
use Rattle.hir_collector_state.specs.HirCollectorRules.declared.start.TheConstants.{STEP_LIMIT}
use Rattle.hir_collector_state.specs.HirCollectorRules.declared.macro_directive.MacroDirective.{MacroDirective}
use Rattle.hir_collector_state.specs.HirCollectorRules.Calls.{helpers_brought}
use Rattle.hir_collector_state.specs.HirCollectorRules.State.{Core, core_in}
use Rattle.hir_collector_state.specs.HirCollectorRules.Steps.{bringing, drops_reached}
use Rattle.hir_collector_derives.proofs.CallSteps.{dropped_reached, fate_helped, past_rule}
use Rattle.hir_collector_state.proofs.Made.{count_kept}
use Rattle.hir_collector_state.proofs.Noted.{noted_follow}
use Rattle.hir_collector_derives.proofs.derives.drop_reached.Goals as goal

pub returns-clause-ok : goal.returns-clause-ok
returns-clause-ok c = λ env.
    dropped_reached env (part_of c.args.world) (core_in c.args.run.now) c.args.i c.args.call.now c.args.makro (core_in c.end_call.new.self)
    (core_in c.bring_helpers.new.run) (core_in c.tick.new.self)
    c.requires.deep c.end_call.ensures.value c.in_ok-bring_helpers.ensures.ok c.in_ok-tick.ensures.ok

pub returns-clause-handled : goal.returns-clause-handled
returns-clause-handled c =
    let ended : Core = core_in c.end_call.new.self in
    let d : MacroDirective = c.args.call.now in
    fate_helped (core_in c.args.run.now) ended (core_in c.bring_helpers.new.run) (core_in c.tick.new.self) c.args.i d.ast_id
    (helpers_brought (part_of c.args.world) ended.map d c.args.makro None)
    c.requires.deep.called.due.waiting.waits (ap (λ (e : Core). e.fates) c.end_call.ensures.value) c.in_ok-bring_helpers.ensures.ok c.in_ok-tick.ensures.ok

pub returns-in_err-tick-clause-many : goal.returns-in_err-tick-clause-many
returns-in_err-tick-clause-many c = λ h env.
    let part = part_of c.args.world in
    let old : Core = core_in c.args.run.now in
    let ended : Core = core_in c.end_call.new.self in
    let helped : Core = core_in c.bring_helpers.new.run in
    let d : MacroDirective = c.args.call.now in
    let same : helped.count ≡ old.count =
    count_kept (bringing d.ast_id (helpers_brought part ended.map d c.args.makro None)) ended helped c.in_ok-bring_helpers.ensures.ok ∙ ap
    (λ (e : Core). e.count) c.end_call.ensures.value in
    past_rule env part old (drops_reached c.args.i d c.args.makro) c.requires.deep tt tt
    (subst (λ n. STEP_LIMIT ≤ n) same (c.in_err-tick.ensures.many (search rules)))

pub returns-clause-noted : goal.returns-clause-noted
returns-clause-noted c = noted_follow c.end_call.ensures.noted (noted_follow c.in_ok-bring_helpers.ensures.noted c.in_ok-tick.ensures.noted)
