-- What has read what has changed is queued, and what came besides.
use Rattle.std.proofs.Common.{◌≡◌, ◌∙◌, ◌≤◌, ap, refl, sym, subst, length, Bool, List, None, arith}
use Rattle.hir_collector_state.specs.HirNameres.WorldParts.{part_of}
use Rattle.hir_worklist.specs.Queue.{count_of}
use Rattle.hir_call_queue.specs.Waking.{is_apart, worklist_of}
use Rattle.hir_collector_state.specs.HirCollectorRules.State.{Core, core_in}
use Rattle.hir_collector_imports.specs.Waiting.{IsUpToDate}
use Rattle.hir_macro_calls.proofs.UpToDate.{up_to_date_again, up_to_date_appended}
use Rattle.hir_macro_calls.proofs.queue.requeue.Goals as goal

pub returns-clause-up_to_date : goal.returns-clause-up_to_date
returns-clause-up_to_date c =
    let part = part_of c.args.world in
    let stale = c.requires.stale in
    let woken = c.in_ok-wake.ensures.woken in
    let now = core_in c.args.run.now in
    let up : IsUpToDate part c.wake.new.queue now None =
    up_to_date_again part c.args.queue.now c.wake.new.queue stale.before c.args.run.now stale.noted stale.waits woken
    (λ yes. c.requires.apart (sym woken.on.apart ∙ yes)) stale.up_to_date in
    let settled : c.settled.result ≡ length now.calls = c.settled.ensures.value ∙ ap (λ (core : Core). core.settled) c.wake.ensures.same ∙ c.requires.settled in
    let fewer : count_of (worklist_of c.wake.new.queue) ≤ c.settled.result = omega (arith, settled, up.count) in
    let all : count_of (worklist_of c.append.new.self) ≡ c.settled.result = c.in_ok-append.ensures.count fewer in
    subst (λ (core : Core). IsUpToDate part c.append.new.self core None) (sym c.wake.ensures.same)
    (up_to_date_appended part c.wake.new.queue c.append.new.self now up c.in_ok-append.ensures.longer (omega (arith, all, settled)) c.append.ensures.rest)

pub returns-clause-between : goal.returns-clause-between
returns-clause-between c =
    let woken = c.in_ok-wake.ensures.woken in
    record {
      over = c.in_ok-append.ensures.longer.current ∙ woken.on.pass.outside c.requires.between.over c.requires.between.outside;
      outside = c.in_ok-append.ensures.longer.end ∙ woken.on.pass.end ∙ c.requires.between.outside;
    }

pub returns-clause-queue : goal.returns-clause-queue
returns-clause-queue c = ap is_apart c.append.ensures.rest ∙ c.in_ok-wake.ensures.woken.on.apart

pub returns-clause-all : goal.returns-clause-all
returns-clause-all c =
    let stale = c.requires.stale in
    let woken = c.in_ok-wake.ensures.woken in
    let settled : c.settled.result ≡ length (core_in c.args.run.now).calls = c.settled.ensures.value ∙ ap (λ (core : Core). core.settled) c.wake.ensures.same ∙
    c.requires.settled in
    let same : count_of (worklist_of c.wake.new.queue) ≡ count_of (worklist_of c.args.queue.now) = ap (λ (f : List Bool). length f) woken.on.pass.finished in
    let fewer : count_of (worklist_of c.wake.new.queue) ≤ c.settled.result = omega (arith, settled, same, stale.up_to_date.count, stale.waits.longer) in
    c.in_ok-append.ensures.count fewer ∙ settled ∙ sym (ap (λ (core : Core). length core.calls) c.wake.ensures.same)
