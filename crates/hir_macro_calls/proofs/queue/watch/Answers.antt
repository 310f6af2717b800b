-- A call that reaches no macro, or one that asks for a path which reaches none, watches what it has read.
use Rattle.std.proofs.Common.{◌∙◌, ◌≡◌, ◌++◌, ℕ, ap, subst, sym, List, None, Option, length}
use Rattle.hir_collector_state.specs.HirIds.declared.ast_id.AstId.{AstId}
use Rattle.hir_collector_state.specs.HirDefMapRules.State.{Map}
use Rattle.hir_collector_state.specs.HirNameres.WorldParts.{part_of}
use Rattle.hir_collector_state.specs.HirNameres.declared.nameres.path_resolution.slots.Slot.{Slot}
use Rattle.hir_call_queue.proofs.Woken.{goes_on_itself}
use Rattle.hir_call_queue.specs.Waking.{IsWatching}
use Rattle.hir_collector_state.specs.HirCollectorRules.Calls.{IsWaiting}
use Rattle.hir_collector_state.specs.HirCollectorRules.State.{at_rest, core_in}
use Rattle.hir_collector_state.specs.Waiting.{call_reads, inner_reads}
use Rattle.hir_collector_imports.specs.Waiting.{item_of}
use Rattle.hir_macro_calls.proofs.UpToDate.{up_to_date_over, up_to_date_watched}
use Rattle.hir_macro_calls.proofs.Watching.{goes_on_later, vain_alone, vain_behind, watching_both}
use Rattle.hir_macro_calls.proofs.queue.watch.Goals as goal

pub returns-in_default-clause-up_to_date : goal.returns-in_default-clause-up_to_date
returns-in_default-clause-up_to_date c =
    up_to_date_over (part_of c.args.world) c.args.queue.now c.args.queue.now (core_in c.args.run.now) c.args.i c.requires.up_to_date
    (λ d. c.in_default.ensures.none d)

-- its own path, where no other is missing
pub returns-in_default-missing_at-clause-up_to_date : goal.returns-in_default-missing_at-clause-up_to_date
returns-in_default-missing_at-clause-up_to_date c =
    let part = part_of c.args.world in
    let core = core_in c.args.run.now in
    let d = c.in-Some.call.now in
    let waits : IsWaiting (at_rest core) c.args.i d = c.in-Some.ensures.waits in
    let count : c.module_count.result ≡ length core.map.modules = c.module_count.ensures.value ∙ ap (λ (m : Map). length m.modules) c.map.ensures.value in
    let reads : List Slot = call_reads part core.local core.map d in
    let watching : IsWatching (length core.map.modules) reads (item_of d) c.args.i c.args.queue.now c.watch.new.self =
    subst (λ (n : ℕ). IsWatching n reads (item_of d) c.args.i c.args.queue.now c.watch.new.self) count
    (subst (λ (on : Option AstId). IsWatching c.module_count.result reads on c.args.i c.args.queue.now c.watch.new.self) c.item_of.ensures.value
    (subst (λ (slots : List Slot). IsWatching c.module_count.result slots c.item_of.result c.args.i c.args.queue.now c.watch.new.self)
    c.call_slots-slots.ensures.value c.in_ok-watch.ensures.watching)) in
    up_to_date_watched part c.args.queue.now c.watch.new.self core c.args.i c.requires.up_to_date d reads c.requires.apart waits c.requires.nowhere
    (vain_alone part core c.args.i d (c.requires.nowhere.nowhere d waits) (sym c.in_default-missing_at.ensures.value))
    (c.requires.low d waits.call) c.requires.in_order watching

-- or that and the first that is missing of those that its macro asks for
pub returns-clause-up_to_date : goal.returns-clause-up_to_date
returns-clause-up_to_date c =
    let part = part_of c.args.world in
    let core = core_in c.args.run.now in
    let d = c.in-Some.call.now in
    let path = c.in-Some-missing_at.path.now in
    let waits : IsWaiting (at_rest core) c.args.i d = c.in-Some.ensures.waits in
    let count : c.module_count.result ≡ length core.map.modules = c.module_count.ensures.value ∙ ap (λ (m : Map). length m.modules) c.map.ensures.value in
    let reads : List Slot = call_reads part core.local core.map d in
    let behind : List Slot = inner_reads part core.local core.map d.site.home path in
    let first : IsWatching (length core.map.modules) reads (item_of d) c.args.i c.args.queue.now c.watch.new.self =
    subst (λ (n : ℕ). IsWatching n reads (item_of d) c.args.i c.args.queue.now c.watch.new.self) count
    (subst (λ (on : Option AstId). IsWatching c.module_count.result reads on c.args.i c.args.queue.now c.watch.new.self) c.item_of.ensures.value
    (subst (λ (slots : List Slot). IsWatching c.module_count.result slots c.item_of.result c.args.i c.args.queue.now c.watch.new.self)
    c.call_slots-slots.ensures.value c.in_ok-watch.ensures.watching)) in
    let second : IsWatching (length core.map.modules) behind None c.args.i c.watch.new.self c.watch-2.new.self =
    subst (λ (n : ℕ). IsWatching n behind None c.args.i c.watch.new.self c.watch-2.new.self) (c.module_count-2.ensures.value ∙ ap
    (λ (m : Map). length m.modules) c.map-2.ensures.value)
    (subst (λ (slots : List Slot). IsWatching c.module_count-2.result slots None c.args.i c.watch.new.self c.watch-2.new.self)
    c.inner_slots-inner.ensures.value c.in_ok-watch-2.ensures.watching) in
    up_to_date_watched part c.args.queue.now c.watch-2.new.self core c.args.i c.requires.up_to_date d (reads ++ behind) c.requires.apart waits c.requires.nowhere
    (vain_behind part core c.args.i d path (sym c.in-Some-missing_at.ensures.value)) (c.requires.low d waits.call) c.requires.in_order
    (watching_both (length core.map.modules) reads behind (item_of d) c.args.i c.args.queue.now c.watch.new.self c.watch-2.new.self first second)

pub returns-in_default-clause-stays : goal.returns-in_default-clause-stays
returns-in_default-clause-stays c = goes_on_itself c.args.queue.now

pub returns-clause-stays : goal.returns-clause-stays
returns-clause-stays c = goes_on_later _ _ _ c.in_ok-watch.ensures.watching.on c.in_ok-watch-2.ensures.watching.on

pub returns-in_default-missing_at-clause-stays : goal.returns-in_default-missing_at-clause-stays
returns-in_default-missing_at-clause-stays c = c.in_ok-watch.ensures.watching.on
