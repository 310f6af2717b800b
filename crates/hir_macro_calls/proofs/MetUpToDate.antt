-- A queue that was up to date is so still where a call met an eager macro.
use Rattle.std.proofs.Common.{ℕ, Contains, List, Option, Some, subst, sym}
use Rattle.hir_collector_state.specs.HirDefMapRules.Overlay.{Maps}
use Rattle.hir_collector_state.specs.HirNameres.declared.nameres.path_resolution.slots.Slot.{Slot as PathSlot}
use Rattle.hir_call_queue.specs.declared.queue.CallQueue.{CallQueue}
use Rattle.hir_collector_state.specs.HirCollectorRules.declared.macro_directive.EagerMacro.{EagerMacro}
use Rattle.hir_collector_state.specs.HirCollectorRules.declared.macro_directive.MacroDirective.{MacroDirective}
use Rattle.hir_collector_state.specs.HirCollectorRules.declared.source_database.Key.{Key}
use Rattle.hir_collector_state.specs.HirCollectorRules.CallMoves.{OnlyMeets}
use Rattle.hir_collector_state.specs.HirCollectorRules.Calls.{IsWaiting}
use Rattle.hir_collector_state.specs.HirCollectorRules.Keys.{Environment}
use Rattle.hir_collector_state.specs.HirCollectorRules.State.{Core, at_rest, eager_among, eager_at}
use Rattle.hir_collector_state.specs.HirCollectorRules.Steps.{Steps}
use Rattle.hir_collector_state.proofs.HirCollectorRules.Eager.{keeps_eager}
use Rattle.hir_collector_state.specs.Waiting.{StandsStill}
use Rattle.hir_collector_imports.specs.Waiting.{IsUpToDate}
use Rattle.hir_macro_calls.proofs.Meeting.{lacks_met, waited_before}
use Rattle.hir_macro_calls.proofs.UpToDate.{vain_later}

module _ (finished : Maps) (q : CallQueue) (old : Core) (eager : List (List EagerMacro)) (asked : List Key) (count : ℕ)
    (kept : (i : ℕ) (e : EagerMacro) → Contains (eager_at old i) e → Contains (eager_among eager i) e) where
  abbrev met : Core
  met = record old { eager = eager; asked = asked; count = count }

  stands_met : (i : ℕ) (d : MacroDirective) (seen : List PathSlot) → StandsStill finished old i d seen → StandsStill finished met i d seen
  stands_met i d seen s = record {
    map = s.map;
    local = s.local;
    vain = vain_later finished s.local s.map (eager_at old i) (eager_among eager i) d seen (kept i) s.vain;
    low = s.low;
    in_order = s.in_order;
    there = s.there;
    keeps = s.keeps;
    outside = s.outside;
    agree = s.agree;
  }

  before : (i : ℕ) (d : MacroDirective) → IsWaiting (at_rest met) i d → IsWaiting (at_rest old) i d
  before i d waiting = waited_before finished old eager asked count i d waiting

  up_to_date_in : (tried : Option ℕ) → IsUpToDate finished q old tried → IsUpToDate finished q met tried
  up_to_date_in tried up = record {
    seen = up.seen;
    watched = up.watched;
    stands = λ a p d idle other waiting. stands_met p d (up.seen p) (up.stands a p d idle other (before p d waiting));
    on_items = λ a p d idle other waiting. up.on_items a p d idle other (before p d waiting);
    shallow = λ p d idle other waiting. up.shallow p d idle other (before p d waiting);
    nowhere = λ p d idle other waiting. lacks_met finished old eager asked count kept p d (up.nowhere p d idle other (before p d waiting));
    active = λ p d idle other waiting. up.active p d idle other (before p d waiting);
    unfinished = up.unfinished;
    count = up.count;
  }

pub up_to_date_met : {env : Environment} (finished : Maps) (q : CallQueue) (old new : Core) (i : ℕ) → OnlyMeets old new
    → Steps env finished (at_rest old) (at_rest new) → IsUpToDate finished q old (Some i) → IsUpToDate finished q new (Some i)
up_to_date_met finished q old new i meets steps up =
    subst (λ (c : Core). IsUpToDate finished q c (Some i)) (sym meets.is)
    (up_to_date_in finished q old meets.eager meets.asked meets.count
    (λ j e known. subst (λ (c : Core). Contains (eager_at c j) e) meets.is ((keeps_eager steps).seen j e known)) (Some i) up)
