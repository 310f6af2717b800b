-- A try in which a call met an eager macro leaves all else, and what other calls wait for.
use Rattle.std.proofs.Common.{◌≡◌, ◌∙◌, ℕ, List, Contains, sym, ap, subst}
use Rattle.hir_collector_state.specs.HirDefMapRules.Overlay.{Maps}
use Rattle.hir_collector_state.specs.HirImportRules.Rest.{IsAtRest}
use Rattle.hir_collector_state.specs.HirCollectorRules.declared.macro_directive.EagerMacro.{EagerMacro}
use Rattle.hir_collector_state.specs.HirCollectorRules.declared.macro_directive.MacroDirective.{MacroDirective}
use Rattle.hir_collector_state.specs.HirCollectorRules.declared.source_database.Key.{Key}
use Rattle.hir_collector_state.specs.HirCollectorRules.CallMoves.{OnlyMeets}
use Rattle.hir_collector_state.specs.HirCollectorRules.Calls.{IsWaiting, LacksMacro, LeadsNowhere, lacks_inner, reaches_none}
use Rattle.hir_collector_state.specs.HirCollectorRules.Keys.{Environment}
use Rattle.hir_collector_state.specs.HirCollectorRules.State.{Core, at_rest, eager_among, eager_at, import_state}
use Rattle.hir_collector_state.specs.HirCollectorRules.Steps.{Steps}
use Rattle.hir_collector_state.proofs.HirCollectorRules.Eager.{keeps_eager}

-- nothing was done
pub meets_none : (old new : Core) → new ≡ old → OnlyMeets old new
meets_none old new same = record { eager = old.eager; asked = old.asked; count = old.count; is = same }

-- one after the other
pub meets_more : {a b c : Core} → OnlyMeets a b → OnlyMeets b c → OnlyMeets a c
meets_more p q = record {
  eager = q.eager;
  asked = q.asked;
  count = q.count;
  is = q.is ∙ ap (λ (x : Core). record x { eager = q.eager; asked = q.asked; count = q.count }) p.is;
}

module _ (finished : Maps) (old : Core) (eager : List (List EagerMacro)) (asked : List Key) (count : ℕ) where
  abbrev met : Core
  met = record old { eager = eager; asked = asked; count = count }

  -- imports rest still
  rests_met : IsAtRest finished (import_state (at_rest old)) → IsAtRest finished (import_state (at_rest met))
  rests_met rest = record {
    settled = λ i. let s = rest.settled i in record { among = s.among; linked = s.linked };
    recorded = λ i. let s = rest.recorded i in record {
      each = λ r t target at taken among.
          let found = s.each r t target at taken among in
          record { number = found.number; edge = found.edge; recorded = found.recorded; source = found.source; into = found.into };
    };
    closed = rest.closed;
    stands = rest.stands;
  }

  pub waited_before : (i : ℕ) (d : MacroDirective) → IsWaiting (at_rest met) i d → IsWaiting (at_rest old) i d
  waited_before i d waiting = record { call = waiting.call; waits = waiting.waits }

  module _ (kept : (i : ℕ) (e : EagerMacro) → Contains (eager_at old i) e → Contains (eager_among eager i) e) where
    pub lacks_met : (i : ℕ) (d : MacroDirective) → LacksMacro finished old i d → LacksMacro finished met i d
    lacks_met i d (reaches_none nowhere) = reaches_none nowhere
    lacks_met i d (lacks_inner makro by path called known same among missing) = lacks_inner makro by path called (kept i by known) same among missing

    nowhere_met : (i : ℕ) → LeadsNowhere finished (at_rest old) i → LeadsNowhere finished (at_rest met) i
    nowhere_met i h = record {
      shallow = λ d waiting. h.shallow d (waited_before i d waiting);
      nowhere = λ d waiting. lacks_met i d (h.nowhere d (waited_before i d waiting));
      active = λ d waiting. h.active d (waited_before i d waiting);
    }

module _ {env : Environment} {finished : Maps} (old new : Core) (meets : OnlyMeets old new) where
  -- what leads nowhere does so still
  pub nowhere_still : Steps env finished (at_rest old) (at_rest new) → (i : ℕ) → LeadsNowhere finished (at_rest old) i → LeadsNowhere finished (at_rest new) i
  nowhere_still steps i h =
      subst (λ (c : Core). LeadsNowhere finished (at_rest c) i) (sym meets.is)
      (nowhere_met finished old meets.eager meets.asked meets.count
      (λ j e known. subst (λ (c : Core). Contains (eager_at c j) e) meets.is ((keeps_eager steps).seen j e known)) i h)

-- imports rest still
pub rests_still : (finished : Maps) (old new : Core) → OnlyMeets old new → IsAtRest finished (import_state (at_rest old))
    → IsAtRest finished (import_state (at_rest new))
rests_still finished old new meets rest =
    subst (λ (c : Core). IsAtRest finished (import_state (at_rest c))) (sym meets.is) (rests_met finished old meets.eager meets.asked meets.count rest)
