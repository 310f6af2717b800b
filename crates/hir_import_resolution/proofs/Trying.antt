-- What is idle stays settled, whatever is tried and whatever changes.
use Rattle.std.proofs.Common.{◌≡◌, ◌≢◌, ◌∙◌, ap, sym, refl, subst, ℕ, Bool, true, false, Option, None, Some, List}
use Rattle.std.specs.List.{All}
use Rattle.std.specs.Prelude.{Contains, length, slice_get}
use Rattle.hir_def_map_rules.specs.Overlay.{Maps}
use Rattle.hir_def_map_rules.specs.State.{Local, Map}
use Rattle.hir_nameres.specs.contracts.nameres.path_resolution.slots.SlotOrd.TheImpl.Laws.{total-law as slot_total}
use Rattle.hir_nameres.specs.declared.nameres.path_resolution.slots.Slot.{Slot as PathSlot}
use Rattle.hir_def_map_laws.specs.ReadLaw.{stops_bare}
use Rattle.hir_def_map_laws.specs.SlotChanges.{ScopesChangeAmong}
use Rattle.hir_worklist.proofs.Settled.{IsUnread, restated, tried_settled}
use Rattle.hir_worklist.specs.Queue.{IsIdle, Queue}
use Rattle.hir_worklist.specs.Settling.{WatchesEach}
use Rattle.hir_worklist.specs.declared.watchers.Watchers.{Watchers}
use Rattle.hir_import_rules.specs.declared.directive.ImportDirective.{ImportDirective}
use Rattle.hir_import_rules.specs.declared.directive.ImportSource.{ImportSource}
use Rattle.hir_import_rules.specs.declared.directive.ImportSource.TheVariants as sources
use Rattle.hir_import_rules.specs.Directives.{TakenValue, path_answer, reached_by, target_of}
use Rattle.hir_import_resolution.specs.Inner.Queue.{AreIdleSettled, IsFirmBy, IsSettledFor, IsWoken, path_reads, reads_at, reads_by, slot_cmp}
use Rattle.hir_import_resolution.specs.Inner.State.{IsApart}
use Rattle.hir_import_rules.specs.Lasting.{IsThere}
use Rattle.hir_import_rules.specs.State.{ImportState, with_taken}
use Rattle.hir_import_resolution.proofs.Settled.{IsAlike, IsUnchanged, others_settled, stays_settled, unchanged}
use Rattle.hir_worklist.proofs.Woken.{woken_settled}

-- what is to last less
pub lowered : (lasting less apart : Bool) (finished : Maps) (s : ImportState) (now : Option ℕ) (q : Queue) (watchers : Watchers PathSlot)
    → (less ≡ true → lasting ≡ true)
    → AreIdleSettled lasting apart finished s now q watchers → AreIdleSettled less apart finished s now q watchers
lowered lasting less apart finished s now q watchers fewer idle =
    record {
      watched = idle.watched;
      settled = λ p rests other. let old = idle.settled p rests other
          in record { settled = old.settled; firm = λ e. old.firm (fewer e) };
    }

-- what was tried is settled, and nothing is tried any more
pub tried : (lasting apart : Bool) (finished : Maps) (s : ImportState) (i : ℕ) (q : Queue) (watchers : Watchers PathSlot) → AreIdleSettled lasting apart
    finished s (Some i) q watchers
    → WatchesEach slot_cmp watchers i (reads_at apart finished s i) → IsSettledFor lasting finished s i → AreIdleSettled lasting apart finished s None q
    watchers
tried lasting apart finished s i q watchers idle watches settled =
    tried_settled slot_cmp slot_total (reads_at apart finished s) (IsSettledFor lasting finished s) q watchers i idle (λ _. watches) (λ _. settled)

-- the same once what it reached is noted
pub noted : (lasting apart : Bool) (finished : Maps) (s : ImportState) (i : ℕ) (t : TakenValue) (q : Queue) (watchers : Watchers PathSlot)
    → AreIdleSettled lasting apart finished s (Some i) q watchers
    → WatchesEach slot_cmp watchers i (reads_at apart finished s i) → IsSettledFor lasting finished (with_taken s i t) i → AreIdleSettled lasting apart finished
    (with_taken s i t) None q watchers
noted lasting apart finished s i t q watchers idle watches settled =
    tried lasting apart finished (with_taken s i t) i q watchers
    (restated slot_cmp slot_total (reads_at apart finished s) (reads_at apart finished (with_taken s i t)) (IsSettledFor lasting finished s)
    (IsSettledFor lasting finished (with_taken s i t)) (Some i) q watchers
    idle (λ p rests other old. refl) (λ p rests other old. record {
      settled = others_settled finished s i p t other old.settled;
      firm = λ e r at. of_source r r.source (old.firm e r at);
    }))
    watches settled
  where
    of_source : (r : ImportDirective) (source : ImportSource) → IsFirmBy finished s r source → IsFirmBy finished (with_taken s i t) r source
    of_source r (sources.Use id kind) firm = record { unstopped = firm.unstopped; there = firm.there }
    of_source r (sources.ExternCrate id krate) firm = tt

-- the same of states that differ in nothing that imports read
pub same_scopes : (lasting apart : Bool) (finished : Maps) (s t : ImportState) (now : Option ℕ) (q : Queue) (watchers : Watchers PathSlot) → t.map ≡ s.map
    → t.local ≡ s.local
    → t.imports ≡ s.imports → t.taken ≡ s.taken → AreIdleSettled lasting apart finished s now q watchers → AreIdleSettled lasting apart finished t now q
    watchers
same_scopes lasting apart finished s t now q watchers map local imports taken idle =
    restated slot_cmp slot_total (reads_at apart finished s) (reads_at apart finished t) (IsSettledFor lasting finished s) (IsSettledFor lasting finished t) now
    q watchers idle
    (λ p rests other old. (λ i. reads_at apart finished (record t { map = map i; local = local i; imports = imports i }) p))
    (λ p rests other old. record {
      settled =
          stays_settled finished s t p (ap (λ (xs : List ImportDirective). slice_get xs p) imports) (ap (λ (xs : List TakenValue). slice_get xs p) taken)
          (λ d e. alike d) old.settled;
      firm = λ e r at. of_source r r.source (old.firm e r (sym (ap (λ (xs : List ImportDirective). slice_get xs p) imports) ∙ at));
    })
  where
    alike : (d : ImportDirective) → IsAlike finished s t d
    alike d = record {
      reached = λ i. reached_by finished (local i) (map i) d;
      target = λ by g i. target_of finished (local i) (map i) d;
    }

    of_source : (r : ImportDirective) (source : ImportSource) → IsFirmBy finished s r source → IsFirmBy finished t r source
    of_source r (sources.Use id kind) firm = record {
      unstopped = (λ i. stops_bare (map i) (path_answer finished (local i) (map i) r)) ∙ firm.unstopped;
      there = subst (λ (m : Map). All (IsThere (length m.modules)) (path_reads finished (record t { map = m }) r (sources.Use id kind))) (sym map)
          (subst (λ (l : Local). All (IsThere (length s.map.modules)) (path_reads finished (record t { map = s.map; local = l }) r (sources.Use id kind)))
          (sym local) firm.there);
    }
    of_source r (sources.ExternCrate id krate) firm = tt

-- an import is there in both states, and its takings reached the same before them
pub record IsSameAt (s t : ImportState) (p : ℕ) : Type 0 where
  pub import : slice_get t.imports p ≡ slice_get s.imports p
  pub taken : slice_get t.taken p ≡ slice_get s.taken p

-- what changes is woken: an import that is idle afterwards was there and reads none of it, so it means the same
pub woken_anew : (lasting apart : Bool) (finished : Maps) (s t : ImportState) (slots : List PathSlot) (q r : Queue) (watchers after : Watchers PathSlot)
    → ((p : ℕ) → IsIdle r p → IsSameAt s t p)
    → (apart ≡ true → (p : ℕ) (d : ImportDirective) → slice_get s.imports p ≡ Some d → (lasting ≡ true → IsFirmBy finished s d d.source)
    → ((slot : PathSlot) → Contains slots slot → ¬ Contains (path_reads finished s d d.source) slot) → IsUnchanged finished s t d d.source)
    → AreIdleSettled lasting apart finished s None q watchers → IsWoken apart slots q watchers r after → AreIdleSettled lasting apart finished t None r after
woken_anew lasting true finished s t slots q r watchers after stay same idle woken =
    restated slot_cmp slot_total (reads_at true finished s) (reads_at true finished t)
    (IsUnread slot_cmp slot_total (reads_at true finished s) (IsSettledFor lasting finished s) slots)
    (IsSettledFor lasting finished t) None r after
    (woken_settled slot_cmp slot_total (reads_at true finished s) (IsSettledFor lasting finished s) None r after q watchers slots (woken.watching refl) idle)
    (λ p rests other old.
    ap (reads_by finished t) (stay p rests).import ∙ same_reads p (slice_get s.imports p) refl (λ e d at. old.settled.firm e d at)
    (λ slot among. old.unread slot among))
    (λ p rests other old. record {
      settled = stays_settled finished s t p (stay p rests).import (stay p rests).taken (λ d e. (unchanged_at p other old d e).alike) old.settled.settled;
      firm =
          λ e d at. let before : slice_get s.imports p ≡ Some d = sym (stay p rests).import ∙ at in (unchanged_at p other old d before).firm
          (old.settled.firm e d before);
    })
  where
    unchanged_at : (p : ℕ) → None ≢ Some p → IsUnread slot_cmp slot_total (reads_at true finished s) (IsSettledFor lasting finished s) slots p
        → (d : ImportDirective) → slice_get s.imports p ≡ Some d
        → IsUnchanged finished s t d d.source
    unchanged_at p other old d e =
        same refl p d e (λ l. old.settled.firm l d e) (λ slot among. subst (λ (o : Option ImportDirective). ¬ Contains (reads_by finished s o) slot) e
        (old.unread slot among))

    same_reads : (p : ℕ) (o : Option ImportDirective) → slice_get s.imports p ≡ o → (lasting ≡ true → (d : ImportDirective) → slice_get s.imports p ≡ Some d
        → IsFirmBy finished s d d.source)
        → ((slot : PathSlot) → Contains slots slot → ¬ Contains (reads_by finished s o) slot) → reads_by finished t o ≡ reads_by finished s o
    same_reads p None e firm unread = refl
    same_reads p (Some d) e firm unread = (same refl p d e (λ l. firm l d e) unread).slots
woken_anew lasting false finished s t slots q r watchers after stay same idle woken = record {
  watched = record { each = λ p rests other. absurd (woken.all refl p rests) };
  settled = λ p rests other. absurd (woken.all refl p rests);
}

-- slots change in scopes alone, and what read them is woken
pub announced : (lasting apart : Bool) (finished : Maps) (s t : ImportState) (slots : List PathSlot) (q r : Queue) (watchers after : Watchers PathSlot)
    → (apart ≡ true → IsApart finished s.map.id s.local) → ScopesChangeAmong s.map t.map s.local slots → t.local ≡ s.local → t.imports ≡ s.imports → t.taken
    ≡ s.taken
    → AreIdleSettled lasting apart finished s None q watchers → IsWoken apart slots q watchers r after → AreIdleSettled lasting apart finished t None r after
announced lasting apart finished s t slots q r watchers after is_apart changes local imports taken idle woken =
    woken_anew lasting apart finished s t slots q r watchers after
    (λ p rests. record { import = ap (λ (xs : List ImportDirective). slice_get xs p) imports; taken = ap (λ (xs : List TakenValue). slice_get xs p) taken })
    (λ is p d e firm unread. unchanged finished s t slots d d.source refl (is_apart is) changes local unread) idle woken
