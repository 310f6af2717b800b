-- What a refresh resolved so far, and what is left.
use Rattle.std.specs.Prelude.{is_none}
use Rattle.std.proofs.Common.{append_assoc, append-nil, ◌≡◌, ℕ, ◌+◌, ◌<◌, true, false, List, [], ◌∷◌, ◌++◌, length, arith, below_more, refl, sym, subst, ◌∙◌}
use Rattle.std.proofs.Common.{ap, Option, Result, Ok, Err, IsErrAnd}
use Rattle.hir_session_state.specs.HirBase.Place.{PlaceValue}
use Rattle.hir_session_state.specs.HirIds.declared.ids.MapId.{MapId}
use Rattle.hir_session_state.specs.Crates.{CrateValue, id_of}
use Rattle.hir_session_state.specs.SessionState.{SessionState, Resolution, kept_of, is_marked, IsSound}
use Rattle.hir_session_state.proofs.HirTables.Growth.{KeepsTables-refl, KeepsTables-trans}
use Rattle.hir_session_state.specs.Kept.{Resolutions, kept_in}
use Rattle.hir_session_state.specs.Due.{root_place, AreResolved, Grows, Resolved, HasOverlongRun, IsNext, IsStuckAt}
use Rattle.hir_session_state.specs.Due.AreResolved.{none as grown_so, more as resolved_then}
use Rattle.hir_session_state.specs.Due.IsNext.{crate as next_crate}
use Rattle.hir_session_state.specs.Changes.{Resolves}
use Rattle.hir_session_core.specs.Progress.{HasResolved, IsResolvedAt, WereResolved}
use Rattle.hir_session_core.specs.Progress.WereResolved.{none, more}
use Rattle.hir_session_state.proofs.Truth.{clash}

-- ---- what was resolved so far

-- nothing was
pub resolved_none : (s : SessionState) → IsSound s → HasResolved s [] s
resolved_none s sound = record { crates = refl; tables = KeepsTables-refl _; sources = refl; in_turn = none; others = λ id off. refl; sound = sound }

-- one more place was, which was next and marked
pub resolved_more : {old mid : SessionState} {done : List PlaceValue} (place : PlaceValue) (new : SessionState) → HasResolved old done mid → IsSound new
    → IsNext mid place
    → IsResolvedAt mid place new → HasResolved old (done ++ place ∷ []) new
resolved_more {old} {mid} {done} place new p sound next at = record {
  crates = at.resolved.crates ∙ p.crates;
  tables = KeepsTables-trans _ _ _ p.tables at.resolved.tables;
  sources = at.resolved.sources ∙ p.sources;
  in_turn = more done mid place new p.in_turn next at;
  others = λ id off.
      let was = p.others id off in
      at.resolved.others id (λ e. clash at.marked (ap (is_marked mid) (sym e) ∙ ap (λ (o : Option Resolution). is_none o) was ∙ off)) ∙ was;
  sound = sound;
}

-- what was resolved before, and then what is resolved
in_turn : {old mid new : SessionState} {places rest : List PlaceValue} → WereResolved old places mid → AreResolved mid rest new
    → AreResolved old (places ++ rest) new
in_turn none after = after
in_turn {old} {new = new} {rest = rest} (more places mid place next_state before next at) after =
    subst (λ (ps : List PlaceValue). AreResolved old ps new) (sym (append_assoc places (place ∷ []) rest))
    (in_turn before (resolved_then mid place at.id at.found next_state rest new next at.of at.resolved after))

-- tables may have grown since
pub resolves_grown : {old mid new : SessionState} {done : List PlaceValue} → HasResolved old done mid → Grows mid new → Resolves old done new
resolves_grown {old} {mid} {new} {done} p grown = record {
  crates = grown.crates ∙ p.crates;
  tables = KeepsTables-trans _ _ _ p.tables grown.tables;
  sources = grown.sources ∙ p.sources;
  in_turn = subst (λ (ps : List PlaceValue). AreResolved old ps new) (append-nil done) (in_turn p.in_turn (grown_so mid new grown));
  others = λ id off. ap (λ (kept : Resolutions). kept_in kept id) grown.kept ∙ p.others id off;
  sound = grown.sound;
}

-- nothing changed since
pub grows_not : (s : SessionState) → IsSound s → Grows s s
grows_not s sound = record { crates = refl; tables = KeepsTables-refl _; sources = refl; kept = refl; sound = sound }

-- ---- crates

-- the crates below were refreshed
pub record IsRefreshing (old new : SessionState) (done : List PlaceValue) (k : ℕ) : Type 0 where
  pub so_far : HasResolved old done new
  pub below : (j : ℕ) → j < k → is_marked new (id_of j) ≡ false

pub refreshing-start : (s : SessionState) → IsSound s → IsRefreshing s s [] 0
refreshing-start s sound = record { so_far = resolved_none s sound; below = λ j h. absurd (omega arith) }

-- one that was current
pub refreshing-skip : {old new : SessionState} {done : List PlaceValue} (k : ℕ) → IsRefreshing old new done k → is_marked new (id_of k) ≡ false
    → IsRefreshing old new done (k + 1)
refreshing-skip {old} {new} k p off = record {
  so_far = p.so_far;
  below = below_more _ k p.below off;
}

-- where no crate below is marked, a marked one is next
next_at : (s : SessionState) (k : ℕ) → ((j : ℕ) → j < k → is_marked s (id_of j) ≡ false) → k < length s.crates → is_marked s (id_of k) ≡ true
    → IsNext s (root_place k)
next_at s k below within on = next_crate k (record { within = within; marked = on }) (λ j low due. clash due.marked (below j low)) refl

-- one that was due
pub refreshing-more : {old mid : SessionState} {done : List PlaceValue} (k : ℕ) (r : Resolution) (new : SessionState) → IsRefreshing old mid done k
    → IsSound new
    → k < length mid.crates → is_marked mid (id_of k) ≡ true → Resolved mid (id_of k) r new
    → IsRefreshing old new (done ++ root_place k ∷ []) (k + 1)
refreshing-more {old} {mid} {done} k r new p sound within on is =
    let stays : (id : MapId) → is_marked mid id ≡ false → kept_of new id ≡ kept_of mid id =
    λ id off. is.others id (λ e. clash on (ap (is_marked mid) (sym e) ∙ off)) in
    record {
      so_far =
          resolved_more (root_place k) new p.so_far sound (next_at mid k p.below within on)
          (record { id = id_of k; found = r; of = refl; marked = on; resolved = is });
      below = below_more _ k
          (λ j h. ap (λ (o : Option Resolution). is_none o) (stays (id_of j) (p.below j h)) ∙ p.below j h)
          (ap (λ (o : Option Resolution). is_none o) is.here);
    }

-- the error that is passed on
pub passed_on : {T U E : Type 0} (given : Result T E) (told : Result U E) (e f : E) → given ≡ Err e → IsErrAnd told (λ x. x ≡ e) → told ≡ Err f → given ≡ Err f
passed_on given (Ok x) e f was h is = absurd h
passed_on {E = E} given (Err x) e f was h is = let same : x ≡ f = cc in was ∙ ap (λ (y : E). Err y) (sym h ∙ same)

-- a run that goes on for too long is that of the first crate that is due
pub overlong_first : {old mid new : SessionState} {done : List PlaceValue} (k : ℕ) → IsRefreshing old mid done k → Grows mid new
    → k < length mid.crates → is_marked mid (id_of k) ≡ true → IsStuckAt new (root_place k) → HasOverlongRun new
overlong_first {old} {mid} {new} k p grown within on stuck =
    let same : (id : MapId) → is_marked new id ≡ is_marked mid id = λ id. ap (λ (kept : Resolutions). is_none (kept_in kept id)) grown.kept in
    record {
      place = root_place k;
      next =
          next_at new k (λ j low. same (id_of j) ∙ p.below j low) (subst (λ (cs : List CrateValue). k < length cs) (sym grown.crates) within)
          (same (id_of k) ∙ on);
      stuck = stuck;
    }
