-- What is kept, and who asked, once maps fell and the runs of their places were dropped.
use Rattle.std.proofs.Common.{◌≡◌, ◌⊎◌, ◌∙◌, ap, sym, subst, refl, inl, inr, ℕ, ◌+◌, Bool, true, false, not, ◌&&◌, ◌||◌, cond, is_some, Option, Some, None}
use Rattle.std.proofs.Common.{List, []}
use Rattle.std.proofs.Common.{◌∷◌, arith}
use Rattle.std.specs.List.{count_by, list_any}
use Rattle.std.specs.Option.{option_map}
use Rattle.std.specs.BTreeMap.{is_at}
use Rattle.std.specs.declared.alloc.Global.{Global}
use Rattle.std.specs.declared.vec.Vec.{Vec}
use Rattle.std.proofs.lemmas.List.Folds.{list_any-append}
use Rattle.std.proofs.lemmas.List.Sums.{sum_by-cons}
use Rattle.hir_collector_rules.specs.HirIds.declared.ids.MapId.{MapId}
use Rattle.hir_collector_rules.specs.HirIds.contracts.ids.MapIdOrd.TheImpl as map_order
use Rattle.hir_collector_rules.specs.HirNameres.declared.world.finished.Finished.{Finished}
use Rattle.hir_collector_rules.specs.HirNameres.Removal.{Depends, GainsRemoved, is_removed, refers_in as names_between}
use Rattle.hir_collector_rules.specs.HirTables.Tables.{TablesValue}
use Rattle.hir_collector_rules.specs.declared.source_database.Key.{Key}
use Rattle.hir_session_state.specs.Askers.{AreDropped, HoldsExactly, Lengthens, ListsFallen, asked_by, has_fallen, is_asked, is_asker, is_one}
use Rattle.hir_session_state.specs.Kept.{Resolution, asked_of, kept_in, names_in, resolution_at, resolutions_in}
use Rattle.hir_session_state.specs.Types.{Askers, KeptRun, SourceNumber}
use Rattle.hir_session_state.proofs.Entering.{and-true}
use Rattle.hir_session_state.proofs.KeptLemmas.{Runs, Store, found_in, kept_at, kept_gone, kept_stays, run_in}
use Rattle.hir_session_state.proofs.Truth.{clash}

-- ---- whether something is counted

none_counted : {A : Type 0} (test : A → Bool) (xs : List A) → count_by test xs ≡ 0 → list_any test xs ≡ false
none_counted {A} test [] e = refl
none_counted {A} test (x ∷ xs) e = go (none_counted test xs) (test x) (sym (sum_by-cons (λ (y : A). cond (test y) 1 0) x xs) ∙ e)
  where
    go : (count_by test xs ≡ 0 → list_any test xs ≡ false) → (b : Bool) → cond b 1 0 + count_by test xs ≡ 0 → (b || list_any test xs) ≡ false
    go rest true e = absurd (omega (arith, e))
    go rest false e = rest (omega (arith, e))

one_counted : {A : Type 0} (test : A → Bool) (xs : List A) → count_by test xs ≡ 1 → list_any test xs ≡ true
one_counted {A} test [] e = absurd (omega (arith, e))
one_counted {A} test (x ∷ xs) e = go (one_counted test xs) (test x) (sym (sum_by-cons (λ (y : A). cond (test y) 1 0) x xs) ∙ e)
  where
    go : (count_by test xs ≡ 1 → list_any test xs ≡ true) → (b : Bool) → cond b 1 0 + count_by test xs ≡ 1 → (b || list_any test xs) ≡ true
    go rest true e = refl
    go rest false e = rest (omega (arith, e))

any_counted : {A : Type 0} (test : A → Bool) (xs : List A) (b : Bool) → count_by test xs ≡ 0 + cond b 1 0 → list_any test xs ≡ b
any_counted test xs true e = one_counted test xs (omega (arith, e))
any_counted test xs false e = none_counted test xs (omega (arith, e))

not_both : (a : Bool) → (a && not a) ≡ false
not_both true = refl
not_both false = refl

module _ (tables : TablesValue) (old new : Store) (runs runs' : Runs) (before after : Askers) (ids : List MapId) (on : MapId)
    (gone : (id : MapId) → Depends (names_between old) on id → found_in new id ≡ None)
    (stays : (id : MapId) → ¬ Depends (names_between old) on id → found_in new id ≡ found_in old id)
    (gains : GainsRemoved old new [] ids) (dropped : AreDropped tables ids runs before runs' after) where
  -- those are dropped whose maps fell
  is_fallen : (id : MapId) → is_one ids id ≡ is_removed old new id
  is_fallen id = any_counted (is_at (map_order.ghosts.cmp id)) ids (is_removed old new id) (gains id)

  fallen_alike : (id : MapId) → has_fallen (resolutions_in old runs) (resolutions_in new runs') id ≡ is_removed old new id
  fallen_alike id =
      (λ i. is_some (kept_at old runs id i) && not (is_some (kept_at new runs' id i))) ∙ go (found_in old id) (found_in new id)
    where
      go : (o n : Option Finished)
          → (is_some (option_map (λ (f : Finished). resolution_at f (run_in runs id)) o)
          && not (is_some (option_map (λ (f : Finished). resolution_at f (run_in runs' id)) n))) ≡ (is_some o && not (is_some n))
      go None n = refl
      go (Some f) None = refl
      go (Some f) (Some g) = refl

  -- behind a list it has each place that fell
  pub fallen_listed : (list longer : Option (Vec MapId Global)) → Lengthens list ids longer
      → ListsFallen (resolutions_in old runs) (resolutions_in new runs') list longer
  fallen_listed list None h = tt
  fallen_listed None (Some longer) h = absurd h
  fallen_listed (Some list) (Some longer) h = λ id.
      ap (λ (xs : List MapId). is_one xs id) h
      ∙ list_any-append (is_at (map_order.ghosts.cmp id)) list.items ids
      ∙ ap (λ (b : Bool). is_one list.items id || b) (is_fallen id ∙ sym (fallen_alike id))

  same_run : (id : MapId) → found_in new id ≡ found_in old id → run_in runs' id ≡ run_in runs id
  same_run id stood =
      dropped.runs id
      ∙ ap (λ (b : Bool). cond b None (run_in runs id))
      (is_fallen id ∙ ap (λ (o : Option Finished). is_some (found_in old id) && not (is_some o)) stood ∙ not_both (is_some (found_in old id)))

  pub fallen_gone : (id : MapId) → Depends (names_in (resolutions_in old runs)) on id → kept_in (resolutions_in new runs') id ≡ None
  fallen_gone id d = kept_gone old new runs runs' on gone stays same_run id d

  pub fallen_stays : (id : MapId) → ¬ Depends (names_in (resolutions_in old runs)) on id
      → kept_in (resolutions_in new runs') id ≡ kept_in (resolutions_in old runs) id
  fallen_stays id none = kept_stays old new runs runs' on gone stays same_run id none

  -- a map that is there was there
  was_there : (id : MapId) → is_some (found_in new id) ≡ true → is_some (found_in old id) ≡ true
  was_there id here = go (found_in new id) refl
    where
      go : (o : Option Finished) → found_in new id ≡ o → is_some (found_in old id) ≡ true
      go None none = clash here (ap (λ (o : Option Finished). is_some o) none)
      go (Some f) is =
          ap (λ (o : Option Finished). is_some o)
          (sym (stays id (λ d. let wrong : None ≡ Some f = sym (gone id d) ∙ is in cc))) ∙ here

  -- what the run of a map asked for
  asked_found : (store : Store) (run : Runs) (n : SourceNumber) (k : Key) (id : MapId)
      → asked_by tables (kept_in (resolutions_in store run) id) n k ≡ (is_some (found_in store id) && is_asked tables (asked_of (run_in run id)) n k)
  asked_found store run n k id = ap (λ (o : Option Resolution). asked_by tables o n k) (kept_at store run id) ∙ go (found_in store id)
    where
      go : (o : Option Finished) → asked_by tables (option_map (λ (f : Finished). resolution_at f (run_in run id)) o) n k
          ≡ (is_some o && is_asked tables (asked_of (run_in run id)) n k)
      go None = refl
      go (Some f) = refl

  pub fallen_held : HoldsExactly tables (resolutions_in old runs) before → HoldsExactly tables (resolutions_in new runs') after
  fallen_held held = record {
    each = λ n k id.
        dropped.askers n k id
        ∙ (λ i. (held.each n k id ∙ asked_found old runs n k id) i && not (is_fallen id i && is_asked tables (asked_of (run_in runs id)) n k))
        ∙ go n k id (is_some (found_in old id)) (is_some (found_in new id)) (was_there id)
        ∙ ap (λ (r : Option KeptRun). is_some (found_in new id) && is_asked tables (asked_of r) n k)
        (sym (dropped.runs id ∙ ap (λ (b : Bool). cond b None (run_in runs id)) (is_fallen id)))
        ∙ sym (asked_found new runs' n k id);
  }
    where
      go : (n : SourceNumber) (k : Key) (id : MapId) (a b : Bool) → (b ≡ true → a ≡ true)
          → ((a && is_asked tables (asked_of (run_in runs id)) n k) && not ((a && not b) && is_asked tables (asked_of (run_in runs id)) n k))
          ≡ (b && is_asked tables (asked_of (cond (a && not b) None (run_in runs id))) n k)
      go n k id true true was = and-true (is_asked tables (asked_of (run_in runs id)) n k)
      go n k id true false was = not_both (is_asked tables (asked_of (run_in runs id)) n k)
      go n k id false true was = clash (was refl) refl
      go n k id false false was = refl
