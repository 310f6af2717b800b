-- The runs of places are dropped, and the places taken out at their keys, one place after another.
use Rattle.std.proofs.Common.{◌≡◌, ◌∙◌, ap, sym, refl, Bool, true, false, not, ◌&&◌, ◌||◌, cond, Option, Some, None, List, [], ◌∷◌, ◌++◌}
use Rattle.std.specs.List.{list_any}
use Rattle.std.specs.BTreeMap.{BTreeMap, get, is_at}
use Rattle.std.proofs.lemmas.List.Folds.{list_any-append}
use Rattle.hir_collector_rules.specs.HirIds.declared.ids.MapId.{MapId}
use Rattle.hir_collector_rules.specs.HirIds.contracts.ids.MapIdOrd.TheImpl as map_order
use Rattle.hir_collector_rules.specs.HirTables.Tables.{TablesValue}
use Rattle.hir_collector_rules.specs.declared.source_database.Key.{Key}
use Rattle.hir_session_state.specs.Askers.{AreDropped, is_asked, is_asker, is_one, Leaves}
use Rattle.hir_session_state.specs.Kept.{asked_of}
use Rattle.hir_session_state.specs.SourceNumbers.{asks}
use Rattle.hir_session_state.specs.Types.{Askers, KeptRun, SourceNumber}
use Rattle.hir_session_state.proofs.Entering.{and-true, is_id}
use Rattle.hir_session_state.proofs.Ids.{equal_id, own_id}
use Rattle.hir_session_state.proofs.Truth.{clash}

abbrev RunsById : Type 0
RunsById = BTreeMap MapId KeptRun

abbrev run_at : RunsById → MapId → Option KeptRun
run_at runs id = get map_order.ghosts.cmp runs id

pub either_id : (a b : MapId) → is_id a b ≡ is_id b a
either_id a b = go (is_id a b) refl (is_id b a) refl
  where
    turned : (a b : MapId) → is_id a b ≡ true → is_id b a ≡ true
    turned a b e = ap (is_id b) (equal_id a b e) ∙ own_id b

    go : (p : Bool) → is_id a b ≡ p → (q : Bool) → is_id b a ≡ q → is_id a b ≡ is_id b a
    go true e q f = e ∙ sym (turned a b e)
    go false e true f = clash (turned b a f) e
    go false e false f = e ∙ sym f

-- a place that fell is dropped, as long as it isn't among those that are left
pub record IsDropping (tables : TablesValue) (all left : List MapId) (old : RunsById) (before : Askers) (now : RunsById) (mid : Askers) : Type 0 where
  pub runs : (id : MapId) → cond (is_one all id) None (run_at old id) ≡ cond (is_one left id) None (run_at now id)
  pub askers : (n : SourceNumber) (k : Key) (id : MapId)
      → (is_asker before n k id && not (is_one all id && is_asked tables (asked_of (run_at old id)) n k))
      ≡ (is_asker mid n k id && not (is_one left id && is_asked tables (asked_of (run_at now id)) n k))

pub dropping-start : (tables : TablesValue) (all : List MapId) (old : RunsById) (before : Askers) → IsDropping tables all all old before old before
dropping-start tables all old before = record { runs = λ id. refl; askers = λ n k id. refl }

-- ---- one more

module _ (tables : TablesValue) (all more left : List MapId) (old now new : RunsById) (before mid after : Askers) (on : MapId)
    (taken : more ≡ left ++ on ∷ []) (dropping : IsDropping tables all more old before now mid)
    (runs : (q : MapId) → run_at new q ≡ cond (is_id on q) None (run_at now q)) (leaves : Leaves tables mid after (asked_of (run_at now on)) on) where
  is_more : (id : MapId) → is_one more id ≡ (is_one left id || (is_id on id || false))
  is_more id =
      ap (list_any (is_id id)) taken ∙ list_any-append (is_id id) left (on ∷ []) ∙ ap (λ (b : Bool). is_one left id || (b || false)) (either_id id on)

  one_run : (id : MapId) (b : Bool) → is_id on id ≡ b → cond (is_one left id || (b || false)) None (run_at now id) ≡ cond (is_one left id) None (run_at new id)
  one_run id true e = none (is_one left id) ∙ ap (cond (is_one left id) None) (sym (runs id ∙ ap (λ (b : Bool). cond b None (run_at now id)) e))
    where
      none : (a : Bool) → cond (a || (true || false)) None (run_at now id) ≡ cond a None None
      none true = refl
      none false = refl
  one_run id false e = same (is_one left id) ∙ ap (cond (is_one left id) None) (sym (runs id ∙ ap (λ (b : Bool). cond b None (run_at now id)) e))
    where
      same : (a : Bool) → cond (a || (false || false)) None (run_at now id) ≡ cond a None (run_at now id)
      same true = refl
      same false = refl

  one_asker : (n : SourceNumber) (k : Key) (id : MapId) (b : Bool) → is_id on id ≡ b
      → (is_asker mid n k id && not ((is_one left id || (b || false)) && is_asked tables (asked_of (run_at now id)) n k))
      ≡ ((is_asker mid n k id && not (is_asked tables (asked_of (run_at now on)) n k && is_id on id))
      && not (is_one left id && is_asked tables (asked_of (run_at new id)) n k))
  one_asker n k id true e =
      here (is_asker mid n k id) (is_one left id) (is_asked tables (asked_of (run_at now id)) n k) (asks tables n k)
      ∙ ap (λ (j : MapId). (is_asker mid n k id && not (is_asked tables (asked_of (run_at now j)) n k && true))
      && not (is_one left id && is_asked tables [] n k)) (sym (equal_id on id e))
      ∙ ap (λ (b : Bool). (is_asker mid n k id && not (is_asked tables (asked_of (run_at now on)) n k && b)) && not (is_one left id && is_asked tables [] n k))
      (sym e)
      ∙ ap (λ (o : Option KeptRun). (is_asker mid n k id && not (is_asked tables (asked_of (run_at now on)) n k && is_id on id))
      && not (is_one left id && is_asked tables (asked_of o) n k)) (sym (runs id ∙ ap (λ (b : Bool). cond b None (run_at now id)) e))
    where
      here : (m l a x : Bool) → (m && not ((l || (true || false)) && a)) ≡ ((m && not (a && true)) && not (l && (false && x)))
      here true true true x = refl
      here true true false x = refl
      here true false true x = refl
      here true false false x = refl
      here false l a x = refl
  one_asker n k id false e =
      else (is_asker mid n k id) (is_one left id) (is_asked tables (asked_of (run_at now id)) n k) (is_asked tables (asked_of (run_at now on)) n k)
      ∙ ap (λ (b : Bool). (is_asker mid n k id && not (is_asked tables (asked_of (run_at now on)) n k && b))
      && not (is_one left id && is_asked tables (asked_of (run_at now id)) n k)) (sym e)
      ∙ ap (λ (o : Option KeptRun). (is_asker mid n k id && not (is_asked tables (asked_of (run_at now on)) n k && is_id on id))
      && not (is_one left id && is_asked tables (asked_of o) n k)) (sym (runs id ∙ ap (λ (b : Bool). cond b None (run_at now id)) e))
    where
      else : (m l a x : Bool) → (m && not ((l || (false || false)) && a)) ≡ ((m && not (x && false)) && not (l && a))
      else true true a true = refl
      else true true a false = refl
      else true false a true = refl
      else true false a false = refl
      else false l a x = refl

  pub dropping-step : IsDropping tables all left old before new after
  dropping-step = record {
    runs = λ id. dropping.runs id ∙ ap (λ (b : Bool). cond b None (run_at now id)) (is_more id) ∙ one_run id (is_id on id) refl;
    askers = λ n k id.
        dropping.askers n k id
        ∙ ap (λ (b : Bool). is_asker mid n k id && not (b && is_asked tables (asked_of (run_at now id)) n k)) (is_more id)
        ∙ one_asker n k id (is_id on id) refl
        ∙ ap (λ (b : Bool). b && not (is_one left id && is_asked tables (asked_of (run_at new id)) n k)) (sym (leaves n k id));
  }

pub dropping-end : (tables : TablesValue) (all left : List MapId) (old : RunsById) (before : Askers) (now : RunsById) (mid : Askers) → left ≡ []
    → IsDropping tables all left old before now mid → AreDropped tables all old before now mid
dropping-end tables all left old before now mid end dropping = record {
  runs = λ id. sym (dropping.runs id ∙ ap (λ (ids : List MapId). cond (is_one ids id) None (run_at now id)) end);
  askers = λ n k id. sym (
      dropping.askers n k id
      ∙ ap (λ (ids : List MapId). is_asker mid n k id && not (is_one ids id && is_asked tables (asked_of (run_at now id)) n k)) end
      ∙ and-true (is_asker mid n k id));
}
