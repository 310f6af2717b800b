-- At which keys places are entered: those for which their kept runs asked.
use Rattle.std.proofs.Common.{◌≡◌, ◌≢◌, ◌∙◌, ap, sym, subst, refl, Bool, true, false, ◌&&◌, ◌||◌, Option, Some, None, List, Contains}
use Rattle.std.specs.List.{list_any}
use Rattle.hir_collector_rules.specs.HirIds.declared.ids.MapId.{MapId}
use Rattle.hir_collector_rules.specs.HirTables.Tables.{TablesValue, KeepsTables}
use Rattle.hir_collector_rules.specs.Growth.{AskedKeysHaveMeaning}
use Rattle.hir_collector_rules.specs.Keys.{HasMeaning}
use Rattle.hir_collector_rules.specs.declared.source_database.Key.{Key}
use Rattle.hir_session_state.specs.Askers.{Enters, HoldsExactly, IsSame, asked_by, is_asked, is_asker}
use Rattle.hir_session_state.specs.Kept.{Resolutions, collected_of, kept_in}
use Rattle.hir_session_state.specs.SessionState.{SessionState, Resolution, IsSound, workspace_of, finished_of}
use Rattle.hir_session_state.specs.SourceNumbers.{asks, is_number}
use Rattle.hir_session_state.specs.Types.{Askers, SourceNumber}
use Rattle.hir_session_state.proofs.Depending.{found-any}
use Rattle.hir_session_state.proofs.Entering.{and-false, and-true, is_id, is_key, or-false}
use Rattle.hir_session_state.proofs.Ids.{equal_id, own_id}
use Rattle.hir_session_state.proofs.KeyIds.{equal_key}
use Rattle.hir_session_state.proofs.NumberLemmas.{asked-kept}
use Rattle.hir_session_state.proofs.Standing.{kept_gives}
use Rattle.hir_session_state.proofs.Truth.{clash}
use Rattle.hir_session_state.proofs.Worlds.{AgreeOn-refl}

-- where nothing is kept
pub none_held : (tables : TablesValue) (kept : Resolutions) (askers : Askers) → ((id : MapId) → kept_in kept id ≡ None)
    → ((n : SourceNumber) (k : Key) (id : MapId) → is_asker askers n k id ≡ false) → HoldsExactly tables kept askers
none_held tables kept askers none empty =
    record { each = λ n k id. empty n k id ∙ sym (ap (λ (o : Option Resolution). asked_by tables o n k) (none id)) }

-- a key that is one of some
pub among_keys : (keys : List Key) (k : Key) → list_any (is_key k) keys ≡ true → Contains keys k
among_keys keys k on =
    let found = found-any (is_key k) keys on in
    subst (λ (x : Key). Contains keys x) (sym (equal_key k found.0 found.2)) found.1

module _ (tables : TablesValue) (kept : Resolutions) (askers : Askers) (held : HoldsExactly tables kept askers) where
  -- a place of which nothing is kept is entered nowhere
  pub not_entered : (id : MapId) → kept_in kept id ≡ None → (n : SourceNumber) (k : Key) → is_asker askers n k id ≡ false
  not_entered id none n k = held.each n k id ∙ ap (λ (o : Option Resolution). asked_by tables o n k) none

  -- the same by another index
  pub held_same : (new : Askers) → IsSame askers new → HoldsExactly tables kept new
  held_same new same = record { each = λ n k id. same n k id ∙ held.each n k id }

  -- where tables grow in which the keys have a meaning
  pub held_grown : (grown : TablesValue) → KeepsTables tables grown → ((id : MapId) (r : Resolution) (key : Key) → kept_in kept id ≡ Some r
      → Contains r.asked key → HasMeaning tables key) → HoldsExactly grown kept askers
  held_grown grown keeps meant = record { each = λ n k id. held.each n k id ∙ go n k id (kept_in kept id) refl }
    where
      asked : (n : SourceNumber) (k : Key) (id : MapId) (r : Resolution) → kept_in kept id ≡ Some r → (b : Bool) → list_any (is_key k) r.asked ≡ b
          → (b && asks tables n k) ≡ (b && asks grown n k)
      asked n k id r is true on =
          sym (ap (is_number n) (asked-kept tables grown keeps k (meant id r k is (among_keys r.asked k on))))
      asked n k id r is false off = refl

      go : (n : SourceNumber) (k : Key) (id : MapId) (o : Option Resolution) → kept_in kept id ≡ o → asked_by tables o n k ≡ asked_by grown o n k
      go n k id None is = refl
      go n k id (Some r) is = asked n k id r is (list_any (is_key k) r.asked) refl

  -- where one more is kept that is entered
  pub held_kept : (new : Askers) (more : Resolutions) (own : MapId) (r : Resolution) → kept_in kept own ≡ None → kept_in more own ≡ Some r
      → ((j : MapId) → j ≢ own → kept_in more j ≡ kept_in kept j) → Enters tables askers new r.asked own → HoldsExactly tables more new
  held_kept new more own r none here others enters = record { each = λ n k id. enters n k id ∙ go n k id (is_id own id) refl }
    where
      go : (n : SourceNumber) (k : Key) (id : MapId) (b : Bool) → is_id own id ≡ b
          → (is_asker askers n k id || (is_asked tables r.asked n k && b)) ≡ asked_by tables (kept_in more id) n k
      go n k id true e =
          let P : MapId → Type 0 =
          λ j. (is_asker askers n k j || (is_asked tables r.asked n k && true)) ≡ asked_by tables (kept_in more j) n k in
          subst P (equal_id own id e)
          (ap (λ (b : Bool). b || (is_asked tables r.asked n k && true)) (not_entered own none n k)
          ∙ and-true (is_asked tables r.asked n k)
          ∙ sym (ap (λ (o : Option Resolution). asked_by tables o n k) here))
      go n k id false e =
          ap (λ (b : Bool). is_asker askers n k id || b) (and-false (is_asked tables r.asked n k))
          ∙ or-false (is_asker askers n k id)
          ∙ held.each n k id
          ∙ ap (λ (o : Option Resolution). asked_by tables o n k)
          (sym (others id (λ same. clash (ap (is_id own) same ∙ own_id own) e)))

-- ---- in a sound session

-- the keys of what is kept have a meaning
pub kept_meant : AskedKeysHaveMeaning → (s : SessionState) → IsSound s → (id : MapId) (r : Resolution) (key : Key) → kept_in s.kept id ≡ Some r
    → Contains r.asked key → HasMeaning s.tables key
kept_meant law s sound id r key is among =
    let p = kept_gives s sound id r is in
    law s.tables (workspace_of s) (finished_of s) p.from (collected_of r) p.meant (p.resolved.ends (workspace_of s) (finished_of s) AgreeOn-refl) key among
