-- What stays of a session as its tables grow.
use Rattle.std.specs.Prelude.{is_none}
use Rattle.std.proofs.Common.{◌≡◌, ◌∙◌, ap, sym, subst, refl, ◌<◌, List, length, Option, Some, None, Contains}
use Rattle.hir_session_state.specs.HirIds.declared.ast_id.BlockId.{BlockId}
use Rattle.hir_session_state.specs.HirIds.declared.ids.MapId.{MapId}
use Rattle.hir_session_state.specs.HirIds.declared.ids.ModuleId.{ModuleId}
use Rattle.hir_session_state.proofs.HirTables.Growth.{KeepsTables-trans}
use Rattle.hir_session_state.specs.Crates.{CrateValue}
use Rattle.hir_session_state.specs.Due.{Grows, Resolved}
use Rattle.hir_session_state.specs.Kept.{Resolution, Resolutions, kept_in}
use Rattle.hir_session_state.specs.SessionState.{SessionState, is_marked, IsPlace}
use Rattle.hir_session_state.specs.SessionState.IsPlace.{of_block, of_crate}
use Rattle.hir_session_state.specs.SourceTable.{SourceTable}
use Rattle.hir_session_state.specs.Standing.{is_set}
use Rattle.hir_session_core.specs.Progress.{follows_under, AreFollowedCurrent}

module _ (old new : SessionState) (grown : Grows old new) where
  pub grown_mark : (id : MapId) → is_marked new id ≡ is_marked old id
  grown_mark id = ap (λ (kept : Resolutions). is_none (kept_in kept id)) grown.kept

  pub grown_place : (id : MapId) → IsPlace old id → IsPlace new id
  grown_place id (of_crate none within) = of_crate none (subst (λ (cs : List CrateValue). id.krate.0 < length cs) (sym grown.crates) within)
  grown_place id (of_block b place is means own within set) =
      of_block b place is (grown.tables.blocks b.0 place means) own (subst (λ (cs : List CrateValue). id.krate.0 < length cs) (sym grown.crates) within)
      (ap (λ (t : SourceTable). is_set t.blocks place) grown.sources ∙ set)

  grown_follows : (id : MapId) (o : Option BlockId) (holder : Option ModuleId) → follows_under new id o holder ≡ follows_under old id o holder
  grown_follows id None holder = (λ i. follows_under (record new { crates = grown.crates i }) id None holder)
  grown_follows id (Some b) holder = refl

  pub grown_followed : (id : MapId) (holder : Option ModuleId) → AreFollowedCurrent old id holder → AreFollowedCurrent new id holder
  grown_followed id holder current d among =
      grown_mark d ∙ current d (subst (λ (ds : List MapId). Contains ds d) (grown_follows id id.block holder) among)

-- a place was resolved once tables had grown
pub resolved_later : (old mid new : SessionState) (id : MapId) (r : Resolution) → Grows old mid → Resolved mid id r new → Resolved old id r new
resolved_later old mid new id r grown is = record {
  crates = is.crates ∙ grown.crates;
  tables = KeepsTables-trans _ _ _ grown.tables is.tables;
  sources = is.sources ∙ grown.sources;
  here = is.here;
  others = λ j ne. is.others j ne ∙ ap (λ (kept : Resolutions). kept_in kept j) grown.kept;
}

-- tables grew twice
pub grows_twice : (old mid new : SessionState) → Grows old mid → Grows mid new → Grows old new
grows_twice old mid new first second = record {
  crates = second.crates ∙ first.crates;
  tables = KeepsTables-trans _ _ _ first.tables second.tables;
  sources = second.sources ∙ first.sources;
  kept = second.kept ∙ first.kept;
  sound = second.sound;
}
