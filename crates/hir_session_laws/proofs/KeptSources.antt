-- What is kept binds only what sources write that its runs asked for.
use Rattle.std.proofs.Common.{◌≡◌, sym, subst, refl, arith, suc, false, Option, Some, None, option_map, Contains}
use Rattle.hir_session_machine.specs.HirBase.declared.tree_id.TreeKey.{TreeKey}
use Rattle.hir_session_machine.specs.HirIds.declared.ast_id.BlockId.{BlockId}
use Rattle.hir_session_machine.specs.HirIds.declared.ids.MapId.{MapId}
use Rattle.hir_session_machine.specs.HirIds.declared.ids.ModuleId.{ModuleId}
use Rattle.hir_session_machine.specs.HirNameres.WorldParts.{among}
use Rattle.hir_session_machine.specs.HirDefMapRules.Overlay.{Placed}
use Rattle.hir_session_machine.specs.HirDefMapRules.Scoping.Asking.{local_of}
use Rattle.hir_session_machine.specs.HirDefMapRules.Sources.{HoldsNowhere, HoldsNowhereIn, HoldsOfNoExtern, SourceTest}
use Rattle.hir_session_machine.specs.HirDefMapRules.State.{crate_map}
use Rattle.hir_session_machine.proofs.HirSessionState.HirDefMapRules.StaysSourced.{HoldsNowhere-overlay}
use Rattle.hir_session_machine.specs.HirCollectorRules.Start.{Beginning, read_by}
use Rattle.hir_session_machine.specs.HirCollectorRules.declared.source_database.Key.TheVariants as keys
use Rattle.hir_session_machine.specs.HirDefCollectorLaws.Sources.{BeginsClear, IsClearOf, RunsBindFromSources}
use Rattle.hir_session_machine.specs.HirSessionState.Crates.{transitive_in}
use Rattle.hir_session_machine.specs.HirSessionState.Kept.{Resolution}
use Rattle.hir_session_machine.specs.HirSessionState.SessionState.{SessionState, beginning_by, finished_of, kept_of, read_under, workspace_of, IsSound}
use Rattle.hir_session_machine.proofs.HirSessionState.Holding.{start_holders}
use Rattle.hir_session_machine.proofs.HirSessionState.Standing.{block_begun, kept_gives}
use Rattle.hir_session_machine.proofs.HirSessionState.Truth.{one_value}
use Rattle.hir_session_machine.proofs.HirSessionAnswers.LeftOut.{binds, maps_behind, start_of}
use Rattle.hir_session_machine.proofs.HirSessionAnswers.ReadMaps.{krate_is, rank, reads}

module _ (runs : RunsBindFromSources) (s : SessionState) (sound : IsSound s) (t : SourceTest) (shows : (m : ModuleId) → t.shown m ≡ false)
    (written : (j : MapId) (f : Resolution) → kept_of s j ≡ Some f → (key : TreeKey) → Contains f.asked (keys.Tree key)
    → t.holder key.id.file key.id.block ≡ false) where
  -- a test of sources that holds of no tree that a run asked for holds of nothing that is bound
  pub bound : (j : MapId) (f : Resolution) → kept_of s j ≡ Some f → HoldsNowhereIn t f.map × HoldsOfNoExtern t f.local
  bound j f is = binds runs s sound t written (suc (rank j f)) j f is (omega arith) (λ m there. shows m)

  pub read_clear : (j : MapId) (f : Resolution) → kept_of s j ≡ Some f → HoldsNowhere t (read_under s j f.holders)
  read_clear j f is id placed e =
      let own = reads s sound j f is id placed e in
      subst (λ (p : Placed). HoldsNowhereIn t p.map) (sym own.map) (bound id own.found own.is_kept).0

  pub maps_clear : (j : MapId) (f : Resolution) → kept_of s j ≡ Some f → HoldsNowhere t (maps_behind s j f)
  maps_clear j f is = HoldsNowhere-overlay t (read_under s j f.holders) f.map (read_clear j f is) (bound j f is).0

  local_clear : (j : MapId) (f : Resolution) → kept_of s j ≡ Some f → (id : MapId)
      → HoldsOfNoExtern t (local_of (option_map (λ (p : Placed). p.local) (read_under s j f.holders id)))
  local_clear j f is id = go (read_under s j f.holders id) refl
    where
      go : (o : Option Placed) → read_under s j f.holders id ≡ o → HoldsOfNoExtern t (local_of (option_map (λ (p : Placed). p.local) o))
      go None e = refl
      go (Some placed) e =
          let own = reads s sound j f is id placed e in
          subst (λ (p : Placed). HoldsOfNoExtern t p.local) (sym own.map) (bound id own.found own.is_kept).1

  pub start_reads : (j : MapId) (f : Resolution) (is : kept_of s j ≡ Some f) → read_by (workspace_of s) (finished_of s) (start_of s sound j f is).start
      ≡ read_under s j f.holders
  start_reads j f is =
      let holders = start_holders s j f (kept_gives s sound j f is) in
      λ i. among (transitive_in s.crates (krate_is s sound j f is i).0) (sym holders i) (finished_of s)

  pub begins_clear : (j : MapId) (f : Resolution) (is : kept_of s j ≡ Some f)
      → BeginsClear t (read_under s j f.holders) (start_of s sound j f is).start (start_of s sound j f is).tree
  begins_clear j f is = go j.block refl
    where
      gives : (o : Option BlockId) → j.block ≡ o → beginning_by s j.krate o ≡ Some (start_of s sound j f is)
      gives o of = subst (λ (o : Option BlockId). beginning_by s j.krate o ≡ Some (start_of s sound j f is)) of (kept_gives s sound j f is).begun

      go : (o : Option BlockId) → j.block ≡ o → BeginsClear t (read_under s j f.holders) (start_of s sound j f is).start (start_of s sound j f is).tree
      go None of = subst (λ (x : Beginning). BeginsClear t (read_under s j f.holders) x.start x.tree) (one_value (gives None of)) tt
      go (Some b) of =
          let begun = block_begun s j.krate b (start_of s sound j f is) (gives (Some b) of) in
          subst (λ (x : Beginning). BeginsClear t (read_under s j f.holders) x.start x.tree) begun.is (refl, local_clear j f is (crate_map j.krate))

  pub is_clear : (j : MapId) (f : Resolution) → kept_of s j ≡ Some f → IsClearOf t (read_under s j f.holders) f.asked f.map
  is_clear j f is = record { written = written j f is; shown = λ m there. shows m; read = read_clear j f is }
