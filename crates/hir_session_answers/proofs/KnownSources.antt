-- The run for a place meets no unknown source, nor does what a trait or an impl holds: what is kept binds only what sources write that have numbers.
use Rattle.std.specs.Prelude.{is_some, not}
use Rattle.std.proofs.Common.{◌≡◌, ◌<◌, ℕ, suc, true, false, List, [], length, Option, Some, None, option_map, ap, refl, subst, arith, Contains}
use Rattle.hir_session_state.specs.HirIds.Ids.{container_module}
use Rattle.hir_session_state.specs.HirBase.ModPath.{Path}
use Rattle.hir_session_state.specs.HirIds.declared.ast_id.BlockId.{BlockId}
use Rattle.hir_session_state.specs.HirIds.declared.ids.Crate.{Crate}
use Rattle.hir_session_state.specs.HirIds.declared.ids.ItemContainerId.{ItemContainerId}
use Rattle.hir_session_state.specs.HirIds.declared.macro_kind.MacroId.{MacroId}
use Rattle.hir_session_state.specs.HirIds.declared.ids.MapId.{MapId}
use Rattle.hir_session_state.specs.HirIds.declared.ids.ModuleId.{ModuleId}
use Rattle.hir_session_state.specs.HirIds.declared.macro_kind.MacroId.TheVariants as macros
use Rattle.hir_session_state.specs.HirBase.declared.resolve_mode.MacroSubNs.TheVariants as sub_namespaces
use Rattle.hir_session_state.specs.HirCrateGraph.CrateSet.{has_crate}
use Rattle.hir_session_state.specs.HirBase.declared.tree_id.TreeKey.{TreeKey}
use Rattle.hir_session_state.specs.HirPerNs.PerNs.{Item}
use Rattle.hir_session_state.specs.HirPerNs.declared.imports.ImportOrExternCrate.{ImportOrExternCrate}
use Rattle.hir_session_state.specs.HirPerNs.declared.per_ns.PerNs.{PerNs}
use Rattle.hir_session_state.specs.HirTables.Tables.{KeepsTables, TablesValue, source_under}
use Rattle.hir_session_state.specs.HirNameres.Inner.PartLaws.{among-only}
use Rattle.hir_session_state.specs.HirNameres.WorldParts.{among}
use Rattle.hir_session_state.specs.HirDefMapRules.Overlay.{Maps, Placed, overlay}
use Rattle.hir_session_state.specs.HirDefMapRules.Scoping.{resolution_of}
use Rattle.hir_session_state.specs.HirDefMapRules.Scoping.Asking.{local_of}
use Rattle.hir_session_state.specs.HirDefMapRules.Sources.{HoldsNowhere, HoldsNowhereIn, HoldsOfNoExtern, HoldsOfNone}
use Rattle.hir_session_state.specs.HirDefMapRules.Sources.{SourceTest, on_macro, on_macro_item, on_some}
use Rattle.hir_session_state.specs.HirDefMapRules.State.{crate_map}
use Rattle.hir_session_state.proofs.HirDefMapRules.NoneOf.{not_first}
use Rattle.hir_session_state.proofs.HirDefMapRules.StaysSourced.{HoldsNowhere-overlay}
use Rattle.hir_session_state.specs.HirCollectorRules.declared.source_database.Key.TheVariants as keys
use Rattle.hir_assoc_items.specs.AssocItems.{IsUnknown, ReachesUnknown, container_of, macro_called, of_inner, of_macro}
use Rattle.hir_assoc_items.specs.Written.{WrittenValue}
use Rattle.hir_session_state.specs.HirCollectorRules.Calls.{IsMeantAt, by_style, macro_among}
use Rattle.hir_session_state.specs.HirCollectorRules.Keys.{IsMeant, environment}
use Rattle.hir_session_state.specs.HirCollectorRules.Start.{Beginning, holders_by, krate_of, read_by, root_site}
use Rattle.hir_session_state.specs.HirCollectorRules.UnknownSources.{MeetsUnknownSource}
use Rattle.hir_session_state.specs.HirCollectorRules.Workspace.{transitive_dependencies_in}
use Rattle.hir_session_state.proofs.HirCollectorRules.ModuleFiles.{site_kept, source_kept}
use Rattle.hir_session_state.specs.HirDefCollectorLaws.Sources.{BeginsClear, unnumbered}
use Rattle.hir_session_state.specs.Crates.{beginning_in, id_of, transitive_in}
use Rattle.hir_session_state.specs.Kept.{Resolution, collected_of, placed_by}
use Rattle.hir_session_state.specs.SessionState.{SessionState, finished_of, is_marked, kept_of, read_under, workspace_of, IsSound}
use Rattle.hir_session_state.specs.Standing.{block_map}
use Rattle.hir_session_state.proofs.Depending.{depended, direct_below}
use Rattle.hir_session_state.proofs.Resolving.{block_stands, block_whole, crate_whole, root_means, stands_on_whole}
use Rattle.hir_session_state.proofs.Standing.{IsBlockBegun, kept_gives}
use Rattle.hir_session_state.proofs.Truth.{no_value, one_value}
use Rattle.hir_session_state.proofs.Worlds.{DependsOn-below}
use Rattle.hir_session_answers.proofs.LeftOut.{binds, ended_of, present}
use Rattle.hir_session_answers.proofs.LowerLaws.{asked_keys_have_meaning, paths_answer, runs_bind, runs_meet}
use Rattle.hir_session_answers.proofs.ReadMaps.{rank}

-- a test that holds of nothing which a path answers holds not of the macro that it reaches
reached_clear : (t : SourceTest) (items : PerNs) (makro : MacroId) → macro_among items ≡ Some makro → HoldsOfNone t items → on_macro t makro ≡ false
reached_clear t items makro e none = go items.macros e none.macros
  where
    go : (o : Option (Item MacroId ImportOrExternCrate)) → option_map (λ (i : Item MacroId ImportOrExternCrate). i.def) o ≡ Some makro
        → on_some (on_macro_item t) o ≡ false
        → on_macro t makro ≡ false
    go None e f = no_value e
    go (Some i) e f = subst (λ (x : MacroId). on_macro t x ≡ false) (one_value e) (not_first (on_macro t i.def) _ f)

-- one whose source has a number is meant
meant_there : (tables : TablesValue) (makro : MacroId) → on_macro (unnumbered tables) makro ≡ false → IsMeant tables makro
meant_there tables (macros.Macro2Id id) f = present (is_some (source_under tables id.loc.file_id id.loc.block)) f
meant_there tables (macros.MacroRulesId id) f = present (is_some (source_under tables id.loc.file_id id.loc.block)) f
meant_there tables (macros.ProcMacroId id) f = tt

module _ (s : SessionState) (sound : IsSound s) (grown : TablesValue) (keeps : KeepsTables s.tables grown) where
  -- what is kept has asked only for trees that have numbers, also where more have
  written : (j : MapId) (f : Resolution) → kept_of s j ≡ Some f → (key : TreeKey) → Contains f.asked (keys.Tree key) → (unnumbered grown).holder key.id.file
      key.id.block ≡ false
  written j f is key asked =
      let gives = kept_gives s sound j f is in
      ap not (source_kept s.tables grown keeps key.id
      (asked_keys_have_meaning s.tables (workspace_of s) (finished_of s) gives.from (collected_of f) gives.meant (ended_of s sound j f is) (keys.Tree key)
      asked))

  -- so it binds only what is written in such
  numbered : (j : MapId) (f : Resolution) → kept_of s j ≡ Some f → HoldsNowhereIn (unnumbered grown) f.map × HoldsOfNoExtern (unnumbered grown) f.local
  numbered j f is = binds runs_bind s sound (unnumbered grown) written (suc (rank j f)) j f is (omega arith) (λ m there. refl)

  -- and so do the maps that a run reads
  module _ (crates : List Crate) (holders : List ModuleId) where
    reads_numbered : (id : MapId) (placed : Placed) → among crates holders (finished_of s) id ≡ Some placed
        → HoldsNowhereIn (unnumbered grown) placed.map × HoldsOfNoExtern (unnumbered grown) placed.local
    reads_numbered id placed e = go (kept_of s id) refl (among-only crates holders (finished_of s) id placed e).1
      where
        go : (o : Option Resolution) → kept_of s id ≡ o → option_map placed_by o ≡ Some placed → HoldsNowhereIn (unnumbered grown) placed.map
            × HoldsOfNoExtern (unnumbered grown) placed.local
        go None is f = no_value f
        go (Some r) is f =
            subst (λ (p : Placed). HoldsNowhereIn (unnumbered grown) p.map × HoldsOfNoExtern (unnumbered grown) p.local) (one_value f) (numbered id r is)

    local_numbered : (id : MapId) → HoldsOfNoExtern (unnumbered grown)
        (local_of (option_map (λ (p : Placed). p.local) (among crates holders (finished_of s) id)))
    local_numbered id = go (among crates holders (finished_of s) id) refl
      where
        go : (o : Option Placed) → among crates holders (finished_of s) id ≡ o → HoldsOfNoExtern (unnumbered grown)
            (local_of (option_map (λ (p : Placed). p.local) o))
        go None e = refl
        go (Some placed) e = (reads_numbered id placed e).1

  -- ---- a crate, and a block

  -- where no crate before it is marked
  pub crate_known : (k : ℕ) → k < length s.crates → ((j : ℕ) → j < k → is_marked s (id_of j) ≡ false) → ¬ MeetsUnknownSource grown (workspace_of s)
      (finished_of s) (beginning_in s.crates k)
  crate_known k within first =
      let behind : (c : Crate) → has_crate (transitive_in s.crates k) c ≡ true → is_marked s (crate_map c) ≡ false =
      λ c behind. first c.0 (DependsOn-below (direct_below s) ((depended sound k c).0 behind)) in
      runs_meet grown (workspace_of s) (finished_of s) (beginning_in s.crates k) (crate_whole s k sound behind) (stands_on_whole s k sound behind) tt
      (site_kept s.tables grown keeps (root_site (beginning_in s.crates k).tree) (root_means s sound k within))
      (λ id placed e. (reads_numbered (transitive_in s.crates k) [] id placed e).0)

  -- where it may begin, and the map of its crate is current
  pub block_known : (krate : Crate) (b : BlockId) (from : Beginning) (q : IsBlockBegun s krate b from) → q.place.holder.krate ≡ krate
      → is_marked s (crate_map krate) ≡ false
      → kept_of s (block_map krate b) ≡ None → IsMeantAt s.tables (root_site from.tree) → ¬ MeetsUnknownSource grown (workspace_of s) (finished_of s) from
  block_known krate b from q same off none meant =
      let crates : List Crate = transitive_dependencies_in (workspace_of s) (krate_of from.start) in
      let holders : List ModuleId = holders_by (finished_of s) from.start in
      let clear : BeginsClear (unnumbered grown) (read_by (workspace_of s) (finished_of s) from.start) from.start from.tree =
      subst (λ (x : Beginning). BeginsClear (unnumbered grown) (read_by (workspace_of s) (finished_of s) x.start) x.start x.tree) q.is
      (refl, local_numbered (transitive_in s.crates krate.0) _ (crate_map krate)) in
      runs_meet grown (workspace_of s) (finished_of s) from (block_whole s sound krate b from q same off) (block_stands s sound krate b from q same off none)
      clear
      (site_kept s.tables grown keeps (root_site from.tree) meant)
      (λ id placed e. (reads_numbered crates holders id placed e).0)

  -- ---- what traits and impls hold

  -- no call in a trait or an impl reaches an unknown macro over what is kept of a map
  pub calls_known : (id : MapId) (r : Resolution) → kept_of s id ≡ Some r → (holder : ItemContainerId) (written_there : List WrittenValue)
      → ¬ ReachesUnknown (environment grown (workspace_of s)) (container_of (overlay (read_under s id r.holders) r.map) r.local holder) written_there
  calls_known id r is holder written_there reaches = go reaches.unknown
    where
      t : SourceTest
      t = unnumbered grown

      maps : Maps
      maps = overlay (read_under s id r.holders) r.map

      own : HoldsNowhereIn t r.map × HoldsOfNoExtern t r.local
      own = numbered id r is

      nowhere : HoldsNowhere t maps
      nowhere =
          HoldsNowhere-overlay t (read_under s id r.holders) r.map
          (λ i placed e. (reads_numbered (transitive_in s.crates id.krate.0) r.holders i placed e).0) own.0

      -- what a path there reaches is meant
      meant : (path : Path) (makro : MacroId) → macro_called (container_of maps r.local holder) path ≡ Some makro → IsMeant grown makro
      meant path makro reached =
          meant_there grown makro (reached_clear t (resolution_of maps (by_style sub_namespaces.Bang r.local) (container_module holder) path).resolved_def makro
          reached (paths_answer t maps (by_style sub_namespaces.Bang r.local) (container_module holder) path nowhere own.1))

      go : IsUnknown grown (container_of maps r.local holder) reaches.makro → ⊥
      go (of_macro unknown) = unknown (meant reaches.meets.path reaches.makro reaches.meets.reaches.reached)
      go (of_inner path inner reached unknown) = unknown (meant path inner reached)
