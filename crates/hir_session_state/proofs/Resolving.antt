-- What a run gives for a place is its resolution, where all on which the place stands is current.
use Rattle.std.specs.Prelude.{is_none, is_some, map}
use Rattle.std.proofs.Common.{◌≡◌, inl, inr, ℕ, zero, suc, ◌<◌, Bool, true, false, ◌&&◌, List, [], ◌∷◌, length, arith, not, cond, Option, Some, None}
use Rattle.std.proofs.Common.{option_map, refl, sym, ap, ◌∙◌, subst, Contains, eq-eqb}
use Rattle.std.specs.List.{list_any}
use Rattle.std.specs.Option.{IsSome, option_and_then}
use Rattle.hir_collector_rules.specs.HirIds.contracts.ids.MapIdPartialEq.TheImpl as map_id
use Rattle.hir_collector_rules.specs.HirIds.declared.ast_id.BlockId.{BlockId}
use Rattle.hir_collector_rules.specs.HirBase.declared.place.BlockPlace.{BlockPlace}
use Rattle.hir_collector_rules.specs.HirIds.declared.ids.Crate.{Crate}
use Rattle.hir_collector_rules.specs.HirIds.declared.ids.MapId.{MapId}
use Rattle.hir_collector_rules.specs.HirIds.declared.ids.ModuleId.{ModuleId}
use Rattle.hir_collector_rules.specs.HirPerNs.ModuleTree.{same_crate}
use Rattle.hir_collector_rules.specs.HirTables.SourcePlaces.{file}
use Rattle.hir_collector_rules.specs.HirTables.Tables.{KeepsTables, TablesValue, file_at}
use Rattle.hir_collector_rules.specs.HirNameres.Inner.PartLaws.{among-only, among-there}
use Rattle.hir_collector_rules.specs.HirNameres.WorldParts.{among, are_of_some, is_of_some}
use Rattle.hir_collector_rules.specs.HirDefMapRules.Inner.OverlayLaws.{same_id}
use Rattle.hir_collector_rules.specs.HirDefMapRules.Overlay.{Maps, Placed, holders_of, holders_under, module_in, overlay}
use Rattle.hir_collector_rules.specs.HirDefMapRules.References.{is_missing, is_well_formed, test_crate}
use Rattle.hir_collector_rules.specs.HirDefMapRules.State.{crate_map, module_at}
use Rattle.hir_collector_rules.specs.HirDefMapRules.WellFormed.{AreWellFormed, Extends, HasNoDanglingExtern, HasNoDanglingReference}
use Rattle.hir_collector_rules.specs.Calls.{AreCallsPlaced, IsMeantAt}
use Rattle.hir_collector_rules.specs.Derivation.{CollectedValue, Ends}
use Rattle.hir_collector_rules.specs.Growth.{AnswersStand, AskedKeysHaveMeaning, LooksStand}
use Rattle.hir_collector_rules.specs.Start.{Beginning, holder_of, holders_by, id_of as start_id, krate_of, read_by, root_site}
use Rattle.hir_collector_rules.specs.Workspace.{dependencies_of as named_by}
use Rattle.hir_collector_rules.specs.declared.source_database.Dependency.{Dependency}
use Rattle.hir_collector_rules.proofs.ModuleFiles.{site_kept}
use Rattle.hir_def_collector_laws.specs.Whole.{RunsNameWhatIsThere, StandsOnWhole}
use Rattle.hir_collector_rules.specs.HirCrateGraph.CrateSet.{has_crate}
use Rattle.hir_collector_rules.specs.HirCrateGraph.Dependencies.DependsOn.{directly}
use Rattle.hir_session_state.specs.Crates.{CrateValue, beginning_in, begins_in_block, config_in, crate_in, id_of, transitive_in}
use Rattle.hir_session_state.specs.Due.{Grows}
use Rattle.hir_session_state.specs.Kept.{collected_of, held, placed_by}
use Rattle.hir_session_state.specs.Standing.{block_map}
use Rattle.hir_session_state.specs.SessionState.{SessionState, Resolution, dependencies_of, workspace_of, beginning_of}
use Rattle.hir_session_state.specs.SessionState.{finished_of, kept_of, read_under, standing_of}
use Rattle.hir_session_state.specs.SessionState.{is_marked}
use Rattle.hir_session_state.specs.SessionState.{IsResolved, IsResolutionOf, IsPlace, IsSound}
use Rattle.hir_session_state.specs.SessionState.IsPlace.{of_block, of_crate}
use Rattle.hir_session_state.proofs.Depending.{any-found, depended, direct_below, named_direct, none_of}
use Rattle.hir_session_state.proofs.Following.{follows_unmarked}
use Rattle.hir_session_state.proofs.Holders.{ends_held}
use Rattle.hir_session_state.proofs.Holding.{crate_holders, holder_kept, in_own_crate, own_first, same_krate}
use Rattle.hir_session_state.proofs.Names.{Extends-behind, IsKeptWhole, among_there, holds, is_crate_of_some, is_held_of_some, joins, of_some, whole-among}
use Rattle.hir_session_state.proofs.Standing.{IsBlockBegun, IsModuleKept, at_module, beginning_stays, begun_block, block_begun, holder_begun, kept_gives}
use Rattle.hir_session_state.proofs.Standing.{module_there, unmarked}
use Rattle.hir_session_state.proofs.Truth.{both_true, clash, no_value, one_value}
use Rattle.hir_session_state.proofs.Worlds.{AgreeOn-refl, DependsOn-below, DependsOn-holds, DependsOn-trans, has_listed}

-- ---- what a session keeps

-- what is mapped is among what is mapped to
mapped : (ds : List Dependency) (d : Dependency) → Contains ds d → Contains (map (λ d. d.krate) ds) d.krate
mapped [] d h = absurd (let past : h.0 < 0 = h.1 in omega arith)
mapped (x ∷ xs) d (zero, within, is) = (zero, omega arith, ap (λ (y : Dependency). y.krate) is)
mapped (x ∷ xs) d (suc n, within, is) =
    let rest = mapped xs d (n, omega arith, is) in
    (suc rest.0, (let below : rest.0 < length (map (λ d. d.krate) xs) = rest.1 in omega arith), rest.2)

-- what the run for a crate sees that it depends on
abbrev own_dependencies : List CrateValue → ℕ → List Dependency
own_dependencies crates k = named_by (config_in crates (record { 0 = k }))

-- what is kept of a place names only what is kept of those on which it stands
pub kept_whole : (s : SessionState) → IsSound s → (id : MapId) (r : Resolution) → kept_of s id ≡ Some r → IsKeptWhole (λ (k : ℕ). transitive_in s.crates k)
    s.kept id
kept_whole s sound id r is =
    let p = kept_gives s sound id r is in
    record {
      found = r;
      is = is;
      own = p.own;
      holders = p.holders ∙ ap (λ (x : MapId). holders_under (finished_of s) x r.map.holder) p.own;
      names = p.names;
      begins = p.reaches;
    }

-- a crate that stands on one on which a crate stands is one on which that stands
behind_closed : (s : SessionState) → IsSound s → (k : ℕ) (j c : Crate) → has_crate (transitive_in s.crates k) j ≡ true → has_crate (transitive_in s.crates j.0)
    c ≡ true
    → has_crate (transitive_in s.crates k) c ≡ true
behind_closed s sound k j c one other = (depended sound k c).1 (DependsOn-trans ((depended sound k j).0 one) ((depended sound j.0 c).0 other))

-- something is kept of a place that isn't marked
pub kept_there : (s : SessionState) (id : MapId) → is_marked s id ≡ false → (r : Resolution) × (kept_of s id ≡ Some r)
kept_there s id off = go (kept_of s id) refl off
  where
    go : (o : Option Resolution) → kept_of s id ≡ o → is_none o ≡ false → (r : Resolution) × (kept_of s id ≡ Some r)
    go None is e = clash refl e
    go (Some r) is e = (r, is)

-- what an unmarked crate stands on is unmarked
pub behind_unmarked : (s : SessionState) → IsSound s → (k : ℕ) → is_marked s (id_of k) ≡ false → (c : Crate) → has_crate (transitive_in s.crates k) c ≡ true
    → is_marked s (crate_map c) ≡ false
behind_unmarked s sound k off c behind =
    DependsOn-holds {P = λ (i : ℕ). is_marked s (id_of i) ≡ false} (λ i d p among. follows_unmarked sound i d p among) ((depended sound k c).0 behind) off

-- a module that is listed lies in its map
pub holds_listed : (hs : List ModuleId) (h : ModuleId) → Contains hs h → holds hs h.map ≡ true
holds_listed hs h among = any-found (λ (x : ModuleId). map_id.ghosts.eq x.map h.map) hs h among (same_id h.map)

-- modules each of which lies in a map in which a holder does may be read
may_be_read : (crates : List Crate) (hs xs : List ModuleId) → ((x : ModuleId) → Contains xs x → holds hs x.map ≡ true) → are_of_some crates hs xs ≡ true
may_be_read crates hs [] each = refl
may_be_read crates hs (x ∷ xs) each =
    both_true (is_of_some crates hs x.map) (are_of_some crates hs xs)
    (is_held_of_some crates hs x.map (each x (zero, omega arith, refl)))
    (may_be_read crates hs xs (λ y h. each y (suc h.0, (let below : h.0 < length xs = h.1 in omega arith), h.2)))

-- the crate's own map isn't one of those that it reads
pub own_absent : (s : SessionState) (k : ℕ) → IsSound s → read_under s (id_of k) [] (id_of k) ≡ None
own_absent s k sound = go (read_under s (id_of k) [] (id_of k)) refl
  where
    go : (o : Option Placed) → read_under s (id_of k) [] (id_of k) ≡ o → read_under s (id_of k) [] (id_of k) ≡ None
    go None e = e
    go (Some p) e =
        let there = among_there (transitive_in s.crates k) (finished_of s) (id_of k) p e in
        let lower : k < k = DependsOn-below (direct_below s) ((depended sound k (record { 0 = k })).0 there.1) in
        absurd (omega arith)

-- ---- what the run of a crate, or of a block that these modules hold, reads

module _ (s : SessionState) (sound : IsSound s) (krate : Crate) (hs : List ModuleId)
    (unmarked_behind : (c : Crate) → has_crate (transitive_in s.crates krate.0) c ≡ true → is_marked s (crate_map c) ≡ false)
    (own : (id : MapId) → holds hs id ≡ true → id.krate ≡ krate) where
  abbrev pub reads : Maps
  reads = among (transitive_in s.crates krate.0) hs (finished_of s)

  reads_closed : (id : MapId) (c : Crate) → is_of_some (transitive_in s.crates krate.0) hs id ≡ true → has_crate (transitive_in s.crates id.krate.0) c ≡ true
      → has_crate (transitive_in s.crates krate.0) c ≡ true
  reads_closed id c of behind = elim (of_some (transitive_in s.crates krate.0) hs id of) [
    | inl crate ↦ behind_closed s sound krate.0 id.krate c crate.1 behind
    | inr lies ↦ subst (λ (k : Crate). has_crate (transitive_in s.crates k.0) c ≡ true) (own id lies) behind
  ]

  pub behind_whole : AreWellFormed reads
  behind_whole = whole-among (λ (k : ℕ). transitive_in s.crates k) s.kept (transitive_in s.crates krate.0) hs (kept_whole s sound) reads_closed

  -- what is there beside the maps that one of those reads is there among those
  pub behind_extends : (id : MapId) (r : Resolution) → kept_of s id ≡ Some r → is_of_some (transitive_in s.crates krate.0) hs id ≡ true
      → are_of_some (transitive_in s.crates krate.0) hs r.holders ≡ true → Extends (overlay (read_under s id r.holders) r.map) reads
  unfolding kept_whole
  behind_extends id r is of held_too =
      Extends-behind (λ (k : ℕ). transitive_in s.crates k) s.kept (transitive_in s.crates krate.0) hs (kept_whole s sound) reads_closed id
      (kept_whole s sound id r is) of held_too

  -- the map of an unmarked crate is there, if it may be read
  crate_read : (c : Crate) → is_of_some (transitive_in s.crates krate.0) hs (crate_map c) ≡ true → is_marked s (crate_map c) ≡ false
      → is_some (reads (crate_map c)) ≡ true
  crate_read c of off =
      let r = kept_there s (crate_map c) off in
      let alone : r.0.holders ≡ [] = crate_holders s (crate_map c) r.0 (kept_gives s sound (crate_map c) r.0 r.1) refl in
      ap (λ (o : Option Placed). is_some o)
      (among-there (transitive_in s.crates krate.0) hs (finished_of s) (crate_map c) (placed_by r.0) of (ap (option_map placed_by) r.1)
      (ap (are_of_some (transitive_in s.crates krate.0) hs) alone))

  not_missing : (c : Crate) → has_crate (transitive_in s.crates krate.0) c ≡ true → test_crate (is_missing reads) c ≡ false
  not_missing c behind = ap not (crate_read c (is_crate_of_some (transitive_in s.crates krate.0) hs (crate_map c) refl behind) (unmarked_behind c behind))

  -- nothing is read of a place of which nothing is kept
  pub read_absent : (id : MapId) → kept_of s id ≡ None → reads id ≡ None
  read_absent id none = go (reads id) refl
    where
      go : (o : Option Placed) → reads id ≡ o → reads id ≡ None
      go None e = e
      go (Some p) e = no_value (sym (ap (option_map placed_by) none) ∙ (among-only (transitive_in s.crates krate.0) hs (finished_of s) id p e).1)

  -- the maps of the crates on which it stands are there
  pub stands_behind : list_any (test_crate (is_missing reads)) (transitive_in s.crates krate.0) ≡ false
  stands_behind =
      none_of (test_crate (is_missing reads)) (transitive_in s.crates krate.0) (λ c among. not_missing c (has_listed (transitive_in s.crates krate.0) c among))

  pub stands_direct : list_any (λ (d : Dependency). test_crate (is_missing reads) d.krate) (own_dependencies s.crates krate.0) ≡ false
  stands_direct = none_of (λ (d : Dependency). test_crate (is_missing reads) d.krate) (own_dependencies s.crates krate.0)
      (λ d among. not_missing d.krate ((depended sound krate.0 d.krate).1 (directly krate.0 d.krate (named d among))))
    where
      named : (d : Dependency) → Contains (own_dependencies s.crates krate.0) d → Contains (dependencies_of s krate.0) d.krate
      named d among =
          subst (λ (cs : List Crate). Contains cs d.krate) (sym (named_direct sound krate.0)) (mapped (own_dependencies s.crates krate.0) d among)

-- what a run gives is a resolution, where it reads only what names what is there
resolution_by : (s : SessionState) (id : MapId) (from : Beginning) → beginning_of s id ≡ Some from → IsMeantAt s.tables (root_site from.tree)
    → (r : CollectedValue) → RunsNameWhatIsThere
    → AreWellFormed (read_by (workspace_of s) (finished_of s) from.start) → StandsOnWhole (workspace_of s) (read_by (workspace_of s) (finished_of s) from.start)
    from.start
    → IsResolved s.tables (workspace_of s) (finished_of s) from r → r.map.id ≡ id → krate_of from.start ≡ id.krate
    → holders_under (finished_of s) r.map.id r.map.holder ≡ holders_by (finished_of s) from.start
    → IsResolutionOf s id (held r (holders_under (finished_of s) r.map.id r.map.holder))
resolution_by s id from begun meant r law whole stands resolved own krate same =
    let ended : Ends s.tables (workspace_of s) (finished_of s) from r = resolved.ends (workspace_of s) (finished_of s) AgreeOn-refl in
    let there = law s.tables (workspace_of s) (finished_of s) from r whole stands ended in
    let read : read_by (workspace_of s) (finished_of s) from.start ≡ read_under s id (holders_under (finished_of s) r.map.id r.map.holder) =
    (λ i. among (transitive_in s.crates (krate i).0) (sym same i) (finished_of s)) in
    record {
      from = from;
      begun = begun;
      meant = meant;
      resolved = resolved;
      own = own;
      holder = ends_held ended;
      holders = refl;
      names = subst (λ (maps : Maps). HasNoDanglingReference (overlay maps r.map) r.map) read there.0;
      reaches = subst (λ (maps : Maps). HasNoDanglingExtern (overlay maps r.map) r.local) read there.1;
    }

-- ---- a crate

module _ (s : SessionState) (k : ℕ) (sound : IsSound s) (unmarked_behind : (c : Crate) → has_crate (transitive_in s.crates k) c ≡ true → is_marked s (crate_map c) ≡ false) where
  pub crate_whole : AreWellFormed (read_under s (id_of k) [])
  crate_whole = behind_whole s sound (record { 0 = k }) [] unmarked_behind (λ id lies. clash lies refl)

  pub stands_on_whole : StandsOnWhole (workspace_of s) (read_under s (id_of k) []) (beginning_in s.crates k).start
  stands_on_whole = record {
    apart = own_absent s k sound;
    behind = stands_behind s sound (record { 0 = k }) [] unmarked_behind (λ id lies. clash lies refl);
    direct = stands_direct s sound (record { 0 = k }) [] unmarked_behind (λ id lies. clash lies refl);
    own_crate = refl;
    held = refl;
  }

-- the number of a crate's root file means something
pub root_means : (s : SessionState) → IsSound s → (k : ℕ) → k < length s.crates → IsMeantAt s.tables (root_site (beginning_in s.crates k).tree)
root_means s sound k within = record {
  tree = subst (λ (o : Option (List ℕ)). IsSome (option_map file o)) (sym (sound.rooted k within)) refl;
  file = λ id e. subst (λ (o : Option (List ℕ)). IsSome o) (sym (ap (file_at s.tables) (sym (one_value e)) ∙ sound.rooted k within)) refl;
}

-- what a run gives for a crate that comes after no marked one
pub resolution_of : (s : SessionState) (k : ℕ) → IsSound s → k < length s.crates → ((j : ℕ) → j < k → is_marked s (id_of j) ≡ false) → (r : CollectedValue)
    → RunsNameWhatIsThere
    → IsResolved s.tables (workspace_of s) (finished_of s) (beginning_in s.crates k) r
    → IsResolutionOf s (id_of k) (held r (holders_under (finished_of s) r.map.id r.map.holder))
resolution_of s k sound within first r law resolved =
    let behind : (c : Crate) → has_crate (transitive_in s.crates k) c ≡ true → is_marked s (crate_map c) ≡ false =
    λ c behind. first c.0 (DependsOn-below (direct_below s) ((depended sound k c).0 behind)) in
    let ended : Ends s.tables (workspace_of s) (finished_of s) (beginning_in s.crates k) r = resolved.ends (workspace_of s) (finished_of s) AgreeOn-refl in
    resolution_by s (id_of k) (beginning_in s.crates k) refl (root_means s sound k within) r law (crate_whole s k sound behind)
    (stands_on_whole s k sound behind) resolved ended.own refl
    (ap (holders_under (finished_of s) r.map.id) (ends_held ended))

-- ---- a block

module _ (s : SessionState) (sound : IsSound s) (krate : Crate) (b : BlockId) (from : Beginning) (q : IsBlockBegun s krate b from) (same : q.place.holder.krate ≡ krate)
    (off : is_marked s (crate_map krate) ≡ false) where
  -- its holder lies in a map of the crate that is kept
  held_there : IsModuleKept s q.place.holder.krate q.holder
  held_there = module_there s sound q.place.holder q.holder (at_module (standing_of s q.place.holder) q.holder q.held)

  abbrev all_holders : List ModuleId
  all_holders = q.holder ∷ held_there.found.holders

  of_krate : q.holder.map.krate ≡ krate
  of_krate = held_there.own ∙ same

  lie_in : (id : MapId) → holds all_holders id ≡ true → id.krate ≡ krate
  lie_in id lies = same_krate s sound held_there.found.holders q.holder held_there.found held_there.is refl id lies ∙ of_krate

  behind_off : (c : Crate) → has_crate (transitive_in s.crates krate.0) c ≡ true → is_marked s (crate_map c) ≡ false
  behind_off c behind = behind_unmarked s sound krate.0 off c behind

  abbrev block_reads : Maps
  block_reads = reads s sound krate all_holders behind_off lie_in

  -- it is read
  holder_read : block_reads q.holder.map ≡ Some (placed_by held_there.found)
  holder_read =
      among-there (transitive_in s.crates krate.0) all_holders (finished_of s) q.holder.map (placed_by held_there.found)
      (is_held_of_some (transitive_in s.crates krate.0) all_holders q.holder.map (holds_listed all_holders q.holder (zero, omega arith, refl)))
      (ap (option_map placed_by) held_there.is)
      (may_be_read (transitive_in s.crates krate.0) all_holders held_there.found.holders (λ x h. holds_listed all_holders x (later x h)))
    where
      later : (x : ModuleId) → Contains held_there.found.holders x → Contains all_holders x
      later x h = (suc h.0, (let below : h.0 < length held_there.found.holders = h.1 in omega arith), h.2)

  -- so is the map of the crate
  own_read : is_some (block_reads (crate_map krate)) ≡ true
  own_read =
      crate_read s sound krate all_holders behind_off lie_in krate
      (is_held_of_some (transitive_in s.crates krate.0) all_holders (crate_map krate)
      (own_first q.holder (holds held_there.found.holders (crate_map krate)) krate of_krate
      (λ c on. ap (λ (x : Crate). holds held_there.found.holders (crate_map x)) (sym of_krate)
      ∙ in_own_crate s sound held_there.found.holders q.holder.map held_there.found c held_there.is refl on)))
      off

  abbrev begins : Beginning
  begins = begins_in_block krate b q.holder q.file q.place.id

  same_holders : holders_by (finished_of s) begins.start ≡ all_holders
  same_holders = ap (λ (o : Option Resolution). q.holder ∷ holders_of (option_map placed_by o)) held_there.is

  stands : kept_of s (block_map krate b) ≡ None → StandsOnWhole (workspace_of s) block_reads begins.start
  stands none = record {
    apart = read_absent s sound krate all_holders behind_off lie_in (block_map krate b) none;
    behind = stands_behind s sound krate all_holders behind_off lie_in;
    direct = stands_direct s sound krate all_holders behind_off lie_in;
    own_crate = ap not own_read;
    held = both_true (same_crate q.holder.map.krate krate) (is_some (module_in block_reads q.holder))
        (ap (λ (k : Crate). same_crate k krate) of_krate ∙ eq-eqb krate.0 krate.0 refl)
        (ap (λ (o : Option Placed). is_some (option_and_then (λ (p : Placed). module_at p.map q.holder.index) o)) holder_read ∙ held_there.there);
  }

  -- it reads only what names what is there, and stands on it
  pub block_whole : AreWellFormed (read_by (workspace_of s) (finished_of s) from.start)
  block_whole =
      subst (λ (x : Beginning). AreWellFormed (read_by (workspace_of s) (finished_of s) x.start)) q.is
      (subst (λ (xs : List ModuleId). AreWellFormed (among (transitive_in s.crates krate.0) xs (finished_of s))) (sym same_holders)
      (behind_whole s sound krate all_holders behind_off lie_in))

  pub block_stands : kept_of s (block_map krate b) ≡ None → StandsOnWhole (workspace_of s) (read_by (workspace_of s) (finished_of s) from.start) from.start
  block_stands none =
      subst (λ (x : Beginning). StandsOnWhole (workspace_of s) (read_by (workspace_of s) (finished_of s) x.start) x.start) q.is
      (subst (λ (xs : List ModuleId). StandsOnWhole (workspace_of s) (among (transitive_in s.crates krate.0) xs (finished_of s)) begins.start)
      (sym same_holders) (stands none))

  -- what a run gives for it
  pub block_resolution : kept_of s (block_map krate b) ≡ None → IsMeantAt s.tables (root_site from.tree) → (r : CollectedValue) → RunsNameWhatIsThere
      → IsResolved s.tables (workspace_of s) (finished_of s) from r → IsResolutionOf s (block_map krate b)
      (held r (holders_under (finished_of s) r.map.id r.map.holder))
  block_resolution none meant r law resolved =
      let ended : Ends s.tables (workspace_of s) (finished_of s) from r = resolved.ends (workspace_of s) (finished_of s) AgreeOn-refl in
      let own : r.map.id ≡ block_map krate b = ended.own ∙ ap (λ (x : Beginning). start_id x.start) (sym q.is) in
      let holder : r.map.holder ≡ Some q.holder = ends_held ended ∙ ap (λ (x : Beginning). holder_of x.start) (sym q.is) in
      resolution_by s (block_map krate b) from (begun_block s krate b from q) meant r law block_whole (block_stands none)
      resolved own (ap (λ (x : Beginning). krate_of x.start) (sym q.is))
      (under r own holder ∙ ap (λ (x : Beginning). holders_by (finished_of s) x.start) q.is)
    where
      under : (r : CollectedValue) → r.map.id ≡ block_map krate b → r.map.holder ≡ Some q.holder → holders_under (finished_of s) r.map.id r.map.holder
          ≡ holders_by (finished_of s) begins.start
      under r own holder =
          (λ i. holders_under (finished_of s) (own i) (holder i))
          ∙ ap (λ (k : Crate). cond (same_crate k krate && is_some (finished_of s q.holder.map)) (q.holder ∷ holders_of (finished_of s q.holder.map)) [])
          of_krate
          ∙ ap (λ (t : Bool). cond (t && is_some (finished_of s q.holder.map)) (q.holder ∷ holders_of (finished_of s q.holder.map)) [])
          (eq-eqb krate.0 krate.0 refl)
          ∙ ap (λ (t : Bool). cond t (q.holder ∷ holders_of (finished_of s q.holder.map)) []) (ap (λ (o : Option Resolution). is_some (option_map placed_by o))
          held_there.is)

-- ---- a resolution may join what is kept

pub may_join : (s : SessionState) (id : MapId) (r : Resolution) → IsResolutionOf s id r → is_well_formed (finished_of s) r.map r.local ≡ true
may_join s id r p = joins (transitive_in s.crates id.krate.0) r.holders (finished_of s) r.map r.local p.names p.reaches

-- ---- tables that grow

module _ (looks : LooksStand) (meaning : AskedKeysHaveMeaning) (answers : AnswersStand) (s : SessionState) (T : TablesValue) (keeps : KeepsTables s.tables T)
    (placed : AreCallsPlaced s.tables → AreCallsPlaced T) where
  abbrev grown : SessionState
  grown = record s { tables = T }

  -- what a run begins with stays
  pub grown_beginning : IsSound s → (id : MapId) (r : Resolution) (p : IsResolutionOf s id r) → beginning_of grown id ≡ Some p.from
  grown_beginning sound id r p =
      beginning_stays s sound (λ j. is_marked s j ≡ false) (λ j d off among. sound.closed j d off among) s.crates T s.sources s.kept keeps (λ j off. refl)
      (λ b place means off set. set) id (λ none. refl) p.from p.begun
      (λ h held. let k = holder_kept s id r p h (p.holder ∙ held) in unmarked s h.map k.found k.is)

  -- a resolution stays
  grown_resolution : IsSound s → (id : MapId) (r : Resolution) → IsResolutionOf s id r → IsResolutionOf grown id r
  grown_resolution sound id r p = record {
    from = p.from;
    begun = grown_beginning sound id r p;
    meant = site_kept s.tables T keeps (root_site p.from.tree) p.meant;
    resolved = record {
      ends = λ v finished agree. answers s.tables T v finished p.from (collected_of r) keeps p.meant
          (p.resolved.ends v finished (record {
            crates = agree.crates;
            same = λ key among.
                let has = meaning s.tables (workspace_of s) (finished_of s) p.from (collected_of r) p.meant
                (p.resolved.ends (workspace_of s) (finished_of s) AgreeOn-refl) key among in
                sym (looks s.tables T v finished key keeps has) ∙ agree.same key among ∙ looks s.tables T (workspace_of s) (finished_of s) key keeps has;
          }));
    };
    own = p.own;
    holder = p.holder;
    holders = p.holders;
    names = p.names;
    reaches = p.reaches;
  }

  -- so does a place
  grown_place : (id : MapId) → IsPlace s id → IsPlace grown id
  grown_place id (of_crate none within) = of_crate none within
  grown_place id (of_block b place is means own within set) = of_block b place is (keeps.blocks b.0 place means) own within set

  -- tables may grow
  pub grown_sound : IsSound s → IsSound grown
  grown_sound sound = record {
    few = sound.few;
    below = sound.below;
    placed = λ id off. grown_place id (sound.placed id off);
    closed = sound.closed;
    current = λ id off.
        let now = sound.current id off in
        record { found = now.found; is = now.is; gives = grown_resolution sound id now.found now.gives };
    rooted = λ k within. keeps.files (crate_in s.crates k).file.0 (crate_in s.crates k).own.root (sound.rooted k within);
    calls = placed sound.calls;
  }

  -- and nothing else changes then
  pub grown_of : (view : SessionState) → s ≡ view → IsSound s → Grows view grown
  grown_of view seen sound = subst (λ (v : SessionState). Grows v grown) seen (record {
    crates = refl;
    tables = keeps;
    sources = refl;
    kept = refl;
    sound = grown_sound sound;
  })

  -- what the run gave is the crate's resolution
  pub found_of : (view : SessionState) → s ≡ view → IsSound s → RunsNameWhatIsThere → (k : ℕ) → k < length s.crates
      → ((j : ℕ) → j < k → is_marked view (id_of j) ≡ false) → (r : CollectedValue)
      → (finished : Maps) → finished ≡ finished_of s → IsResolved T (workspace_of s) finished (beginning_in s.crates k) r
      → IsResolutionOf grown (id_of k) (held r (holders_under (finished_of s) r.map.id r.map.holder))
  found_of view seen sound law k within first r finished is resolved =
      let back = subst (λ (v : SessionState). (j : ℕ) → j < k → is_marked v (id_of j) ≡ false) (sym seen) first in
      resolution_of grown k (grown_sound sound) within back r law
      (subst (λ (maps : Maps). IsResolved T (workspace_of s) maps (beginning_in s.crates k) r) is resolved)

  -- and the block's
  pub found_of_block : IsSound s → RunsNameWhatIsThere → (krate : Crate) (b : BlockId) (from : Beginning) (q : IsBlockBegun s krate b from)
      → q.place.holder.krate ≡ krate
      → is_marked s (crate_map krate) ≡ false → kept_of s (block_map krate b) ≡ None → IsMeantAt s.tables (root_site from.tree) → (r : CollectedValue)
      → (finished : Maps) → finished ≡ finished_of s → IsResolved T (workspace_of s) finished from r
      → IsResolutionOf grown (block_map krate b) (held r (holders_under (finished_of s) r.map.id r.map.holder))
  found_of_block sound law krate b from q own off none meant r finished is resolved =
      let k = module_there s sound q.place.holder q.holder (at_module (standing_of s q.place.holder) q.holder q.held) in
      let begun : beginning_of grown (block_map krate b) ≡ Some from =
      beginning_stays s sound (λ j. is_marked s j ≡ false) (λ j d at among. sound.closed j d at among) s.crates T s.sources s.kept keeps (λ j at. refl)
      (λ c place means at set. set) (block_map krate b) (λ none. refl) from
      (begun_block s krate b from q)
      (λ h held. let same : h ≡ q.holder = one_value (sym held ∙ holder_begun s krate b from q) in
      subst (λ (x : ModuleId). is_marked s x.map ≡ false) (sym same) (unmarked s q.holder.map k.found k.is)) in
      let again = block_begun grown krate b from begun in
      let place : again.place ≡ q.place = one_value (sym again.means ∙ keeps.blocks b.0 q.place q.means) in
      block_resolution grown (grown_sound sound) krate b from again (ap (λ (x : BlockPlace). x.holder.krate) place ∙ own) off none
      (site_kept s.tables T keeps (root_site from.tree) meant) r law
      (subst (λ (maps : Maps). IsResolved T (workspace_of s) maps from r) is resolved)
