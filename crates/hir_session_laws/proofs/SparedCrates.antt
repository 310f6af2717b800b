-- An edit of a block changes no mark of a crate: no crate's run asks for something of a block.
use Rattle.std.proofs.Common.{◌≡◌, ◌≢◌, ◌∙◌, ap, sym, subst, refl, ℕ, zero, suc, ◌<◌, true, Option, Some, None, option_map, List, [], arith, Contains}
use Rattle.hir_session_machine.specs.HirIds.declared.ast_id.BlockId.{BlockId}
use Rattle.hir_session_machine.specs.HirBase.declared.place.BlockPlace.{BlockPlace}
use Rattle.hir_session_machine.specs.HirIds.declared.ast_id.HirFileId.{HirFileId}
use Rattle.hir_session_machine.specs.HirIds.declared.ids.MapId.{MapId}
use Rattle.hir_session_machine.specs.HirIds.declared.ast_id.HirFileId.TheVariants as syntax
use Rattle.hir_session_machine.specs.HirIds.declared.macro_kind.MacroId.TheVariants as macros
use Rattle.hir_session_machine.specs.HirItemTree.Source.{SourceValue}
use Rattle.hir_session_machine.specs.HirTables.SourcePlaces.{ExpansionValue, block, expansion, file}
use Rattle.hir_session_machine.specs.HirTables.Tables.{TablesValue, entry_at, expansion_of, file_at, source_under}
use Rattle.hir_session_machine.specs.HirDefMapRules.Overlay.{Placed}
use Rattle.hir_session_machine.specs.HirDefMapRules.Sources.{HoldsNowhere, HoldsNowhereIn}
use Rattle.hir_session_machine.specs.HirCollectorRules.Derivation.{Ends}
use Rattle.hir_session_machine.specs.HirCollectorRules.Start.{Beginning}
use Rattle.hir_session_machine.specs.HirCollectorRules.declared.source_database.Key.{Key}
use Rattle.hir_session_machine.specs.HirCollectorRules.declared.source_database.Key.TheVariants as keys
use Rattle.hir_session_machine.specs.HirDefCollectorLaws.BlockKeys.{CratesAskForNoBlock, block_of_key, in_blocks}
use Rattle.hir_session_machine.specs.HirMessages.Edits.{set_file, remove_file, set_block, remove_block, set_expansion, remove_expansion, set_crate}
use Rattle.hir_session_machine.specs.HirSessionState.Changes.{Becomes}
use Rattle.hir_session_machine.specs.HirSessionState.Crates.{beginning_in, id_of, transitive_in}
use Rattle.hir_session_machine.specs.HirSessionState.Kept.{collected_of, placed_by}
use Rattle.hir_session_machine.specs.HirSessionState.KeySources.{key_place}
use Rattle.hir_session_machine.specs.HirSessionState.Marks.{IsTouched}
use Rattle.hir_session_machine.specs.HirSessionState.Marks.IsTouched.{before, asked_for}
use Rattle.hir_session_machine.specs.HirSessionState.SessionState.{SessionState, Resolution, finished_of, follows, is_marked}
use Rattle.hir_session_machine.specs.HirSessionState.SessionState.{kept_of, read_under, workspace_of, IsSound}
use Rattle.hir_session_machine.specs.HirSessionState.SourceEdits.{edited, of_block}
use Rattle.hir_session_machine.specs.HirSessionState.SourceTable.{workspace_in}
use Rattle.hir_session_machine.specs.HirSessionState.Spread.{Spread}
use Rattle.hir_session_machine.specs.HirSessionState.Spread.Spread.{here, depends}
use Rattle.hir_session_machine.proofs.HirSessionState.Depending.{depended, direct_below}
use Rattle.hir_session_machine.proofs.HirSessionState.Following.{dependency_behind}
use Rattle.hir_session_machine.proofs.HirSessionState.Ids.{of_number}
use Rattle.hir_session_machine.proofs.HirSessionState.Names.{among_there}
use Rattle.hir_session_machine.proofs.HirSessionState.Resolving.{behind_unmarked, crate_whole, stands_on_whole}
use Rattle.hir_session_machine.proofs.HirSessionState.Standing.{kept_gives, unmarked}
use Rattle.hir_session_machine.proofs.HirSessionState.Truth.{clash, no_value, on_bool, one_value}
use Rattle.hir_session_machine.proofs.HirSessionState.Worlds.{AgreeOn-refl, DependsOn-below}
use Rattle.hir_session_machine.proofs.HirSessionSources.SourceLemmas.{look-apart}
use Rattle.hir_session_laws.specs.Laws.{BlockEditsSpareTheCrate}

-- ---- keys

-- what is of no block doesn't stand at one
file_apart : (t : TablesValue) (id : HirFileId) (o : Option BlockId) (place : BlockPlace) → o ≡ None → source_under t id o ≢ Some (block place)
file_apart t id (Some b) place none e = no_value (sym none)
file_apart t (syntax.File f) None place none e = go (file_at t f.file_id) e
  where
    go : (p : Option (List ℕ)) → option_map file p ≢ Some (block place)
    go None h = no_value h
    go (Some p) h = let same : file p ≡ block place = one_value h in absurd (let no : ⊥ = cc in no)
file_apart t (syntax.Macro c) None place none e = go (expansion_of t c) e
  where
    go : (p : Option ExpansionValue) → option_map expansion p ≢ Some (block place)
    go None h = no_value h
    go (Some p) h = let same : expansion p ≡ block place = one_value h in absurd (let no : ⊥ = cc in no)

key_apart : (t : TablesValue) (key : Key) (place : BlockPlace) → block_of_key key ≡ None → key_place t key ≢ Some (block place)
key_apart t (keys.Tree key) place none = file_apart t key.id.file key.id.block place none
key_apart t (keys.Variants id) place none = file_apart t id.loc.file_id id.loc.block place none
key_apart t (keys.Text (macros.Macro2Id id)) place none = file_apart t id.loc.file_id id.loc.block place none
key_apart t (keys.Text (macros.MacroRulesId id)) place none = file_apart t id.loc.file_id id.loc.block place none
key_apart t (keys.Text (macros.ProcMacroId id)) place none = λ e. no_value e
key_apart t (keys.Input krate ast) place none = file_apart t ast.file_id ast.block place none
key_apart t (keys.Expansion id) place none = go (entry_at t id)
  where
    go : (p : Option ExpansionValue) → option_map expansion p ≢ Some (block place)
    go None h = no_value h
    go (Some p) h = let same : expansion p ≡ block place = one_value h in absurd (let no : ⊥ = cc in no)
key_apart t (keys.Map id) place none = λ e. no_value e
key_apart t (keys.Config krate) place none = λ e. no_value e

-- ---- what is kept of crates

module _ (law : CratesAskForNoBlock) (s : SessionState) (sound : IsSound s) where
  -- it asks for nothing of a block, and binds nothing that is written in one
  abbrev IsClear : Resolution → Type 0
  IsClear r = ((key : Key) → Contains r.asked key → block_of_key key ≡ None) × HoldsNowhereIn in_blocks r.map

  -- so do the crates that it reads
  nowhere_below : (n k : ℕ) → k < suc n → ((j : ℕ) → j < n → (x : Resolution) → kept_of s (id_of j) ≡ Some x → IsClear x)
      → HoldsNowhere in_blocks (read_under s (id_of k) [])
  nowhere_below n k low clear id placed e = go (kept_of s id) refl (among_there (transitive_in s.crates k) (finished_of s) id placed e).2
    where
      go : (o : Option Resolution) → kept_of s id ≡ o → option_map placed_by o ≡ Some placed → HoldsNowhereIn in_blocks placed.map
      go None kept h = no_value h
      go (Some x) kept h =
          let there = among_there (transitive_in s.crates k) (finished_of s) id placed e in
          let lower : id.krate.0 < k = DependsOn-below (direct_below s) ((depended sound k id.krate).0 there.1) in
          subst (λ (q : Placed). HoldsNowhereIn in_blocks q.map) (one_value h)
          (clear id.krate.0 (omega arith) x (ap (kept_of s) (sym (of_number id there.0)) ∙ kept)).1

  clear_crate : (n k : ℕ) → k < n → (r : Resolution) → kept_of s (id_of k) ≡ Some r → IsClear r
  clear_crate zero k low r is = absurd (omega arith)
  clear_crate (suc n) k low r is =
      let p = kept_gives s sound (id_of k) r is in
      let from : p.from ≡ beginning_in s.crates k = sym (one_value p.begun) in
      let off = behind_unmarked s sound k (unmarked s (id_of k) r is) in
      let ended : Ends s.tables (workspace_of s) (finished_of s) p.from (collected_of r) = p.resolved.ends (workspace_of s) (finished_of s) AgreeOn-refl in
      law s.tables (workspace_of s) (finished_of s) (beginning_in s.crates k) (collected_of r) (crate_whole s k sound off) (stands_on_whole s k sound off)
      (subst (λ (x : Beginning). Ends s.tables (workspace_of s) (finished_of s) x (collected_of r)) from ended) refl refl
      (nowhere_below n k low (λ j less x kept. clear_crate n j less x kept))

  -- what an edit of a block spreads to of the crates was marked
  unspread_crate : (place : BlockPlace) (there : Option SourceValue) {id : MapId} → id.block ≡ None
      → Spread (follows s) (IsTouched s (workspace_in s.crates (edited s.sources (of_block place there)))) id → is_marked s id ≡ true
  unspread_crate place there none (here id (before on)) = on
  unspread_crate place there none (here id (asked_for key r is has ne)) =
      let clear = clear_crate (suc id.krate.0) id.krate.0 (omega arith) r (ap (kept_of s) (sym (of_number id none)) ∙ is) in
      absurd (ne (look-apart s.crates s.tables s.sources (of_block place there) key (key_apart s.tables key place (clear.0 key has))))
  unspread_crate place there none (depends id d among sp) =
      let c = dependency_behind s id.krate d (subst (λ (x : MapId). Contains (follows s x) d) (of_number id none) among) in
      on_bool (is_marked s id)
      (λ on. on)
      (λ off. clash (unspread_crate place there (ap (λ (x : MapId). x.block) c.2) sp) (sound.closed id d off among))

  spared_by : (place : BlockPlace) (there : Option SourceValue) (new : SessionState) → Becomes s (edited s.sources (of_block place there)) new → (k : ℕ)
      → is_marked new (id_of k) ≡ is_marked s (id_of k)
  spared_by place there new is k = on_bool (is_marked new (id_of k))
      (λ on. on ∙ sym (unspread_crate place there refl (is.only (id_of k) on)))
      (λ off. on_bool (is_marked s (id_of k))
      (λ was. clash (is.all (id_of k) (here (id_of k) (before was))) off)
      (λ was. off ∙ sym was))

pub block_edits_spare_the_crate : CratesAskForNoBlock → BlockEditsSpareTheCrate
block_edits_spare_the_crate law old new (set_block place source) k sound of_a_block is = spared_by law old sound place (Some source) new is k
block_edits_spare_the_crate law old new (remove_block place) k sound of_a_block is = spared_by law old sound place None new is k
block_edits_spare_the_crate law old new (set_file path source) k sound of_a_block is = clash of_a_block refl
block_edits_spare_the_crate law old new (remove_file path) k sound of_a_block is = clash of_a_block refl
block_edits_spare_the_crate law old new (set_expansion key entry) k sound of_a_block is = clash of_a_block refl
block_edits_spare_the_crate law old new (remove_expansion key) k sound of_a_block is = clash of_a_block refl
block_edits_spare_the_crate law old new (set_crate krate given) k sound of_a_block is = clash of_a_block refl
