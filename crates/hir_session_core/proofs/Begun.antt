-- A block that is due begins in the module that holds it.
use Rattle.std.specs.Prelude.{is_none, slice_get}
use Rattle.std.specs.Option.{IsSome, option_and_then}
use Rattle.std.proofs.Common.{◌≡◌, ◌∙◌, ◌⊎◌, inl, inr, ap, sym, subst, refl, ℕ, zero, suc, ◌<◌, ◌≤◌, true, false, List, [], ◌∷◌, ◌++◌, length, Option, Some}
use Rattle.std.proofs.Common.{None, option_map, Result, Ok, Err, IsErrAnd, OnErr, arith}
use Rattle.hir_session_state.specs.HirBase.Locations.{max_locations}
use Rattle.hir_session_state.specs.HirIds.declared.ast_id.BlockId.{BlockId}
use Rattle.hir_session_state.specs.HirBase.declared.place.BlockPlace.{BlockPlace}
use Rattle.hir_session_state.specs.HirIds.declared.ids.Crate.{Crate}
use Rattle.hir_session_state.specs.HirIds.declared.ast_id.EditionedFileId.{EditionedFileId}
use Rattle.hir_session_state.specs.HirIds.declared.ast_id.FileId.{FileId}
use Rattle.hir_session_state.specs.HirBase.declared.locations.LocationsError.{LocationsError}
use Rattle.hir_session_state.specs.HirIds.declared.ids.MapId.{MapId}
use Rattle.hir_session_state.specs.HirIds.declared.ids.ModuleId.{ModuleId}
use Rattle.hir_session_state.specs.HirIds.declared.ast_id.SyntaxId.{SyntaxId}
use Rattle.hir_session_state.specs.HirBase.declared.locations.LocationsError.TheVariants as number_error
use Rattle.hir_session_state.specs.HirTables.SourcePlaces.{block}
use Rattle.hir_session_state.specs.HirTables.Tables.{KeepsTables, TablesValue, block_at, file_at}
use Rattle.hir_session_state.specs.HirTables.Interning.{Interns, IsFull}
use Rattle.hir_session_state.specs.HirTables.Interning.Interns.{gets_next, had_number}
use Rattle.hir_session_state.proofs.HirCollectorRules.ModuleFiles.{source_kept}
use Rattle.hir_session_state.specs.HirCollectorRules.Calls.{AreCallsPlaced, IsMeantAt}
use Rattle.hir_session_state.specs.HirCollectorRules.Derivation.{CollectedValue, IsOverlong}
use Rattle.hir_session_state.specs.HirCollectorRules.Growth.{AnswersStand, AskedKeysHaveMeaning, LooksStand}
use Rattle.hir_session_state.specs.HirCollectorRules.UnknownSources.{MeetsUnknownSource}
use Rattle.hir_session_state.specs.HirCollectorRules.Workspace.{Workspace}
use Rattle.hir_session_state.specs.HirDefCollectorLaws.Whole.{RunsNameWhatIsThere}
use Rattle.hir_session_state.specs.HirDefMapRules.Overlay.{Maps, holders_under}
use Rattle.hir_session_state.specs.HirDefMapRules.State.{crate_map}
use Rattle.hir_session_state.specs.HirCollectorRules.Start.{Beginning, holder_of, root_site}
use Rattle.hir_session_state.specs.Blocks.{place_of_block}
use Rattle.hir_session_state.specs.Crates.{CrateValue, begins_in_block, id_of}
use Rattle.hir_session_state.specs.Due.{Grows, IsDueBlock, IsStuckAt, Resolved}
use Rattle.hir_session_state.specs.Due.IsStuckAt.{overlong}
use Rattle.hir_session_state.specs.Kept.{Resolution, Resolutions, held, kept_in}
use Rattle.hir_session_state.specs.SessionState.{SessionState, beginning_of, finished_of, is_marked, kept_of, module_of, standing_of, workspace_of, IsPlace}
use Rattle.hir_session_state.specs.SessionState.{IsResolved, IsResolutionOf, IsSound}
use Rattle.hir_session_state.specs.SessionState.IsPlace.{of_block, of_crate}
use Rattle.hir_session_state.specs.SourceTable.{SourceTable}
use Rattle.hir_session_state.specs.Refusals.{refresh_error_of_number}
use Rattle.hir_session_state.specs.declared.error.RefreshError.{RefreshError}
use Rattle.hir_session_state.specs.declared.error.RefreshError.TheVariants as refresh_error
use Rattle.hir_session_state.specs.Standing.{block_map, block_number, definition_file, is_set, module_by}
use Rattle.hir_session_state.proofs.Holders.{ends_held}
use Rattle.hir_session_state.proofs.Places.{has_block_number, number_kept, number_means}
use Rattle.hir_session_state.proofs.Resolving.{found_of_block}
use Rattle.hir_session_state.proofs.Standing.{IsBlockBegun, IsModuleKept, at_module, beginning_stays, begun_block, block_begun, holder_begun, module_there}
use Rattle.hir_session_state.proofs.Standing.{unmarked}
use Rattle.hir_session_state.proofs.Truth.{clash, no_value, one_value}
use Rattle.hir_session_state.proofs.Worlds.{AgreeOn-refl}
use Rattle.hir_session_answers.proofs.KnownSources.{block_known}
use Rattle.hir_session_core.specs.Progress.{AreCratesCurrent, AreFollowedCurrent, IsBlockResolved, IsModuleThere}
use Rattle.hir_session_core.proofs.Growth.{grown_mark, resolved_later}
use Rattle.hir_session_core.proofs.Waiting.{same_block, same_standing}

-- ---- numbers of blocks

-- each call is placed still where more blocks have numbers
pub placed_still : (old new : TablesValue) → KeepsTables old new → new ≡ record old { blocks = new.blocks } → AreCallsPlaced old → AreCallsPlaced new
placed_still old new keeps same are = record {
  calls = λ n loc at.
      let was = are.calls n loc (sym (ap (λ (t : TablesValue). slice_get t.calls n) same) ∙ at) in
      record { source = source_kept old new keeps _ was.source; earlier = was.earlier };
}

-- a block for which no number is left has none
pub none_left : (t : TablesValue) (b : BlockPlace) → IsFull t.blocks b → (block_number t b ≡ None) × (max_locations ≤ length t.blocks)
none_left t b full = (go (block_number t b) refl, (let count : length t.blocks ≡ max_locations = full.full in omega arith))
  where
    go : (o : Option BlockId) → block_number t b ≡ o → o ≡ None
    go None is = refl
    go (Some id) is = absurd (full.absent (id.0, number_means t b id is))

-- why a number isn't given
pub no_number : (given : Result BlockId LocationsError) (told : Result BlockId RefreshError) (e : LocationsError) → given ≡ Err e
    → IsErrAnd told (λ x. x ≡ refresh_error_of_number e)
    → told ≡ Err refresh_error.TooMany → given ≡ Err number_error.TooMany
no_number given (Ok x) e was h is = absurd h
no_number given (Err x) number_error.TooMany was h is = was
no_number given (Err x) number_error.Memory was h is = absurd (let wrong : ⊥ = cc in wrong)

-- the number that is given, if one is
abbrev pub given_number : Result BlockId LocationsError → Option BlockId
given_number (Ok n) = Some n
given_number (Err e) = None

-- what holds where a call is refused
pub at_err : {A T E : Type 0} {r : Result T E} {e : E} → r ≡ Err e → OnErr r A → A
at_err {A} {T} {E} {r} {e} is h = go r is h
  where
    go : (x : Result T E) → x ≡ Err e → OnErr x A → A
    go (Ok y) f k = absurd (let wrong : ⊥ = cc in wrong)
    go (Err y) f k = k

pub where_err : {A C T E : Type 0} (r : Result T E) → OnErr r A → (A → C) → OnErr r C
where_err (Ok x) h f = tt
where_err (Err e) h f = f h

-- ---- a run begins where it began

module _ (old new : SessionState) (sound : IsSound old) (grown : Grows old new) where
  -- the session with the tables that grew
  with_tables : record old { tables = new.tables } ≡ new
  with_tables = λ i. record { crates = sym grown.crates i; tables = new.tables; sources = sym grown.sources i; kept = sym grown.kept i }

  pub grown_begun : (krate : Crate) (b : BlockId) (from : Beginning) → beginning_of old (block_map krate b) ≡ Some from → beginning_of new (block_map krate b)
      ≡ Some from
  grown_begun krate b from begun =
      let q = block_begun old krate b from begun in
      let k = module_there old sound q.place.holder q.holder (at_module (standing_of old q.place.holder) q.holder q.held) in
      subst (λ (s : SessionState). beginning_of s (block_map krate b) ≡ Some from) with_tables
      (beginning_stays old sound (λ j. is_marked old j ≡ false) (λ j d off among. sound.closed j d off among) old.crates new.tables old.sources old.kept
      grown.tables
      (λ j off. refl) (λ c place means off set. set)
      (block_map krate b) (λ none. refl) from begun
      (λ h held.
      let same : h ≡ q.holder = one_value (sym held ∙ holder_begun old krate b from q) in
      subst (λ (x : ModuleId). is_marked old x.map ≡ false) (sym same) (unmarked old q.holder.map k.found k.is)))

-- ---- a block that is due

-- its run may begin
pub record IsReady (s : SessionState) (krate : Crate) (b : BlockPlace) (number : BlockId) (holder : ModuleId) (file : EditionedFileId) : Type 0 where
  pub place : IsPlace s (block_map krate number)
  pub marked : is_marked s (block_map krate number) ≡ true
  pub begun : beginning_of s (block_map krate number) ≡ Some (begins_in_block krate number holder file b.id)
  pub behind : AreFollowedCurrent s (block_map krate number) (Some holder)

module _ (old mid : SessionState) (sound : IsSound old) (grown : Grows old mid) (b : BlockPlace) (holder : ModuleId) (number : BlockId)
    (current : AreCratesCurrent old) (due : IsDueBlock old b)
    (held : module_of old b.holder ≡ Some holder) (means : block_at mid.tables number ≡ Some b) (numbered : block_number mid.tables b ≡ Some number) where
  abbrev own : MapId
  own = block_map b.holder.krate number

  -- what is kept of the map in which its holder lies
  held_there : IsModuleKept old b.holder.krate holder
  held_there = module_there old sound b.holder holder (at_module (standing_of old b.holder) holder held)

  holder_off : is_marked old holder.map ≡ false
  holder_off = unmarked old holder.map held_there.found held_there.is

  -- it is there still
  pub holder_there : IsModuleThere mid holder
  holder_there = record {
    found = held_there.found;
    is = ap (λ (kept : Resolutions). kept_in kept holder.map) grown.kept ∙ held_there.is;
    there = held_there.there;
  }

  within : b.holder.krate.0 < length old.crates
  within = subst (λ (k : Crate). k.0 < length old.crates) held_there.own (go (sound.placed holder.map holder_off))
    where
      go : IsPlace old holder.map → holder.map.krate.0 < length old.crates
      go (of_crate none below) = below
      go (of_block c place is at same below set) = below

  none_kept : kept_of mid own ≡ None
  none_kept =
      sym (ap (option_and_then (λ (n : BlockId). kept_in mid.kept (block_map b.holder.krate n))) numbered)
      ∙ same_block old mid sound grown b ∙ due.marked

  pub ready : (krate : Crate) → krate ≡ b.holder.krate → (file : EditionedFileId) → definition_file mid.tables mid.kept holder ≡ Some file
      → IsReady mid krate b number holder file
  ready krate same file written = subst (λ (k : Crate). IsReady mid k b number holder file) (sym same) (record {
    place = of_block number b refl means refl (subst (λ (cs : List CrateValue). b.holder.krate.0 < length cs) (sym grown.crates) within)
        (ap (λ (t : SourceTable). is_set t.blocks b) grown.sources ∙ due.set);
    marked = ap (λ (o : Option Resolution). is_none o) none_kept;
    begun = begun_block mid b.holder.krate number (begins_in_block b.holder.krate number holder file b.id) (record {
      place = b;
      means = means;
      holder = holder;
      held = ap module_by (same_standing old mid sound grown b.holder) ∙ held;
      file = file;
      written = written;
      is = refl;
    });
    behind = follows_current;
  })
    where
      follows_current : AreFollowedCurrent mid own (Some holder)
      follows_current d (zero, below, is) =
          subst (λ (x : MapId). is_marked mid x ≡ false) is (grown_mark old mid grown (id_of b.holder.krate.0) ∙ current b.holder.krate.0 within)
      follows_current d (suc zero, below, is) = subst (λ (x : MapId). is_marked mid x ≡ false) is (grown_mark old mid grown holder.map ∙ holder_off)
      follows_current d (suc (suc n), below, is) = absurd (let past : suc (suc n) < 2 = below in omega arith)

  -- where it was resolved
  pub block_resolved : (krate : Crate) → krate ≡ b.holder.krate → (new : SessionState) (r : Resolution) → Resolved mid (block_map krate number) r new
      → IsBlockResolved old b new
  block_resolved krate same new r resolved_so =
      let is : Resolved mid own r new = subst (λ (k : Crate). Resolved mid (block_map k number) r new) same resolved_so in
      record {
        number = number;
        numbered = number_kept mid.tables new.tables is.tables b number numbered;
        found = r;
        marked = sym (grown_mark old mid grown own) ∙ ap (λ (o : Option Resolution). is_none o) none_kept;
        resolved = resolved_later old mid new own r grown is;
      }

  -- where its run was given up
  pub block_stuck : (krate : Crate) → krate ≡ b.holder.krate → (new : SessionState) (file : EditionedFileId) → definition_file mid.tables mid.kept holder
      ≡ Some file → Grows mid new
      → IsOverlong new.tables (workspace_of new) (finished_of new) (begins_in_block krate number holder file b.id) → IsStuckAt new (place_of_block b)
  block_stuck krate same new file written later over =
      overlong own (begins_in_block b.holder.krate number holder file b.id)
      (ap (option_map place_of_block) (later.tables.blocks number.0 b means))
      (grown_begun mid new grown.sound later b.holder.krate number (begins_in_block b.holder.krate number holder file b.id)
      (ready b.holder.krate refl file written).begun)
      (subst (λ (k : Crate). IsOverlong new.tables (workspace_of new) (finished_of new) (begins_in_block k number holder file b.id)) same over)

-- ---- a run

-- what holds of a block whose run may begin
record BeginsHeld (s : SessionState) (krate : Crate) (b : BlockId) (from : Beginning) : Type 0 where
  begun : IsBlockBegun s krate b from
  own : begun.place.holder.krate ≡ krate
  off : is_marked s (crate_map krate) ≡ false
  none : kept_of s (block_map krate b) ≡ None
  meant : IsMeantAt s.tables (root_site from.tree)

module _ (s view : SessionState) (seen : s ≡ view) (krate : Crate) (b : BlockId) (holder : ModuleId) (file : EditionedFileId) (id : SyntaxId)
    (place : IsPlace view (block_map krate b))
    (on : is_marked view (block_map krate b) ≡ true) (begun : beginning_of view (block_map krate b) ≡ Some (begins_in_block krate b holder file id))
    (there : IsSome (file_at view.tables file.file_id))
    (behind : AreFollowedCurrent view (block_map krate b) (Some holder)) where
  begins_held : BeginsHeld s krate b (begins_in_block krate b holder file id)
  begins_held =
      let back = sym seen in
      let here : beginning_of s (block_map krate b) ≡ Some (begins_in_block krate b holder file id) =
      subst (λ (v : SessionState). beginning_of v (block_map krate b) ≡ Some (begins_in_block krate b holder file id)) back begun in
      let q = block_begun s krate b (begins_in_block krate b holder file id) here in
      let numbered : IsSome (file_at s.tables file.file_id) = subst (λ (v : SessionState). IsSome (file_at v.tables file.file_id)) back there in
      record {
        begun = q;
        own = own_krate q (subst (λ (v : SessionState). IsPlace v (block_map krate b)) back place);
        off = subst (λ (v : SessionState). is_marked v (crate_map krate) ≡ false) back (behind (crate_map krate) (zero, omega arith, refl));
        none = none_there (subst (λ (v : SessionState). is_marked v (block_map krate b) ≡ true) back on);
        meant = meant_at q numbered;
      }
    where
      own_krate : (q : IsBlockBegun s krate b (begins_in_block krate b holder file id)) → IsPlace s (block_map krate b) → q.place.holder.krate ≡ krate
      own_krate q (of_crate none within) = no_value (sym none)
      own_krate q (of_block c at is_c means own within set) =
          ap (λ (x : BlockPlace). x.holder.krate) (one_value (sym q.means ∙ ap (block_at s.tables) (one_value is_c) ∙ means)) ∙ own

      none_there : is_marked s (block_map krate b) ≡ true → kept_of s (block_map krate b) ≡ None
      none_there marked = go (kept_of s (block_map krate b)) marked
        where
          go : (o : Option Resolution) → is_none o ≡ true → o ≡ None
          go None e = refl
          go (Some x) e = clash e refl

      -- the tree is the block's, and its file the one in which the holder is written
      meant_at : (q : IsBlockBegun s krate b (begins_in_block krate b holder file id)) → IsSome (file_at s.tables file.file_id)
          → IsMeantAt s.tables (root_site (begins_in_block krate b holder file id).tree)
      meant_at q numbered = record {
        tree = subst (λ (o : Option BlockPlace). IsSome (option_map block o)) (sym q.means) refl;
        file = λ f e. subst (λ (x : FileId). IsSome (file_at s.tables x)) (one_value e) numbered;
      }

  -- what a run gives for a block is its resolution
  pub found_held : LooksStand → AskedKeysHaveMeaning → AnswersStand → RunsNameWhatIsThere → (T : TablesValue) → KeepsTables s.tables T
      → (AreCallsPlaced s.tables → AreCallsPlaced T) → IsSound s
      → (r : CollectedValue) (finished : Maps) → finished ≡ finished_of s → IsResolved T (workspace_of s) finished (begins_in_block krate b holder file id) r
      → IsResolutionOf (record s { tables = T }) (block_map krate b) (held r (holders_under (finished_of s) r.map.id r.map.holder))
  found_held looks meaning answers law T keeps placed sound r finished is resolved =
      let h : BeginsHeld s krate b (begins_in_block krate b holder file id) = begins_held in
      found_of_block looks meaning answers s T keeps placed sound law krate b (begins_in_block krate b holder file id) h.begun h.own h.off h.none h.meant r
      finished is resolved

  -- and it meets no unknown source
  pub known_held : IsSound s → (T : TablesValue) → KeepsTables s.tables T → (finished : Maps) → finished ≡ finished_of s
      → ¬ MeetsUnknownSource T (workspace_of s) finished (begins_in_block krate b holder file id)
  known_held sound T keeps finished is meets =
      let h : BeginsHeld s krate b (begins_in_block krate b holder file id) = begins_held in
      block_known s sound T keeps krate b (begins_in_block krate b holder file id) h.begun h.own h.off h.none h.meant
      (subst (λ (maps : Maps). MeetsUnknownSource T (workspace_of s) maps (begins_in_block krate b holder file id)) is meets)

-- its map is held as its run began
pub holder_found : (tables : TablesValue) (w : Workspace) (finished : Maps) (from : Beginning) (r : CollectedValue) → IsResolved tables w finished from r
    → r.map.holder ≡ holder_of from.start
holder_found tables w finished from r resolved = ends_held (resolved.ends w finished AgreeOn-refl)

-- ---- the number that a block gets

-- one that is found behind others is one of those or the last
found_behind : (xs : List BlockPlace) (x y : BlockPlace) (n : ℕ) → slice_get (xs ++ x ∷ []) n ≡ Some y → (slice_get xs n ≡ Some y) ⊎ (n ≡ length xs)
found_behind [] x y zero e = inr refl
found_behind [] x y (suc n) e = no_value e
found_behind (z ∷ zs) x y zero e = inl e
found_behind (z ∷ zs) x y (suc n) e = elim (found_behind zs x y n e) [
  | inl early ↦ inl early
  | inr last ↦ inr (ap suc last)
]

-- it is that of the block
pub interned_number : (old new : TablesValue) (b : BlockPlace) (id : BlockId) → block_at new id ≡ Some b → ((n : BlockId) → block_at old n ≡ Some b → n ≡ id)
    → Interns old.blocks new.blocks b
    → block_number new b ≡ Some id
interned_number old new b id means again grown =
    let has = has_block_number new b id means in
    has.1 ∙ ap (λ (n : BlockId). Some n) (one_number grown has.0 (number_means new b has.0 has.1))
  where
    one_number : Interns old.blocks new.blocks b → (n : BlockId) → block_at new n ≡ Some b → n ≡ id
    one_number (had_number h same) n is = again n (sym (ap (λ (bs : List BlockPlace). slice_get bs n.0) same) ∙ is)
    one_number (gets_next none longer) n is =
        let last : (k : ℕ) → slice_get new.blocks k ≡ Some b → k ≡ length old.blocks = λ k at. elim
        (found_behind old.blocks b b k (sym (ap (λ (bs : List BlockPlace). slice_get bs k) longer) ∙ at)) [
          | inl early ↦ absurd (none (k, early))
          | inr is_last ↦ is_last
        ] in
        let same : n.0 ≡ id.0 = last n.0 is ∙ sym (last id.0 means) in
        λ i. record { 0 = same i }
