-- What is behind a place stays, or an edit altered a key that was asked for there.
use Rattle.std.specs.Prelude.{is_none, map, if◌then◌else◌}
use Rattle.std.proofs.Common.{◌≡◌, ◌⊎◌, inl, inr, ℕ, nat_lt, Bool, true, false, cond, List, [], ◌∷◌, ◌++◌, length, Option, None, Some, Result, Ok, option_map}
use Rattle.std.proofs.Common.{refl, sym, subst, ap, ◌∙◌, Contains}
use Rattle.std.specs.Option.{option_and_then}
use Rattle.hir_session_state.specs.HirBase.ModPath.{Path}
use Rattle.hir_session_state.specs.HirBase.Place.{PlaceValue}
use Rattle.hir_session_state.specs.HirIds.contracts.ids.MapIdPartialEq.TheImpl as map_id
use Rattle.hir_session_state.specs.HirIds.declared.ast_id.BlockId.{BlockId}
use Rattle.hir_session_state.specs.HirBase.declared.place.BlockPlace.{BlockPlace}
use Rattle.hir_session_state.specs.HirIds.declared.ids.Crate.{Crate}
use Rattle.hir_session_state.specs.HirIds.declared.ids.MapId.{MapId}
use Rattle.hir_session_state.specs.HirIds.declared.ids.ModuleId.{ModuleId}
use Rattle.hir_session_state.specs.HirBase.declared.place.PlaceElement.{PlaceElement}
use Rattle.hir_session_state.specs.HirBase.declared.place.PlaceElement.TheVariants as element
use Rattle.hir_session_state.specs.HirTables.Tables.{KeepsTables, TablesValue, block_at}
use Rattle.hir_session_state.proofs.HirTables.Growth.{KeepsTables-refl, KeepsTables-trans}
use Rattle.hir_session_state.specs.HirNameres.WorldParts.{among, is_of_some}
use Rattle.hir_session_state.specs.HirNameres.Inner.PartLaws.{among_agrees}
use Rattle.hir_session_state.specs.HirDefMapRules.Closed.{PathsLeadToWhatIsThere}
use Rattle.hir_session_state.specs.HirDefMapRules.Inner.OverlayLaws.{exact_map}
use Rattle.hir_session_state.specs.HirDefMapRules.Sources.{PathsAnswerFromSources}
use Rattle.hir_session_state.specs.HirDefMapRules.Overlay.{Maps, holders_of, overlay, no_maps}
use Rattle.hir_session_state.specs.HirDefMapRules.State.{child_at, crate_map, root_of}
use Rattle.hir_session_state.specs.HirCollectorRules.Workspace.{ConfigValue, Workspace, dependencies_of as handed_dependencies, earlier}
use Rattle.hir_session_state.specs.HirCollectorRules.declared.source_database.Dependency.{Dependency}
use Rattle.hir_session_state.specs.HirCollectorRules.Keys.{look}
use Rattle.hir_session_state.specs.HirDefCollectorLaws.Sources.{RunsBindFromSources}
use Rattle.hir_session_state.specs.HirCollectorRules.declared.source_database.Key.{Key}
use Rattle.hir_session_state.specs.HirMessages.Edits.{CrateDataValue, EditValue}
use Rattle.hir_session_state.specs.HirMessages.declared.answer.Answer.{Answer}
use Rattle.hir_session_state.specs.HirMessages.declared.command.MacroStyle.{MacroStyle}
use Rattle.hir_session_state.specs.HirMessages.declared.command.Shadow.{Shadow}
use Rattle.hir_session_state.specs.HirMessages.declared.reply.Status.TheVariants as status
use Rattle.hir_session_state.specs.declared.error.QueryError.{QueryError}
use Rattle.hir_session_state.specs.Blocks.{Blocks}
use Rattle.hir_session_state.specs.Crates.{CrateValue, config_in, dependency_maps, transitive_in, with_config}
use Rattle.hir_session_state.specs.Inputs.{InputsValue, workspace_by}
use Rattle.hir_session_state.specs.Kept.{Resolutions, kept_in, placed_by}
use Rattle.hir_session_state.specs.SourceEdits.{InputEdit, edit_of, edited, source_edit, crate_edit}
use Rattle.hir_session_state.specs.SessionState.{SessionState, Resolution, workspace_of, finished_of, follows, follows_by, held_maps, read_of, kept_of}
use Rattle.hir_session_state.specs.SessionState.{is_marked, module_of, standing_of, IsPlace, IsSound}
use Rattle.hir_session_state.specs.SessionState.IsPlace.{of_block, of_crate}
use Rattle.hir_session_state.specs.Spread.{Spread}
use Rattle.hir_session_state.specs.Spread.Spread.{here, depends}
use Rattle.hir_session_state.specs.Standing.{Standing, block_below, block_map, child_kept, down, from_crate, is_set, kept_block, map_by, module_by, step}
use Rattle.hir_session_state.specs.Standing.{to_child, to_root}
use Rattle.hir_session_state.specs.Standing.{Standing as way}
use Rattle.hir_session_state.specs.Marks.{IsAltered, IsTouched}
use Rattle.hir_session_state.specs.Marks.IsTouched.{before, asked_for}
use Rattle.hir_session_state.specs.Due.{Grows, IsBehind, IsAskedBehind}
use Rattle.hir_session_state.specs.Due.IsBehind.{itself, next}
use Rattle.hir_session_state.specs.Changes.{Applies, AppliesTo, IsHandedIn, Resolves, SetsCrate}
use Rattle.hir_session_answers.specs.Status.{status_by}
use Rattle.hir_session_answers.specs.Answers.{answer_at, answer_by, answer_from, answer_in, answer_kept, answer_of}
use Rattle.hir_session_answers.specs.Histories.{History, WasAltered, DifferOnlyWhereAltered}
use Rattle.hir_session_answers.specs.Histories.History.{none, edit, refresh, numbers}
use Rattle.hir_session_state.proofs.Depending.{found-any}
use Rattle.hir_session_state.proofs.Holding.{holders_hold}
use Rattle.hir_session_state.proofs.Following.{followed_crate}
use Rattle.hir_session_state.proofs.Names.{of_some}
use Rattle.hir_session_state.proofs.Renewed.{length_renewed, other_config, same_crates}
use Rattle.hir_session_state.proofs.Resolving.{kept_there}
use Rattle.hir_session_state.proofs.Standing.{down-append, kept_gives, standing_stays, unmarked}
use Rattle.hir_session_state.proofs.Truth.{clash, no_value, on_bool, on_same, one_value}
use Rattle.hir_session_state.proofs.Worlds.{crates_stay, kept_transitive}
use Rattle.hir_session_answers.proofs.Growing.{kept_answer}
use Rattle.hir_session_answers.proofs.LeftOut.{maps_behind, place_there, read_kept, whole}

-- what is behind the place is as it was
pub record IsSame (from to : SessionState) (id : MapId) : Type 0 where
  pub count : length to.crates ≡ length from.crates
  -- it stands on the same crates, and each place behind it depends on the same places
  pub transitive : transitive_in to.crates id.krate.0 ≡ transitive_in from.crates id.krate.0
  pub alike : (j : MapId) → IsBehind from id j → follows to j ≡ follows from j
  pub tables : KeepsTables from.tables to.tables
  pub off : (j : MapId) → IsBehind from id j → is_marked to j ≡ false
  pub kept : (j : MapId) → IsBehind from id j → kept_of to j ≡ kept_of from j
  pub sound : IsSound to

-- all behind an unmarked place is unmarked
pub unmarked_behind : {s : SessionState} {k j : MapId} → IsSound s → is_marked s k ≡ false → IsBehind s k j → is_marked s j ≡ false
unmarked_behind sound off itself = off
unmarked_behind {s} {k} sound off (next j d behind among) = sound.closed j d (unmarked_behind sound off behind) among

-- where the crates and what is kept of a place are the same, it follows the same
pub follows_alike : (from to : SessionState) (id : MapId) → to.crates ≡ from.crates → kept_of to id ≡ kept_of from id → follows to id ≡ follows from id
follows_alike from to id crates kept = go id.block
  where
    go : (o : Option BlockId) → follows_by to id o ≡ follows_by from id o
    go None = ap (λ (cs : List CrateValue). dependency_maps cs id.krate) crates
    go (Some b) = ap (λ (o : Option Resolution). crate_map id.krate ∷ held_maps o) kept

-- all that was behind a place is unmarked where the place still is
pub unmarked_still : {from to : SessionState} {k j : MapId} → IsSound to
    → ((i : MapId) → IsBehind from k i → is_marked to i ≡ false → follows to i ≡ follows from i) → is_marked to k ≡ false → IsBehind from k j → is_marked to j
    ≡ false
unmarked_still sound alike off itself = off
unmarked_still {from} {to} sound alike off (next j d behind among) =
    let still = unmarked_still sound alike off behind in
    sound.closed j d still (subst (λ (ids : List MapId). Contains ids d) (sym (alike j behind still)) among)

-- a place of which the same is kept stands on the same crates
same_transitive : {from to : SessionState} (id : MapId) → IsSound from → IsSound to → is_marked to id ≡ false → kept_of to id ≡ kept_of from id
    → transitive_in to.crates id.krate.0 ≡ transitive_in from.crates id.krate.0
same_transitive {from} {to} id sound_from sound_to off same =
    let there = kept_there to id off in
    sym (kept_transitive to id there.0 (kept_gives to sound_to id there.0 there.1))
    ∙ kept_transitive from id there.0 (kept_gives from sound_from id there.0 (sym same ∙ there.1))

-- what was marked shows a key that was altered
pub what_marked : {from mid : SessionState} {k : MapId} (w : Workspace) → IsSame from mid k → {j : MapId} → Spread (follows mid) (IsTouched mid w) j
    → IsBehind from k j
    → (key : Key) × IsAskedBehind from k key × IsAltered mid.tables (workspace_of mid) w key
what_marked w same (here j (before m)) behind = clash m (same.off j behind)
what_marked w same (here j (asked_for key r is has ne)) behind =
    (key, record { place = j; found = r; behind = behind; is = sym (same.kept j behind) ∙ is; asked = has }, ne)
what_marked {from} {mid} w same (depends j d among sp) behind =
    what_marked w same sp (next j d behind (subst (λ (ids : List MapId). Contains ids d) (same.alike j behind) among))

-- the workspace that an accepted edit leaves is the one that was handed in
workspace-becomes : {old new : SessionState} {inputs : InputsValue} → IsHandedIn old inputs new → workspace_of new ≡ workspace_by inputs
workspace-becomes is = rw (is.crates, is.sources_are) refl

-- what is handed in leaves all that is behind the place as it was, or alters a key that was asked for there
same_once_handed : {from mid to : SessionState} {k : MapId} (inputs : InputsValue) → IsSame from mid k → IsHandedIn mid inputs to
    → length to.crates ≡ length mid.crates
    → ((j : MapId) → is_marked to j ≡ false → kept_of to j ≡ kept_of mid j → follows to j ≡ follows mid j)
    → IsSame from to k ⊎ ((key : Key) × IsAskedBehind from k key × IsAltered mid.tables (workspace_of mid) (workspace_of to) key)
same_once_handed {from} {mid} {to} {k} inputs same is count alike = on_bool (is_marked to k)
    (λ on. let hit = what_marked (workspace_by inputs) same (is.only k on) itself in
    inr (
      hit.0,
      hit.1,
      λ h. hit.2 (subst (λ (w : Workspace). look mid.tables w no_maps hit.0 ≡ look mid.tables (workspace_of mid) no_maps hit.0)
          (workspace-becomes is) h),
    ))
    (λ still.
    let follow = λ (j : MapId) (behind : IsBehind from k j) (off : is_marked to j ≡ false). alike j off (is.kept j off) ∙ same.alike j behind in
    let off = λ (j : MapId) (behind : IsBehind from k j). unmarked_still is.sound follow still behind in
    inl (record {
      count = count ∙ same.count;
      transitive = same_transitive k same.sound is.sound still (is.kept k still) ∙ same.transitive;
      alike = λ j behind. follow j behind (off j behind);
      tables = subst (λ (t : TablesValue). KeepsTables from.tables t) (sym is.tables) same.tables;
      off = off;
      kept = λ j behind. is.kept j (off j behind) ∙ same.kept j behind;
      sound = is.sound;
    }))

-- ---- a crate that is handed in with other data

-- a place that stays unmarked depends on what it did
renewed_follows : (mid to : SessionState) (krate : Crate) (given : CrateDataValue) (is : SetsCrate mid krate given to) (j : MapId) → is_marked to j ≡ false
    → kept_of to j ≡ kept_of mid j
    → follows to j ≡ follows mid j
renewed_follows mid to krate given is j off kept = go j.block refl
  where
    follows_of : Option ConfigValue → List MapId
    follows_of o = map crate_map (earlier j.krate.0 (map (λ (d : Dependency). d.krate) (handed_dependencies o)))

    of_crate_alone : j.block ≡ None → config_in to.crates j.krate ≡ config_in mid.crates j.krate
    of_crate_alone alone = ap (λ (cs : List CrateValue). config_in cs j.krate) is.becomes.crates ∙ on_same j.krate.0 krate.0
        (λ same. elim is.marks [
          | inl as_before ↦ ap (λ (cs : List CrateValue). config_in cs j.krate) (same_crates mid.crates krate.0 is.config as_before)
          | inr marked ↦
              let own : crate_map krate ≡ j = λ i. record { krate = record { 0 = sym same i }; block = sym alone i } in
              clash (sym (ap (is_marked to) own) ∙ marked) off
        ])
        (λ apart. other_config mid.crates krate.0 is.config j.krate apart)

    go : (o : Option BlockId) → j.block ≡ o → follows_by to j o ≡ follows_by mid j o
    go None alone = ap follows_of (of_crate_alone alone)
    go (Some b) of = ap (λ (o : Option Resolution). crate_map j.krate ∷ held_maps o) kept

-- an edit leaves all that is behind the place as it was, or alters a key that was asked for there
pub same_after_edit : {from mid to : SessionState} {k : MapId} (e : EditValue) → IsSame from mid k → Applies mid e to
    → IsSame from to k ⊎ ((key : Key) × IsAskedBehind from k key × IsAltered mid.tables (workspace_of mid) (workspace_of to) key)
same_after_edit {from} {mid} {to} {k} e same is = go (edit_of e) is
  where
    go : (edit : InputEdit) → AppliesTo mid edit to → IsSame from to k ⊎ ((key : Key) × IsAskedBehind from k key
        × IsAltered mid.tables (workspace_of mid) (workspace_of to) key)
    go (source_edit change) is =
        same_once_handed (record { crates = mid.crates; sources = edited mid.sources change }) same is (ap (λ (cs : List CrateValue). length cs) is.crates)
        (λ j off kept. follows_alike mid to j is.crates kept)
    go (crate_edit krate given) is =
        same_once_handed (record { crates = with_config mid.crates krate.0 is.config; sources = mid.sources }) same is.becomes
        (ap (λ (cs : List CrateValue). length cs) is.becomes.crates
        ∙ length_renewed mid.crates krate.0 is.config)
        (renewed_follows mid to krate given is)

-- and a refresh leaves it so
pub same_after_refresh : {from mid to : SessionState} {k : MapId} {done : List PlaceValue} → IsSame from mid k → Resolves mid done to → IsSame from to k
same_after_refresh {from} {mid} {to} {k} same is = record {
  count = ap (λ (cs : List CrateValue). length cs) is.crates ∙ same.count;
  transitive = ap (λ (cs : List CrateValue). transitive_in cs k.krate.0) is.crates ∙ same.transitive;
  alike = λ j behind. follows_alike mid to j is.crates (is.others j (same.off j behind)) ∙ same.alike j behind;
  tables = KeepsTables-trans _ _ _ same.tables is.tables;
  off = λ j behind. ap (λ (o : Option Resolution). is_none o) (is.others j (same.off j behind)) ∙ same.off j behind;
  kept = λ j behind. is.others j (same.off j behind) ∙ same.kept j behind;
  sound = is.sound;
}

-- so it stays as tables grow
pub same_once_grown : {from mid to : SessionState} {k : MapId} → IsSame from mid k → Grows mid to → IsSame from to k
same_once_grown {from} {mid} {to} {k} same grown = record {
  count = ap (λ (cs : List CrateValue). length cs) grown.crates ∙ same.count;
  transitive = ap (λ (cs : List CrateValue). transitive_in cs k.krate.0) grown.crates ∙ same.transitive;
  alike = λ j behind. follows_alike mid to j grown.crates (ap (λ (kept : Resolutions). kept_in kept j) grown.kept) ∙ same.alike j behind;
  tables = KeepsTables-trans _ _ _ same.tables grown.tables;
  off = λ j behind. ap (λ (kept : Resolutions). is_none (kept_in kept j)) grown.kept ∙ same.off j behind;
  kept = λ j behind. ap (λ (kept : Resolutions). kept_in kept j) grown.kept ∙ same.kept j behind;
  sound = grown.sound;
}

pub same_at_first : {from : SessionState} {k : MapId} → IsSound from → is_marked from k ≡ false → IsSame from from k
same_at_first sound off =
    record {
      count = refl;
      transitive = refl;
      alike = λ j behind. refl;
      tables = KeepsTables-refl _;
      off = λ j behind. unmarked_behind sound off behind;
      kept = λ j behind. refl;
      sound = sound;
    }

pub same_or_altered : {from : SessionState} {k : MapId} → IsSound from → is_marked from k ≡ false → {to : SessionState} → (h : History from to)
    → IsSame from to k ⊎ ((key : Key) × IsAskedBehind from k key × WasAltered key h)
same_or_altered sound off none = inl (same_at_first sound off)
same_or_altered sound off (edit mid to e earlier is) = elim (same_or_altered sound off earlier) [
  | inl same ↦ elim (same_after_edit e same is) [
    | inl still ↦ inl still
    | inr hit ↦ inr (hit.0, hit.1, inl hit.2)
  ]
  | inr hit ↦ inr (hit.0, hit.1, inr hit.2)
]
same_or_altered sound off (refresh mid to done earlier is) = elim (same_or_altered sound off earlier) [
  | inl same ↦ inl (same_after_refresh same is)
  | inr hit ↦ inr (hit.0, hit.1, hit.2)
]
same_or_altered sound off (numbers mid to earlier grown) = elim (same_or_altered sound off earlier) [
  | inl same ↦ inl (same_once_grown same grown)
  | inr hit ↦ inr (hit.0, hit.1, hit.2)
]

-- ---- what is read

-- the same finished maps are read
pub same_read_of : {from to : SessionState} (id : MapId) (r : Resolution) → IsSound from → kept_of from id ≡ Some r → IsSame from to id → read_of to id
    ≡ read_of from id
same_read_of {from} {to} id r sound is same =
    (λ i. among (same.transitive i) (holders_of (finished i)) (finished_of to))
    ∙ among_agrees (transitive_in from.crates id.krate.0) (holders_of (finished_of from id)) (finished_of to) (finished_of from)
    (λ j h. ap (option_map placed_by) (same.kept j (behind j h)))
  where
    finished : finished_of to id ≡ finished_of from id
    finished = ap (option_map placed_by) (same.kept id itself)

    holders_are : holders_of (finished_of from id) ≡ r.holders
    holders_are = ap (λ (o : Option Resolution). holders_of (option_map placed_by o)) is

    own_crate : (o : Option BlockId) → id.block ≡ o → IsBehind from id (crate_map id.krate)
    own_crate None of = let own : id ≡ crate_map id.krate = λ i. record { krate = id.krate; block = of i } in subst (IsBehind from id) own itself
    own_crate (Some b) of = next id (crate_map id.krate) itself (followed_crate from id b of)

    outwards : (i d : MapId) → IsBehind from id i → Contains (follows from i) d → IsBehind from id d
    outwards i d b followed = next i d b followed

    behind : (j : MapId) → is_of_some (transitive_in from.crates id.krate.0) (holders_of (finished_of from id)) j ≡ true → IsBehind from id j
    behind j h = elim (of_some (transitive_in from.crates id.krate.0) (holders_of (finished_of from id)) j h) [
      | inl crate ↦
          let own : j ≡ crate_map j.krate = λ i. record { krate = j.krate; block = crate.0 i } in
          subst (IsBehind from id) (sym own) (crates_stay from sound from.crates from.sources from.kept (IsBehind from id) outwards (λ i b. refl) (λ i b. refl)
          id.krate (own_crate id.block refl) j.krate crate.1)
      | inr held ↦
          let one = found-any (λ (m : ModuleId). map_id.ghosts.eq m.map j) (holders_of (finished_of from id)) held in
          subst (IsBehind from id) (exact_map one.0.map j one.2)
          (holders_hold from sound {P = IsBehind from id} outwards r.holders id r is refl itself one.0
          (subst (λ (ms : List ModuleId). Contains ms one.0) holders_are one.1))
    ]

-- ---- a name that isn't there

-- what a step to a child leads to where it isn't there
lacks_child : (id : MapId) (o : Option ModuleId) (j : MapId) → to_child id o ≡ way.lacks j → id ≡ j
lacks_child id None j e = cc
lacks_child id (Some m) j e = go (map_id.ghosts.eq m.map id) e
  where
    go : (b : Bool) → cond b (way.at m) (way.lacks id) ≡ way.lacks j → id ≡ j
    go true f = absurd (let no : ⊥ = cc in no)
    go false f = cc

module _ (tables : TablesValue) (blocks : Blocks) (kept : Resolutions) (krate : Crate) where
  abbrev on : List PlaceElement → Standing → List PlaceElement → Standing
  on start st steps = down tables blocks kept krate start st steps

  -- no steps lead on from there
  pub lacks_on : (start : List PlaceElement) (id : MapId) (steps : List PlaceElement) → on start (way.lacks id) steps ≡ way.lacks id
  lacks_on start id [] = refl
  lacks_on start id (element.Module name ∷ more) = lacks_on (start ++ element.Module name ∷ []) id more
  lacks_on start id (element.Block b ∷ more) = lacks_on (start ++ element.Block b ∷ []) id more

  -- steps lead to a module, whose map has no child of the next name, and the others lead nowhere
  pub record IsLacking (start : List PlaceElement) (st : Standing) (steps : List PlaceElement) (id : MapId) : Type 0 where
    pub first : List PlaceElement
    pub name : List ℕ
    pub others : List PlaceElement
    pub at_last : ModuleId
    pub split : steps ≡ first ++ element.Module name ∷ others
    pub leads : on start st first ≡ way.at at_last
    pub lacks : to_child at_last.map (child_kept kept at_last name) ≡ way.lacks id

  no_root : {A : Type 0} (o : Option Resolution) (id : MapId) → to_root o ≡ way.lacks id → A
  no_root None id e = absurd (let no : ⊥ = cc in no)
  no_root (Some r) id e = absurd (let no : ⊥ = cc in no)

  last_step : (start : List PlaceElement) (st : Standing) (e : PlaceElement) (more : List PlaceElement) (id : MapId) → step tables blocks kept krate start st e
      ≡ way.lacks id
      → (st ≡ way.lacks id) ⊎ IsLacking start st (e ∷ more) id
  last_step start (way.at m) (element.Module name) more id f =
      inr (record { first = []; name = name; others = more; at_last = m; split = refl; leads = refl; lacks = f })
  last_step start (way.at m) (element.Block b) more id f = go (is_set blocks (block_below krate start b)) f
    where
      go : {A : Type 0} (t : Bool) → cond t (to_root (kept_block tables kept (block_below krate start b))) way.unset ≡ way.lacks id → A
      go true g = no_root (kept_block tables kept (block_below krate start b)) id g
      go false g = absurd (let no : ⊥ = cc in no)
  last_step start (way.lacks j) (element.Module name) more id f = inl f
  last_step start (way.lacks j) (element.Block b) more id f = inl f
  last_step start way.stale (element.Module name) more id f = absurd (let no : ⊥ = cc in no)
  last_step start way.stale (element.Block b) more id f = go (is_set blocks (block_below krate start b)) f
    where
      go : {A : Type 0} (t : Bool) → cond t way.stale way.unset ≡ way.lacks id → A
      go true g = absurd (let no : ⊥ = cc in no)
      go false g = absurd (let no : ⊥ = cc in no)
  last_step start way.unset (element.Module name) more id f = absurd (let no : ⊥ = cc in no)
  last_step start way.unset (element.Block b) more id f = absurd (let no : ⊥ = cc in no)

  pub lacking : (start : List PlaceElement) (st : Standing) (steps : List PlaceElement) (id : MapId) → on start st steps ≡ way.lacks id → (st ≡ way.lacks id)
      ⊎ IsLacking start st steps id
  lacking start st [] id f = inl f
  lacking start st (e ∷ more) id f = elim (lacking (start ++ e ∷ []) (step tables blocks kept krate start st e) more id f) [
    | inl last ↦ last_step start st e more id last
    | inr later ↦ inr (record {
      first = e ∷ later.first;
      name = later.name;
      others = later.others;
      at_last = later.at_last;
      split = ap (λ (xs : List PlaceElement). e ∷ xs) later.split;
      leads = later.leads;
      lacks = later.lacks;
    })
  ]

-- ---- where a place leads

module _ {from to : SessionState} (id : MapId) (sound : IsSound from) (same : IsSame from to id) where
  outwards_behind : (i d : MapId) → IsBehind from id i → Contains (follows from i) d → IsBehind from id d
  outwards_behind i d b among = next i d b among

  -- a block of which something is kept stays set
  stays_set : (b : BlockId) (place : BlockPlace) → block_at from.tables b ≡ Some place → IsBehind from id (block_map place.holder.krate b)
      → is_set from.sources.blocks place ≡ true
      → is_set to.sources.blocks place ≡ true
  stays_set b place means behind was = go (same.sound.placed (block_map place.holder.krate b) (same.off (block_map place.holder.krate b) behind))
    where
      go : IsPlace to (block_map place.holder.krate b) → is_set to.sources.blocks place ≡ true
      go (of_crate alone within) = no_value (sym alone)
      go (of_block c other is_c other_means own within set) =
          let number : b ≡ c = one_value is_c in
          let one : other ≡ place = one_value (sym other_means ∙ ap (block_at to.tables) (sym number) ∙ same.tables.blocks b.0 place means) in
          subst (λ (x : BlockPlace). is_set to.sources.blocks x ≡ true) one set

  -- a place that leads into what is behind leads there still
  pub leads_still : (place : PlaceValue) (m : ModuleId) → standing_of from place ≡ way.at m → IsBehind from id m.map → standing_of to place ≡ way.at m
  leads_still place m leads behind =
      standing_stays from sound (IsBehind from id) outwards_behind to.crates to.tables to.sources to.kept same.tables same.kept stays_set place m leads behind

  -- where a name isn't there in a map behind, it still isn't
  pub lacks_still : (place : PlaceValue) (j : MapId) → standing_of from place ≡ way.lacks j → IsBehind from id j → standing_of to place ≡ way.lacks j
  lacks_still place j lacks behind = go (kept_of from (crate_map place.krate)) refl lacks
    where
      -- the rest of the way
      rest : (first others : List PlaceElement) (name : List ℕ) (m : ModuleId) → place.elements ≡ first ++ element.Module name ∷ others
          → to_child m.map (child_kept from.kept m name) ≡ way.lacks j
          → (o : Option Resolution) → kept_of to (crate_map place.krate) ≡ o
          → from_crate to.tables to.sources.blocks to.kept o (record { krate = place.krate; elements = first }) ≡ way.at m → standing_of to place ≡ way.lacks j
      rest first others name m split lack None is_kept leads = absurd (let no : ⊥ = cc in no)
      rest first others name m split lack (Some r) is_kept leads =
          let own : m.map ≡ j = lacks_child m.map (child_kept from.kept m name) j lack in
          let kept : kept_of to m.map ≡ kept_of from m.map = same.kept m.map (subst (IsBehind from id) (sym own) behind) in
          let child : to_child m.map (child_kept to.kept m name) ≡ way.lacks j =
          ap (λ (o : Option Resolution). to_child m.map (option_and_then (λ (x : Resolution). child_at x.map m.index name) o)) kept ∙ lack in
          let goes = λ (start : List PlaceElement) (st : Standing) (steps : List PlaceElement). down to.tables to.sources.blocks to.kept place.krate start st
          steps in
          ap (λ (o : Option Resolution). from_crate to.tables to.sources.blocks to.kept o place) is_kept
          ∙ ap (goes [] (way.at (root_of r.map.id))) split
          ∙ down-append to.tables to.sources.blocks to.kept place.krate [] (way.at (root_of r.map.id)) first (element.Module name ∷ others)
          ∙ ap (λ (st : Standing). goes first st (element.Module name ∷ others)) leads
          ∙ ap (λ (st : Standing). goes (first ++ element.Module name ∷ []) st others) child
          ∙ lacks_on to.tables to.sources.blocks to.kept place.krate (first ++ element.Module name ∷ []) j others

      go : (o : Option Resolution) → kept_of from (crate_map place.krate) ≡ o → from_crate from.tables from.sources.blocks from.kept o place ≡ way.lacks j
          → standing_of to place ≡ way.lacks j
      go None is_kept f = absurd (let no : ⊥ = cc in no)
      go (Some r) is_kept f = elim (lacking from.tables from.sources.blocks from.kept place.krate [] (way.at (root_of r.map.id)) place.elements j f) [
        | inl never ↦ absurd (let wrong : ⊥ = cc in wrong)
        | inr at ↦
            let own : at.at_last.map ≡ j = lacks_child at.at_last.map (child_kept from.kept at.at_last at.name) j at.lacks in
            let leads : standing_of from (record { krate = place.krate; elements = at.first }) ≡ way.at at.at_last =
            ap (λ (o : Option Resolution). from_crate from.tables from.sources.blocks from.kept o (record { krate = place.krate; elements = at.first })) is_kept
            ∙ at.leads in
            let still = leads_still (record { krate = place.krate; elements = at.first }) at.at_last leads (subst (IsBehind from id) (sym own) behind) in
            rest at.first at.others at.name at.at_last at.split at.lacks (kept_of to (crate_map place.krate)) refl still
      ]

-- ---- answers

-- no answer is given where a name isn't there
unknown_over : (b : Bool) (x y : Result Answer QueryError) → answer_by (if b then status.Unknown else status.Unknown) x
    ≡ answer_by (if b then status.Unknown else status.Unknown) y
unknown_over true x y = refl
unknown_over false x y = refl

-- what is answered where steps lead so, of so many crates
abbrev answer_where : PlaceValue → Path → Shadow → Option MacroStyle → SessionState → ℕ → Standing → Option ModuleId → Result Answer QueryError
answer_where place path shadow style s count st m =
    answer_by (if nat_lt place.krate.0 count then status_by st else status.Unknown) (answer_at s m path shadow style)

module _ {from to : SessionState} (place : PlaceValue) (path : Path) (shadow : Shadow) (style : Option MacroStyle) (sound : IsSound from) where
  -- at a name that isn't there
  pub alike_lacking : (id : MapId) → IsSame from to id → standing_of from place ≡ way.lacks id → answer_of to place path shadow style
      ≡ answer_of from place path shadow style
  alike_lacking id same lacks =
      ap (λ (st : Standing). answer_where place path shadow style to (length to.crates) st (module_of to place))
      (lacks_still id sound same place id lacks itself)
      ∙ ap (λ (n : ℕ). answer_where place path shadow style to n (way.lacks id) (module_of to place)) same.count
      ∙ unknown_over (nat_lt place.krate.0 (length from.crates)) (answer_kept to place path shadow style) (answer_kept from place path shadow style)
      ∙ ap (λ (st : Standing). answer_where place path shadow style from (length from.crates) st (module_of from place)) (sym lacks)

  module _ (runs : RunsBindFromSources) (answers : PathsAnswerFromSources) (leads : PathsLeadToWhatIsThere) where
    -- from a module
    pub alike_at : (m : ModuleId) → IsSame from to m.map → standing_of from place ≡ way.at m → answer_of to place path shadow style
        ≡ answer_of from place path shadow style
    alike_at m same at =
        let there = place_there from sound place m (ap module_by at) in
        let r : Resolution = there.found in
        let kept : kept_of to m.map ≡ Some r = same.kept m.map itself ∙ there.is in
        let all = subst (λ (read : Maps). answer_in to.tables (overlay read r.map) r.local m path shadow style ≡ answer_in from.tables (overlay read r.map)
        r.local m path shadow style)
        (sym (read_kept from m.map r there.is))
        (kept_answer from.tables to.tables same.tables (maps_behind from m.map r) r.local m path shadow style
        (whole runs answers leads from sound m r there.is there.there path shadow style)) in
        let over : answer_at to (Some m) path shadow style ≡ answer_at from (Some m) path shadow style =
        ap (λ (o : Option Resolution). answer_from to.tables (read_of to m.map) o m path shadow style) kept
        ∙ ap (λ (read : Maps). answer_from to.tables read (Some r) m path shadow style) (same_read_of m.map r sound there.is same)
        ∙ ap (λ (a : Answer). Ok a) all
        ∙ ap (λ (o : Option Resolution). answer_from from.tables (read_of from m.map) o m path shadow style) (sym there.is) in
        ap (λ (st : Standing). answer_where place path shadow style to (length to.crates) st (module_by st)) (leads_still m.map sound same place m at itself)
        ∙ ap (λ (n : ℕ). answer_where place path shadow style to n (way.at m) (Some m)) same.count
        ∙ ap (answer_by (if nat_lt place.krate.0 (length from.crates) then status.Current else status.Unknown)) over
        ∙ ap (λ (st : Standing). answer_where place path shadow style from (length from.crates) st (module_by st)) (sym at)

    -- so a query has the same answer
    pub same_answer : (id : MapId) → map_by (standing_of from place) ≡ Some id → IsSame from to id → answer_of to place path shadow style
        ≡ answer_of from place path shadow style
    same_answer id ends same = go (standing_of from place) refl ends
      where
        go : (st : Standing) → standing_of from place ≡ st → map_by st ≡ Some id → answer_of to place path shadow style ≡ answer_of from place path shadow style
        go (way.at m) is e = alike_at m (subst (IsSame from to) (sym (one_value e)) same) is
        go (way.lacks j) is e = alike_lacking j (subst (IsSame from to) (sym (one_value e)) same) is
        go way.stale is e = no_value e
        go way.unset is e = no_value e

-- the map in which the steps of a place end is kept
pub ends_unmarked : (s : SessionState) → IsSound s → (place : PlaceValue) (id : MapId) → map_by (standing_of s place) ≡ Some id → is_marked s id ≡ false
ends_unmarked s sound place id ends = go (standing_of s place) refl ends
  where
    kept_at : (at : PlaceValue) (m : ModuleId) → standing_of s at ≡ way.at m → is_marked s m.map ≡ false
    kept_at at m is = let there = place_there s sound at m (ap module_by is) in unmarked s m.map there.found there.is

    lacking_in : (j : MapId) (o : Option Resolution) → kept_of s (crate_map place.krate) ≡ o → from_crate s.tables s.sources.blocks s.kept o place ≡ way.lacks j
        → is_marked s j ≡ false
    lacking_in j None is_kept f = absurd (let no : ⊥ = cc in no)
    lacking_in j (Some r) is_kept f = elim (lacking s.tables s.sources.blocks s.kept place.krate [] (way.at (root_of r.map.id)) place.elements j f) [
      | inl never ↦ absurd (let wrong : ⊥ = cc in wrong)
      | inr at ↦
          let own : at.at_last.map ≡ j = lacks_child at.at_last.map (child_kept s.kept at.at_last at.name) j at.lacks in
          subst (λ (x : MapId). is_marked s x ≡ false) own
          (kept_at (record { krate = place.krate; elements = at.first }) at.at_last
          (ap (λ (o : Option Resolution). from_crate s.tables s.sources.blocks s.kept o (record { krate = place.krate; elements = at.first })) is_kept ∙
          at.leads))
    ]

    go : (st : Standing) → standing_of s place ≡ st → map_by st ≡ Some id → is_marked s id ≡ false
    go (way.at m) is e = subst (λ (x : MapId). is_marked s x ≡ false) (one_value e) (kept_at place m is)
    go (way.lacks j) is e = subst (λ (x : MapId). is_marked s x ≡ false) (one_value e) (lacking_in j (kept_of s (crate_map place.krate)) refl is)
    go way.stale is e = no_value e
    go way.unset is e = no_value e

pub differ_only : RunsBindFromSources → PathsAnswerFromSources → PathsLeadToWhatIsThere → DifferOnlyWhereAltered
differ_only runs answers leads from to place id path shadow style sound ends h = elim (same_or_altered sound (ends_unmarked from sound place id ends) h) [
  | inl same ↦ inl (same_answer place path shadow style sound runs answers leads id ends same)
  | inr hit ↦ inr hit
]
