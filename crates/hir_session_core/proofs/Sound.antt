-- An edit, and the resolution of a place, leave a sound session.
use Rattle.std.specs.Prelude.{◌≤◌, ◌++◌, is_none, map}
use Rattle.std.proofs.Common.{◌≡◌, ◌≢◌, ◌⊎◌, inl, inr, ℕ, zero, suc, ◌<◌, Bool, true, false, ◌||◌, is_some, List, [], ◌∷◌, length, arith, Option, Some, None}
use Rattle.std.proofs.Common.{option_map, refl, sym, ap, ◌∙◌, subst, Contains}
use Rattle.hir_session_state.specs.HirIds.contracts.ids.MapIdPartialEq.TheImpl as map_id
use Rattle.hir_session_state.specs.HirIds.declared.ast_id.BlockId.{BlockId}
use Rattle.hir_session_state.specs.HirBase.declared.place.BlockPlace.{BlockPlace}
use Rattle.hir_session_state.specs.HirIds.declared.ids.Crate.{Crate}
use Rattle.hir_session_state.specs.HirIds.declared.ast_id.EditionedFileId.{EditionedFileId}
use Rattle.hir_session_state.specs.HirIds.declared.ids.MapId.{MapId}
use Rattle.hir_session_state.specs.HirIds.declared.ids.ModuleId.{ModuleId}
use Rattle.hir_session_state.specs.HirIds.declared.ast_id.SyntaxId.{SyntaxId}
use Rattle.hir_session_state.specs.HirTables.SourcePlaces.{block}
use Rattle.hir_session_state.specs.HirTables.Tables.{TablesValue, block_at, file_at}
use Rattle.hir_session_state.proofs.HirTables.Growth.{KeepsTables-refl}
use Rattle.hir_session_state.specs.HirDefMapRules.Inner.OverlayLaws.{exact_map}
use Rattle.hir_session_state.specs.HirDefMapRules.References.{refers_to}
use Rattle.hir_session_state.specs.HirNameres.Removal.{Depends}
use Rattle.hir_session_state.specs.HirNameres.Removal.Depends.{itself, through}
use Rattle.hir_session_state.specs.HirDefMapRules.State.{crate_map}
use Rattle.hir_session_state.specs.HirDefMapRules.Overlay.{holders_under, no_maps}
use Rattle.hir_session_state.specs.HirCollectorRules.Keys.{AgreeOn, Look, config_key, keys_behind, look, of_config}
use Rattle.hir_session_state.specs.HirCollectorRules.Keys.{of_entry, of_input, of_map, of_text, of_tree}
use Rattle.hir_session_state.specs.HirCollectorRules.Keys.{of_variants, source_under}
use Rattle.hir_session_state.specs.HirCollectorRules.Start.{Beginning, holder_of, root_key}
use Rattle.hir_session_state.specs.HirCollectorRules.Workspace.{ConfigValue, Workspace, dependencies_of as handed_dependencies, earlier, seen_of}
use Rattle.hir_session_state.specs.HirCollectorRules.declared.source_database.Dependency.{Dependency}
use Rattle.hir_session_state.proofs.HirCollectorRules.Asked.{config_behind, seen_config}
use Rattle.hir_session_state.proofs.HirCollectorRules.Asks.{still_asked}
use Rattle.hir_session_state.proofs.HirCollectorRules.Dependencies.{same_transitive}
use Rattle.std.proofs.lemmas.List.Elements.{Contains-append_left, Contains-append_right}
use Rattle.hir_session_state.specs.HirCollectorRules.declared.source_database.Key.{Key}
use Rattle.hir_session_state.specs.HirCrateGraph.CrateSet.{has_crate}
use Rattle.hir_session_state.specs.Crates.{CrateValue, beginning_in, begins_in_block, config_in, crate_in, named_in, transitive_in, id_of}
use Rattle.hir_session_state.specs.SourceEdits.{SourceEditValue, edited as made}
use Rattle.hir_session_state.specs.SourceTable.{SourceTable, workspace_in}
use Rattle.hir_session_state.specs.Kept.{Resolutions, kept_in, names_in, names_of, AreForgotten}
use Rattle.hir_session_state.specs.HirCrateGraph.Dependencies.{DependsOn}
use Rattle.hir_session_state.specs.HirCrateGraph.Dependencies.DependsOn.{directly, through as depends_through}
use Rattle.hir_session_state.specs.SessionState.{SessionState, Resolution, dependencies_of, workspace_of, finished_of, follows, follows_by, held_maps, kept_of}
use Rattle.hir_session_state.specs.SessionState.{is_marked, max_crates, IsResolutionOf, IsCurrent, IsPlace, IsSound}
use Rattle.hir_session_state.specs.SessionState.IsPlace.{of_block, of_crate}
use Rattle.hir_session_state.specs.Spread.{Spread}
use Rattle.hir_session_state.specs.Spread.Spread.{here, depends}
use Rattle.hir_session_state.specs.Standing.{block_map, is_set}
use Rattle.hir_session_state.specs.Marks.{IsTouched}
use Rattle.hir_session_state.specs.Marks.IsTouched.{before, asked_for}
use Rattle.hir_session_state.specs.EditedSources.{AreHit, AreReached}
use Rattle.hir_session_state.specs.Changes.{Becomes, IsHandedIn}
use Rattle.hir_session_state.specs.Due.{Resolved}
use Rattle.hir_session_state.proofs.Depending.{depended, direct_below}
use Rattle.hir_session_state.proofs.Following.{behind_block, dependency_behind, followed, followed_crate, followed_holder, spread_on}
use Rattle.hir_session_state.proofs.Holding.{first_holder, held_block, holder_kept, holders_hold}
use Rattle.hir_session_state.proofs.Ids.{of_number, on_id}
use Rattle.hir_session_state.proofs.Names.{among-names, holds}
use Rattle.hir_session_state.proofs.Standing.{beginning_stays, block_begun, kept_gives}
use Rattle.hir_session_state.proofs.Truth.{clash, on_bool, one_value}
use Rattle.hir_session_state.proofs.Worlds.{AgreeOn-refl, DependsOn-holds, IsKeptBehind, IsResolutionOf-stays, kept_behind}
use Rattle.hir_session_core.specs.Progress.{follows_under, AreFollowedCurrent}
use Rattle.hir_session_core.proofs.Naming.{kept_ended, kept_krate, names-behind}

-- ---- what is kept

-- a place is marked, or something is kept of it
on_kept : {A : Type 0} (o : Option Resolution) → (o ≡ None → A) → ((r : Resolution) → o ≡ Some r → A) → A
on_kept None f g = f refl
on_kept (Some r) f g = g r refl

marked_none : (o : Option Resolution) → is_none o ≡ true → o ≡ None
marked_none None e = refl
marked_none (Some r) e = clash e refl

some_unmarked : (o : Option Resolution) (r : Resolution) → o ≡ Some r → is_none o ≡ false
some_unmarked o r e = ap (λ (p : Option Resolution). is_none p) e

none_marked : (o : Option Resolution) → o ≡ None → is_none o ≡ true
none_marked o e = ap (λ (p : Option Resolution). is_none p) e

unmarked_some : (o : Option Resolution) → is_none o ≡ false → is_some o ≡ true
unmarked_some None e = clash refl e
unmarked_some (Some r) e = refl

module _ (s : SessionState) (sound : IsSound s) where
  -- what is kept of a place names maps of crates on which its own stands, and those in which the modules lie that hold it
  names_stand : (id other : MapId) (r : Resolution) → kept_of s id ≡ Some r → refers_to r.map r.local other ≡ true
      → ((other ≡ id_of other.krate.0) × (has_crate (transitive_in s.crates id.krate.0) other.krate ≡ true)) ⊎ (holds r.holders other ≡ true)
  names_stand id other r is names =
      let p = kept_gives s sound id r is in
      elim (among-names (transitive_in s.crates id.krate.0) r.holders (finished_of s) r.map r.local p.names p.reaches other names) [
        | inl of ↦ inl (of_number other of.0, of.1)
        | inr held ↦ inr held
      ]

  -- and those that it follows
  names_followed : (id d : MapId) (r : Resolution) → kept_of s id ≡ Some r → Contains (follows s id) d → names_in s.kept id d ≡ true
  names_followed id d r is among =
      ap (λ (o : Option Resolution). names_of o d) is
      ∙ names-behind s sound id r is d among

  -- ---- what spreads

  -- what is spread to the map in which one of its holders lies is spread to a place
  spread_held : {P : MapId → Type 0} (hs : List ModuleId) (id : MapId) (r : Resolution) → kept_of s id ≡ Some r → r.holders ≡ hs → (other : MapId)
      → holds hs other ≡ true
      → Spread (follows s) P other → Spread (follows s) P id
  spread_held [] id r is of other held sp = clash held refl
  spread_held {P} (h ∷ rest) id r is of other held sp =
      let p = kept_gives s sound id r is in
      let first = first_holder s id r p h rest of in
      let block_of = held_block s id r p h first.0 in
      let kept = holder_kept s id r p h first.0 in
      depends id h.map (followed_holder s id block_of.0 r h block_of.1 is first.0)
      (on_bool (map_id.ghosts.eq h.map other)
      (λ same. subst (λ (x : MapId). Spread (follows s) P x) (sym (exact_map h.map other same)) sp)
      (λ apart. spread_held {P = P} rest h.map kept.found kept.is (first.1 kept.found kept.is) other (beside (map_id.ghosts.eq h.map other) apart held) sp))
    where
      beside : (b : Bool) → b ≡ false → (b || holds rest other) ≡ true → holds rest other ≡ true
      beside true e f = clash refl e
      beside false e f = f

  -- to what a place stands on as a crate
  spread_crate : {P : MapId → Type 0} (id : MapId) (r : Resolution) → kept_of s id ≡ Some r → (other : Crate) → has_crate (transitive_in s.crates id.krate.0)
      other ≡ true
      → Spread (follows s) P (crate_map other) → Spread (follows s) P id
  spread_crate {P} id r is other behind sp = go id.block refl
    where
      own : Spread (follows s) P (crate_map id.krate)
      own = spread_on s ((depended sound id.krate.0 other).0 behind) sp

      go : (o : Option BlockId) → id.block ≡ o → Spread (follows s) P id
      go None none = subst (λ (x : MapId). Spread (follows s) P x) (sym (of_number id none)) own
      go (Some b) of = depends id (crate_map id.krate) (followed_crate s id b of) own

  -- what depends on a place by what is named depends on it directly or through others
  spread_named : {P : MapId → Type 0} {on id : MapId} → Depends (names_in s.kept) on id → Spread (follows s) P on → Spread (follows s) P id
  spread_named {P} (itself id e) sp = subst (λ (x : MapId). Spread (follows s) P x) (sym e) sp
  spread_named {P} (through id other names d) sp = on_kept (kept_of s id)
      (λ none. clash names (ap (λ (o : Option Resolution). names_of o other) none))
      (λ r is.
      let n : refers_to r.map r.local other ≡ true = sym (ap (λ (o : Option Resolution). names_of o other) is) ∙ names in
      elim (names_stand id other r is n) [
        | inl crate ↦ spread_crate id r is other.krate crate.1 (subst (λ (x : MapId). Spread (follows s) P x) crate.0 (spread_named d sp))
        | inr held ↦ spread_held r.holders id r is refl other held (spread_named d sp)
      ])

-- what is in a spread set is in it for a reason
spread_cases : {A : Type 0} {follows : MapId → List MapId} {P : MapId → Type 0} {id : MapId} → (P id → A)
    → ((d : MapId) → Contains (follows id) d → Spread follows P d → A)
    → Spread follows P id → A
spread_cases f g (here id p) = f p
spread_cases f g (depends id d among sp) = g d among sp

-- one in a list is in the set, or none is
any_of : (P : MapId → Type 0) (ids : List MapId) → ((d : MapId) → Contains ids d → P d ⊎ (¬ P d)) → ((d : MapId) × Contains ids d × P d)
    ⊎ ((d : MapId) → Contains ids d → ¬ P d)
any_of P [] each = inr (λ d among. absurd (let past : among.0 < 0 = among.1 in omega arith))
any_of P (x ∷ xs) each = elim (each x (zero, omega arith, refl)) [
  | inl does ↦ inl (x, (zero, omega arith, refl), does)
  | inr hasnt ↦ elim (any_of P xs (λ d among. each d (later d among))) [
    | inl found ↦ inl (found.0, later found.0 found.1, found.2)
    | inr none ↦ inr (λ d among. first_or d among hasnt none)
  ]
]
  where
    later : (d : MapId) → Contains xs d → Contains (x ∷ xs) d
    later d among = (suc among.0, (let below : among.0 < length xs = among.1 in omega arith), among.2)

    first_or : (d : MapId) → Contains (x ∷ xs) d → (¬ P x) → ((e : MapId) → Contains xs e → ¬ P e) → ¬ P d
    first_or d (zero, within, is) hasnt none = λ p. hasnt (subst P (sym is) p)
    first_or d (suc n, within, is) hasnt none = none d (n, (omega arith), is)

-- ---- an edit

-- what a block's run begins with is asked for
root_asked : (s : SessionState) (sound : IsSound s) (id : MapId) (r : Resolution) (is : kept_of s id ≡ Some r)
    → Contains r.asked (root_key (kept_gives s sound id r is).from.start (kept_gives s sound id r is).from.tree)
root_asked s sound id r is =
    let from = (kept_gives s sound id r is).from in
    let ended = kept_ended s sound id r is in
    subst (λ (ks : List Key). Contains ks (root_key from.start from.tree)) (sym ended.asked_is)
    (Contains-append_left ended.last.core.asked _ (root_key from.start from.tree)
    (still_asked ended.derived (root_key from.start from.tree) (0, omega arith, refl)))

-- whether what is seen is there
abbrev is_there : Look → Bool
is_there (of_tree t) = t.present
is_there (of_variants vs) = false
is_there (of_text text) = false
is_there (of_input text) = false
is_there (of_entry e) = false
is_there (of_map m) = false
is_there (of_config c) = false

-- what the crate of a kept place was handed in with was asked for, and each on which that depends
pub config_asked : (s : SessionState) (sound : IsSound s) (id : MapId) (r : Resolution) (is : kept_of s id ≡ Some r) (c : Crate)
    → Contains (id.krate ∷ transitive_in s.crates id.krate.0) c → Contains r.asked (config_key c)
config_asked s sound id r is c among =
    let ended = kept_ended s sound id r is in
    subst (λ (ks : List Key). Contains ks (config_key c)) (sym (ended.asked_is ∙ ap (λ (k : Crate). ended.last.core.asked
    ++ keys_behind k (transitive_in s.crates k.0)) (kept_krate s sound id r is)))
    (Contains-append_right ended.last.core.asked (keys_behind id.krate (transitive_in s.crates id.krate.0)) (config_key c)
    (config_behind id.krate (transitive_in s.crates id.krate.0) c among))

-- ---- crates that are handed in anew

-- the crates are the same but for what they are handed in with, which names as dependencies such as come before alone
pub record AreRenewed (s : SessionState) (C : List CrateValue) : Type 0 where
  pub count : length C ≡ length s.crates
  pub below : (k : ℕ) (d : Crate) → Contains (named_in C k) d → d.0 < k
  pub begins : (k : ℕ) → config_in C (record { 0 = k }) ≡ config_in s.crates (record { 0 = k }) → beginning_in C k ≡ beginning_in s.crates k
  pub rooted : (k : ℕ) → k < length C → file_at s.tables (crate_in C k).file ≡ Some (crate_in C k).own.root

same_renewed : (s : SessionState) → IsSound s → AreRenewed s s.crates
same_renewed s sound = record { count = refl; below = sound.below; begins = λ k same. refl; rooted = sound.rooted }

-- the tree of a block is there where the block is set
root_seen : (crates : List CrateValue) (tables : TablesValue) (t : SourceTable) (b : BlockId) (place : BlockPlace) (holder : ModuleId) (file : EditionedFileId)
    (id : SyntaxId) (from : Beginning)
    → block_at tables b ≡ Some place → begins_in_block place.holder.krate b holder file id ≡ from
    → is_there (look tables (workspace_in crates t) no_maps (root_key from.start from.tree)) ≡ is_set t.blocks place
root_seen crates tables t b place holder file id from means begins =
    subst (λ (x : Beginning). is_there (look tables (workspace_in crates t) no_maps (root_key x.start x.tree)) ≡ is_set t.blocks place) begins
    (ap (λ (o : Option BlockPlace). is_there (of_tree (seen_of (source_under (workspace_in crates t) place.holder.krate (option_map block o))))) means)

module _ (s : SessionState) (sound : IsSound s) (C : List CrateValue) (F : SourceTable) (hits : List MapId) (K : Resolutions)
    (renewed : AreRenewed s C) (reached : AreReached s (workspace_in C F) hits) (forgotten : AreForgotten s.kept hits K) where
  abbrev edited : Workspace
  edited = workspace_in C F

  abbrev IsReached : MapId → Type 0
  IsReached id = Spread (follows s) (IsTouched s edited) id

  touched_or : (id : MapId) → IsTouched s edited id ⊎ (¬ IsTouched s edited id)
  touched_or id = on_kept (kept_of s id)
      (λ none. inl (before (none_marked (kept_of s id) none)))
      (λ r is. elim (reached.missed id r is) [
        | inl does ↦ inl does.0
        | inr alike ↦ inr (untouched id r is alike)
      ])
    where
      untouched : (id : MapId) (r : Resolution) → kept_of s id ≡ Some r → AgreeOn s.tables r.asked (workspace_of s) no_maps edited no_maps
          → ¬ IsTouched s edited id
      untouched id r is alike (before m) = clash m (some_unmarked (kept_of s id) r is)
      untouched id r is alike (asked_for key q there has ne) =
          let same : q ≡ r = one_value (sym there ∙ is) in
          ne (alike.same key (subst (λ (x : Resolution). Contains x.asked key) same has))

  -- a place is reached or not where so is each that it follows
  reached_by : (id : MapId) → ((d : MapId) → Contains (follows s id) d → IsReached d ⊎ (¬ IsReached d)) → IsReached id ⊎ (¬ IsReached id)
  reached_by id each = elim (touched_or id) [
    | inl does ↦ inl (here id does)
    | inr hasnt ↦ elim (any_of IsReached (follows s id) each) [
      | inl found ↦ inl (depends id found.0 found.1 found.2)
      | inr none ↦ inr (λ sp. spread_cases hasnt (λ d among rest. none d among rest) sp)
    ]
  ]

  -- of crates, by their numbers
  reached_crate : (n : ℕ) (krate : Crate) → krate.0 < n → IsReached (crate_map krate) ⊎ (¬ IsReached (crate_map krate))
  reached_crate zero krate low = absurd (omega arith)
  reached_crate (suc n) krate low = reached_by (crate_map krate) (λ d among.
      let c = dependency_behind s krate d among in
      let lower : c.0.0 < krate.0 = direct_below s krate.0 c.0 c.1 in
      subst (λ (x : MapId). IsReached x ⊎ (¬ IsReached x)) (sym c.2) (reached_crate n c.0 (omega arith)))

  -- of blocks, by the module that holds one
  reached_by_holder : (id : MapId) (r : Resolution) → kept_of s id ≡ Some r → ((h : ModuleId) → r.map.holder ≡ Some h → IsReached h.map ⊎ (¬ IsReached h.map))
      → IsReached id ⊎ (¬ IsReached id)
  reached_by_holder id r is of_holder = go id.block refl
    where
      go : (o : Option BlockId) → id.block ≡ o → IsReached id ⊎ (¬ IsReached id)
      go None none = subst (λ (x : MapId). IsReached x ⊎ (¬ IsReached x)) (sym (of_number id none)) (reached_crate (suc id.krate.0) id.krate (omega arith))
      go (Some b) is_block = reached_by id (λ d among. elim (behind_block s id b is_block d among) [
        | inl own ↦ subst (λ (x : MapId). IsReached x ⊎ (¬ IsReached x)) (sym own) (reached_crate (suc id.krate.0) id.krate (omega arith))
        | inr h ↦ subst (λ (x : MapId). IsReached x ⊎ (¬ IsReached x)) (sym h.at)
            (of_holder h.holder (subst (λ (x : Resolution). x.map.holder ≡ Some h.holder) (one_value (sym h.is ∙ is)) h.held))
      ])

  -- and so of all the modules around it
  reached_held : (hs : List ModuleId) (id : MapId) (r : Resolution) → kept_of s id ≡ Some r → r.holders ≡ hs → IsReached id ⊎ (¬ IsReached id)
  reached_held [] id r is of = reached_by_holder id r is (λ h held.
      let kept = holder_kept s id r (kept_gives s sound id r is) h held in
      absurd (let wrong : [] ≡ h ∷ kept.found.holders = sym of ∙ kept.holders in let no : ⊥ = cc in no))
  reached_held (g ∷ rest) id r is of = reached_by_holder id r is (λ h held.
      let p = kept_gives s sound id r is in
      let first = first_holder s id r p g rest of in
      let same : g ≡ h = one_value (sym first.0 ∙ held) in
      let kept = holder_kept s id r p g first.0 in
      subst (λ (x : ModuleId). IsReached x.map ⊎ (¬ IsReached x.map)) same (reached_held rest g.map kept.found kept.is (first.1 kept.found kept.is)))

  reached_or : (id : MapId) → IsReached id ⊎ (¬ IsReached id)
  reached_or id = on_kept (kept_of s id)
      (λ none. inl (here id (before (none_marked (kept_of s id) none))))
      (λ r is. reached_held r.holders id r is refl)

  -- of what isn't reached what was kept stays
  unreached_stays : (id : MapId) → (¬ IsReached id) → kept_in K id ≡ kept_of s id
  unreached_stays id apart = forgotten.stay id (λ on among d. apart (spread_named s sound d (here on (reached.touched on among))))

  gone_reached : (id : MapId) → kept_in K id ≡ None → IsReached id
  gone_reached id none = elim (reached_or id) [
    | inl does ↦ does
    | inr hasnt ↦ here id (before (none_marked (kept_of s id) (sym (unreached_stays id hasnt) ∙ none)))
  ]

  still_none : (id : MapId) → kept_of s id ≡ None → kept_in K id ≡ None
  still_none id none = elim (forgotten.fewer id) [ inl same ↦ same ∙ none | inr nothing ↦ nothing ]

  -- what depends on a place that is gone is gone
  depends_gone : (id d : MapId) → Contains (follows s id) d → kept_in K d ≡ None → kept_in K id ≡ None
  depends_gone id d among none = on_kept (kept_of s id)
      (λ nothing. still_none id nothing)
      (λ r is. forgotten.named id d (names_followed s sound id d r is among)
      (unmarked_some (kept_of s d) (sound.closed id d (some_unmarked (kept_of s id) r is) among)) none)

  hit_gone : {id : MapId} → Spread (follows s) (Contains hits) id → kept_in K id ≡ None
  hit_gone (here id among) = forgotten.gone id among
  hit_gone (depends id d among sp) = depends_gone id d among (hit_gone sp)

  reached_gone : {id : MapId} → IsReached id → kept_in K id ≡ None
  reached_gone (here id (before m)) = still_none id (marked_none (kept_of s id) m)
  reached_gone (here id (asked_for key r is has ne)) = elim (reached.missed id r is) [
    | inl does ↦ hit_gone does.1
    | inr alike ↦ absurd (ne (alike.same key has))
  ]
  reached_gone (depends id d among sp) = depends_gone id d among (reached_gone sp)

  -- ---- what is kept still

  abbrev IsKeptStill : MapId → Type 0
  IsKeptStill id = is_none (kept_in K id) ≡ false

  -- the same is
  stays : (id : MapId) → IsKeptStill id → kept_in K id ≡ kept_of s id
  stays id off = elim (forgotten.fewer id) [ inl same ↦ same | inr none ↦ clash (none_marked (kept_in K id) none) off ]

  was_unmarked : (id : MapId) → IsKeptStill id → is_marked s id ≡ false
  was_unmarked id off = sym (ap (λ (o : Option Resolution). is_none o) (stays id off)) ∙ off

  closed_still : (id d : MapId) → IsKeptStill id → Contains (follows s id) d → IsKeptStill d
  closed_still id d off among = on_bool (is_none (kept_in K d))
      (λ on. clash (none_marked (kept_in K id) (reached_gone (depends id d among (gone_reached d (marked_none (kept_in K d) on))))) off)
      (λ h. h)

  unhit : (id : MapId) → IsKeptStill id → (r : Resolution) → kept_of s id ≡ Some r → AgreeOn s.tables r.asked (workspace_of s) no_maps edited no_maps
  unhit id off r is = elim (reached.missed id r is) [
    | inl does ↦ clash (none_marked (kept_in K id) (hit_gone does.1)) off
    | inr alike ↦ alike
  ]

  -- its crate, and each on which that depends, is handed in as it was
  config_still : (id : MapId) → IsKeptStill id → (c : Crate) → Contains (id.krate ∷ transitive_in s.crates id.krate.0) c → config_in C c
      ≡ config_in s.crates c
  config_still id off c among = on_kept (kept_of s id)
      (λ none. clash (none_marked (kept_of s id) none) (was_unmarked id off))
      (λ r is. ap (λ (l : Look). seen_config l None) ((unhit id off r is).same (config_key c) (config_asked s sound id r is c among)))

  transitive_still : (id : MapId) → IsKeptStill id → transitive_in C id.krate.0 ≡ transitive_in s.crates id.krate.0
  transitive_still id off = same_transitive (config_in s.crates) (config_in C) id.krate (config_still id off)

  own_still : (id : MapId) → IsKeptStill id → config_in C id.krate ≡ config_in s.crates id.krate
  own_still id off = config_still id off id.krate (0, omega arith, refl)

  -- a block that is kept still is set: its run asked for its tree
  set_still : (b : BlockId) (place : BlockPlace) → block_at s.tables b ≡ Some place → IsKeptStill (block_map place.holder.krate b)
      → is_set s.sources.blocks place ≡ true → is_set F.blocks place ≡ true
  set_still b place means off set = on_kept (kept_of s (block_map place.holder.krate b))
      (λ none. clash (none_marked (kept_of s (block_map place.holder.krate b)) none) (was_unmarked (block_map place.holder.krate b) off))
      (λ r is.
      let p = kept_gives s sound (block_map place.holder.krate b) r is in
      let begun = block_begun s place.holder.krate b p.from p.begun in
      let same = (unhit (block_map place.holder.krate b) off r is).same (root_key p.from.start p.from.tree)
      (root_asked s sound (block_map place.holder.krate b) r is) in
      sym (root_seen C s.tables F b place begun.holder begun.file begun.place.id p.from means begun.is)
      ∙ ap is_there same
      ∙ root_seen s.crates s.tables s.sources b place begun.holder begun.file begun.place.id p.from means begun.is
      ∙ set)

  -- an edit leaves a sound session
  pub applied_sound : IsSound (record s { crates = C; sources = F; kept = K })
  applied_sound = record {
    few = subst (λ (n : ℕ). n ≤ max_crates) (sym renewed.count) sound.few;
    below = renewed.below;
    placed = λ id off. placed_still id off (sound.placed id (was_unmarked id off));
    closed = λ id d off among. closed_still id d off (subst (λ (ds : List MapId). Contains ds d) (follows_still id off id.block) among);
    current = λ id off.
        let now = sound.current id (was_unmarked id off) in
        record {
          found = now.found;
          is = stays id off ∙ now.is;
          gives = IsResolutionOf-stays s C F K id now.found now.gives
              (kept_behind s sound C F K IsKeptStill closed_still stays transitive_still id now.found now.is off)
              (beginning_stays s sound IsKeptStill closed_still C s.tables F K (KeepsTables-refl _) stays set_still id
              (λ none. renewed.begins id.krate.0 (own_still id off)) now.gives.from now.gives.begun
              (holder_still id now.found now.is now.gives off))
              (unhit id off now.found now.is);
        };
    rooted = renewed.rooted;
    calls = sound.calls;
  }
    where
      within_still : (k : ℕ) → k < length s.crates → k < length C
      within_still k within = subst (λ (n : ℕ). k < n) (sym renewed.count) within

      placed_still : (id : MapId) → IsKeptStill id → IsPlace s id → IsPlace (record s { crates = C; sources = F; kept = K }) id
      placed_still id off (of_crate none within) = of_crate none (within_still id.krate.0 within)
      placed_still id off (of_block b place is means own within set) =
          let is_id : id ≡ block_map place.holder.krate b = λ i. record { krate = sym own i; block = is i } in
          of_block b place is means own (within_still id.krate.0 within) (set_still b place means (subst IsKeptStill is_id off) set)

      follows_still : (id : MapId) → IsKeptStill id → (o : Option BlockId) → follows_by (record s { crates = C; sources = F; kept = K }) id o
          ≡ follows_by s id o
      follows_still id off None =
          ap (λ (o : Option ConfigValue). map crate_map (earlier id.krate.0 (map (λ (d : Dependency). d.krate) (handed_dependencies o)))) (own_still id off)
      follows_still id off (Some b) = ap (λ (o : Option Resolution). crate_map id.krate ∷ held_maps o) (stays id off)

      holder_still : (id : MapId) (r : Resolution) → kept_of s id ≡ Some r → (p : IsResolutionOf s id r) → IsKeptStill id → (h : ModuleId)
          → holder_of p.from.start ≡ Some h → IsKeptStill h.map
      holder_still id r is p off h held =
          let in_map : r.map.holder ≡ Some h = p.holder ∙ held in
          let of = held_block s id r p h in_map in
          closed_still id h.map off (followed_holder s id of.0 r h of.1 is in_map)

  -- and has its effect
  pub becomes : IsHandedIn s (record { crates = C; sources = F }) (record s { crates = C; sources = F; kept = K })
  becomes = record {
    crates = refl;
    tables = refl;
    sources_are = refl;
    only = λ id on. gone_reached id (marked_none (kept_in K id) on);
    all = λ id sp. none_marked (kept_in K id) (reached_gone sp);
    kept = stays;
    sound = applied_sound;
  }

module _ (s : SessionState) (edit : SourceEditValue) (hits : List MapId) (K : Resolutions) where
  -- the session after an edit
  abbrev after : SessionState
  after = record s { sources = made s.sources edit; kept = K }

  -- the places that are hit are touched, and no others are but for those that depend on them
  hit_reached : AreHit s.tables (workspace_of s) (workspace_in s.crates (made s.sources edit)) s.kept hits
      → AreReached s (workspace_in s.crates (made s.sources edit)) hits
  hit_reached hit = record {
    touched = touched;
    missed = λ id r is. elim (hit.missed id r is) [
      | inl does ↦ inl (touched id does, here id does)
      | inr alike ↦ inr alike
    ];
  }
    where
      touched : (id : MapId) → Contains hits id → IsTouched s (workspace_in s.crates (made s.sources edit)) id
      touched id among = let asked = hit.asked id among in asked_for asked.altered.key asked.found asked.is asked.altered.asked asked.altered.altered

  -- it is sound
  pub edited_sound : IsSound s → AreHit s.tables (workspace_of s) (workspace_in s.crates (made s.sources edit)) s.kept hits
      → AreForgotten s.kept hits K → IsSound after
  edited_sound sound hit forgotten =
      applied_sound s sound s.crates (made s.sources edit) hits K (same_renewed s sound) (hit_reached hit) forgotten

  -- and the edit has its effect
  pub edited_becomes : (view : SessionState) → s ≡ view → IsSound s → AreHit s.tables (workspace_of s) (workspace_in s.crates (made s.sources edit)) s.kept hits
      → AreForgotten s.kept hits K → Becomes view (made view.sources edit) after
  edited_becomes view seen sound hit forgotten =
      subst (λ (v : SessionState). Becomes v (made v.sources edit) after) seen
      (becomes s sound s.crates (made s.sources edit) hits K (same_renewed s sound) (hit_reached hit) forgotten)

-- ---- a resolution

-- nothing is kept of the place of a resolution where that is marked
pub free_own : (s : SessionState) (id : MapId) (r : Resolution) → r.map.id ≡ id → is_marked s id ≡ true → kept_of s r.map.id ≡ None
free_own s id r own on = ap (kept_of s) own ∙ marked_none (kept_of s id) on

-- the place is resolved once its resolution is kept
pub resolved_of : (s : SessionState) (K : Resolutions) (id : MapId) (r : Resolution) → r.map.id ≡ id → kept_in K r.map.id ≡ Some r
    → ((j : MapId) → j ≢ r.map.id → kept_in K j ≡ kept_of s j) → Resolved s id r (record s { kept = K })
resolved_of s K id r own kept_here others = record {
  crates = refl;
  tables = KeepsTables-refl _;
  sources = refl;
  here = ap (kept_in K) (sym own) ∙ kept_here;
  others = λ j ne. others j (λ e. ne (e ∙ own));
}

module _ (s : SessionState) (id : MapId) (r : Resolution) (K : Resolutions) (sound : IsSound s) (place : IsPlace s id) (on : is_marked s id ≡ true)
    (found : IsResolutionOf s id r)
    (behind : AreFollowedCurrent s id r.map.holder) (kept_here : kept_in K id ≡ Some r) (kept_else : (j : MapId) → j ≢ id → kept_in K j ≡ kept_of s j) where
  -- what was unmarked still is, and is as it was
  abbrev WasUnmarked : MapId → Type 0
  WasUnmarked j = is_marked s j ≡ false

  outwards : (j d : MapId) → WasUnmarked j → Contains (follows s j) d → WasUnmarked d
  outwards j d off among = sound.closed j d off among

  as_it_was : (j : MapId) → WasUnmarked j → kept_in K j ≡ kept_of s j
  as_it_was j off = kept_else j (λ e. clash on (ap (is_marked s) (sym e) ∙ off))

  still_unmarked : (j : MapId) → WasUnmarked j → is_none (kept_in K j) ≡ false
  still_unmarked j off = ap (λ (o : Option Resolution). is_none o) (as_it_was j off) ∙ off

  was : (j : MapId) → j ≢ id → is_none (kept_in K j) ≡ false → WasUnmarked j
  was j ne off = sym (ap (λ (o : Option Resolution). is_none o) (kept_else j ne)) ∙ off

  abbrev kept_now : SessionState
  kept_now = record s { kept = K }

  stays_resolved : (j : MapId) (x : Resolution) (p : IsResolutionOf s j x) → IsKeptBehind s s.crates s.sources K j x
      → ((h : ModuleId) → holder_of p.from.start ≡ Some h → WasUnmarked h.map)
      → IsResolutionOf kept_now j x
  stays_resolved j x p kept held = IsResolutionOf-stays s s.crates s.sources K j x p kept
      (beginning_stays s sound WasUnmarked outwards s.crates s.tables s.sources K (KeepsTables-refl _) as_it_was (λ b at means off set. set) j (λ none. refl)
      p.from p.begun held)
      AgreeOn-refl

  -- what it follows is current
  follows_now : (d : MapId) → Contains (follows kept_now id) d → WasUnmarked d
  follows_now d among = go id.block refl
    where
      go : (o : Option BlockId) → id.block ≡ o → WasUnmarked d
      go None none =
          behind d (subst (λ (o : Option BlockId). Contains (follows_under s id o r.map.holder) d) (sym none)
          (subst (λ (o : Option BlockId). Contains (follows_by kept_now id o) d) none among))
      go (Some b) of =
          behind d (subst (λ (o : Option BlockId). Contains (follows_under s id o r.map.holder) d) (sym of)
          (subst (λ (o : Option Resolution). Contains (crate_map id.krate ∷ held_maps o) d) kept_here
          (subst (λ (o : Option BlockId). Contains (follows_by kept_now id o) d) of among)))

  holder_now : (h : ModuleId) → r.map.holder ≡ Some h → WasUnmarked h.map
  holder_now h held =
      let of = held_block s id r found h held in
      follows_now h.map (followed_holder kept_now id of.0 r h of.1 kept_here held)

  own_now : (b : BlockId) → id.block ≡ Some b → WasUnmarked (crate_map id.krate)
  own_now b of = follows_now (crate_map id.krate) (followed_crate kept_now id b of)

  -- what the crate of the place stands on is current
  crates_now : (c : Crate) → has_crate (transitive_in s.crates id.krate.0) c ≡ true → WasUnmarked (crate_map c)
  crates_now c among = go id.block refl
    where
      all_behind : ((d : Crate) → Contains (dependencies_of s id.krate.0) d → WasUnmarked (crate_map d)) → WasUnmarked (crate_map c)
      all_behind direct = first ((depended sound id.krate.0 c).0 among)
        where
          first : DependsOn (dependencies_of s) id.krate.0 c.0 → WasUnmarked (crate_map c)
          first (directly k d h) = direct d h
          first (depends_through k i d h rest) =
              DependsOn-holds {P = λ (j : ℕ). WasUnmarked (id_of j)}
              (λ j e off member. outwards (id_of j) (crate_map e) off (followed s (record { 0 = j }) e member)) rest (direct d h)

      go : (o : Option BlockId) → id.block ≡ o → WasUnmarked (crate_map c)
      go None none = all_behind (λ d h. follows_now (crate_map d)
          (subst (λ (x : MapId). Contains (follows kept_now x) (crate_map d)) (sym (of_number id none)) (followed kept_now id.krate d h)))
      go (Some b) of = all_behind (λ d h. outwards (crate_map id.krate) (crate_map d) (own_now b of) (followed s id.krate d h))

  behind_now : IsKeptBehind s s.crates s.sources K id r
  behind_now = record {
    transitive = refl;
    crates = λ c among. as_it_was (crate_map c) (crates_now c among);
    own = λ b of. as_it_was (crate_map id.krate) (own_now b of);
    holders = λ h among. as_it_was h.map (each h among);
  }
    where
      each : (h : ModuleId) → Contains r.holders h → WasUnmarked h.map
      each h among = go r.map.holder refl
        where
          go : (o : Option ModuleId) → r.map.holder ≡ o → WasUnmarked h.map
          go None alone =
              let none : Contains [] h = subst (λ (hs : List ModuleId). Contains hs h) (found.holders ∙ ap (holders_under (finished_of s) r.map.id) alone) among
              in
              absurd (let past : none.0 < 0 = none.1 in omega arith)
          go (Some g) held =
              let first = holder_kept s id r found g held in
              one_of g (holder_now g held) first.found first.is (subst (λ (hs : List ModuleId). Contains hs h) first.holders among)
            where
              one_of : (g : ModuleId) → WasUnmarked g.map → (f : Resolution) → kept_of s g.map ≡ Some f → Contains (g ∷ f.holders) h → WasUnmarked h.map
              one_of g off f is (zero, within, eq) = subst (λ (m : ModuleId). WasUnmarked m.map) eq off
              one_of g off f is (suc n, within, eq) = holders_hold s sound {P = WasUnmarked} outwards f.holders g.map f is refl off h (n, omega arith, eq)

  -- a marked place was resolved on which all that it depends is current: the session stays sound
  pub resolved_sound : IsSound kept_now
  resolved_sound = record {
    few = sound.few;
    below = sound.below;
    placed = λ j off. on_id j id
        (λ e. subst (λ (x : MapId). IsPlace kept_now x) (sym e) (same_place id place))
        (λ ne. same_place j (sound.placed j (was j ne off)));
    closed = λ j d off among. still_unmarked d (on_id j id
        (λ e. follows_now d (subst (λ (x : MapId). Contains (follows kept_now x) d) e among))
        (λ ne. sound.closed j d (was j ne off) (subst (λ (ds : List MapId). Contains ds d) (follows_as_before j ne j.block) among)));
    current = λ j off. on_id j id
        (λ e. subst (λ (x : MapId). IsCurrent kept_now x) (sym e) (record {
          found = r;
          is = kept_here;
          gives = stays_resolved id r found behind_now (λ h held. holder_now h (found.holder ∙ held));
        }))
        (λ ne.
        let unmarked_before : WasUnmarked j = was j ne off in
        let now = sound.current j unmarked_before in
        record {
          found = now.found;
          is = kept_else j ne ∙ now.is;
          gives = stays_resolved j now.found now.gives
              (kept_behind s sound s.crates s.sources K WasUnmarked outwards as_it_was (λ i off. refl) j now.found now.is unmarked_before)
              (λ h held.
              let in_map : now.found.map.holder ≡ Some h = now.gives.holder ∙ held in
              let of = held_block s j now.found now.gives h in_map in
              outwards j h.map unmarked_before (followed_holder s j of.0 now.found h of.1 now.is in_map));
        });
    rooted = sound.rooted;
    calls = sound.calls;
  }
    where
      same_place : (j : MapId) → IsPlace s j → IsPlace kept_now j
      same_place j (of_crate none within) = of_crate none within
      same_place j (of_block b at is means own within set) = of_block b at is means own within set

      follows_as_before : (j : MapId) → j ≢ id → (o : Option BlockId) → follows_by kept_now j o ≡ follows_by s j o
      follows_as_before j ne None = refl
      follows_as_before j ne (Some b) = ap (λ (o : Option Resolution). crate_map j.krate ∷ held_maps o) (kept_else j ne)

-- where no crate before it is marked, what a crate depends on is current
pub followed_crates : (s : SessionState) → IsSound s → (k : ℕ) → ((j : ℕ) → j < k → is_marked s (id_of j) ≡ false) → (holder : Option ModuleId)
    → AreFollowedCurrent s (id_of k) holder
followed_crates s sound k first holder d among =
    let c = dependency_behind s (record { 0 = k }) d among in
    let lower : c.0.0 < k = direct_below s k c.0 c.1 in
    ap (is_marked s) c.2 ∙ first c.0.0 lower
