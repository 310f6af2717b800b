-- The finished maps that a place reads stay while what is kept of the crates and holders on which it stands does.
use Rattle.std.proofs.Common.{◌≡◌, ◌≢◌, ◌⊎◌, inl, inr, ℕ, zero, suc, ◌<◌, List, [], ◌∷◌, ◌++◌, length, true, ◌&&◌, cond, is_some, arith, Option, Some, None}
use Rattle.std.proofs.Common.{option_map, refl, sym, ap, ◌∙◌, subst, Contains, eq-eqb}
use Rattle.hir_collector_rules.specs.HirIds.contracts.ids.MapIdPartialEq.TheImpl as map_id
use Rattle.hir_collector_rules.specs.HirIds.declared.ast_id.BlockId.{BlockId}
use Rattle.hir_collector_rules.specs.HirIds.declared.ids.Crate.{Crate}
use Rattle.hir_collector_rules.specs.HirIds.declared.macro_kind.MacroId.{MacroId}
use Rattle.hir_collector_rules.specs.HirIds.declared.ids.MapId.{MapId}
use Rattle.hir_collector_rules.specs.HirIds.declared.ids.ModuleId.{ModuleId}
use Rattle.hir_collector_rules.specs.HirIds.declared.macro_kind.MacroId.TheVariants as macros
use Rattle.hir_collector_rules.specs.HirPerNs.ModuleTree.{same_crate}
use Rattle.hir_collector_rules.specs.HirTables.Tables.{TablesValue}
use Rattle.hir_collector_rules.specs.HirNameres.WorldParts.{among}
use Rattle.hir_collector_rules.specs.HirNameres.Inner.PartLaws.{among_agrees}
use Rattle.hir_collector_rules.specs.HirDefMapRules.Inner.OverlayLaws.{exact_map}
use Rattle.hir_collector_rules.specs.HirDefMapRules.WellFormed.{HasNoDanglingExtern, HasNoDanglingReference}
use Rattle.hir_collector_rules.specs.HirDefMapRules.Overlay.{Maps, Placed, holders_of, holders_under, overlay, no_maps}
use Rattle.hir_collector_rules.specs.HirDefMapRules.State.{crate_map}
use Rattle.hir_collector_rules.specs.Causes.{HasCause}
use Rattle.hir_collector_rules.specs.Causes.HasCause.{root_tree, of_holder, declared_enum, candidate, of_call, of_eager, dependency, handed_in}
use Rattle.hir_collector_rules.specs.Calls.{EagerLook, Expanding, Grown, InnerMacro, eager_readings, entry_readings, expansion_readings, grown_readings}
use Rattle.hir_collector_rules.specs.Calls.{inner_readings, text_readings}
use Rattle.hir_collector_rules.specs.Derivation.{Ends}
use Rattle.hir_collector_rules.specs.Keys.{AgreeOn, look, map_key, of_map}
use Rattle.hir_collector_rules.specs.ModuleFiles.{Reading}
use Rattle.hir_collector_rules.specs.Start.{Beginning, held_keys, holder_keys, holders_by, krate_of}
use Rattle.hir_collector_rules.specs.State.{State}
use Rattle.hir_collector_rules.specs.Steps.{keys_read}
use Rattle.hir_collector_rules.specs.Workspace.{Workspace, transitive_dependencies_in}
use Rattle.hir_collector_rules.specs.declared.source_database.Key.{Key}
use Rattle.hir_collector_rules.specs.declared.macro_directive.MacroDirective.{MacroDirective}
use Rattle.hir_collector_rules.specs.declared.source_database.Key.TheVariants as keys
use Rattle.hir_collector_rules.specs.HirCrateGraph.CrateSet.{has_crate}
use Rattle.hir_session_state.specs.Crates.{CrateValue, begins_in_block, id_of, transitive_in}
use Rattle.hir_session_state.specs.SourceTable.{SourceTable}
use Rattle.hir_session_state.specs.Kept.{Resolutions, collected_of, finished_by, kept_in, placed_by}
use Rattle.hir_session_state.specs.SessionState.{SessionState, Resolution, workspace_of, beginning_by, beginning_of, finished_of, follows, read_under, kept_of}
use Rattle.hir_session_state.specs.SessionState.{IsResolutionOf, IsSound}
use Rattle.hir_collector_rules.specs.HirCrateGraph.Dependencies.{DependsOn}
use Rattle.hir_collector_rules.specs.HirCrateGraph.Dependencies.DependsOn.{directly, through}
use Rattle.hir_collector_rules.proofs.Asked.{held_is_map}
use Rattle.hir_session_state.proofs.Depending.{any-found, depended, found-any}
use Rattle.hir_session_state.proofs.Following.{followed, followed_crate, followed_holder}
use Rattle.hir_session_state.proofs.Holding.{block_held, held_block, holder_kept, holders_hold, start_holders}
use Rattle.hir_session_state.proofs.Names.{holds, of_some}
use Rattle.hir_session_state.proofs.Standing.{kept_gives}
use Rattle.hir_session_state.proofs.Truth.{one_value}

-- ---- the crates on which a crate stands

-- a crate that stands on a crate stands on all on which that does
pub DependsOn-trans : {dependencies : ℕ → List Crate} {k j i : ℕ} → DependsOn dependencies k j → DependsOn dependencies j i → DependsOn dependencies k i
DependsOn-trans {i = i} (directly k d among) rest = through k i d among rest
DependsOn-trans {i = i} (through k j d among first) rest = through k i d among (DependsOn-trans first rest)

-- a crate stands on crates that come before it
pub DependsOn-below : {dependencies : ℕ → List Crate} {k j : ℕ} → ((k : ℕ) (d : Crate) → Contains (dependencies k) d → d.0 < k) → DependsOn dependencies k j
    → j < k
DependsOn-below below (directly k d among) = below k d among
DependsOn-below below (through k j d among rest) =
    let next : d.0 < k = below k d among in
    let last : j < d.0 = DependsOn-below below rest in
    omega arith

-- what holds of a crate and, with a crate, of those on which it depends, holds of all on which it stands
pub DependsOn-holds : {dependencies : ℕ → List Crate} {P : ℕ → Type 0} {k j : ℕ} → ((k : ℕ) (d : Crate) → P k → Contains (dependencies k) d → P d.0)
    → DependsOn dependencies k j → P k → P j
DependsOn-holds closed (directly k d among) p = closed k d p among
DependsOn-holds closed (through k j d among rest) p = DependsOn-holds closed rest (closed k d p among)

-- a crate that is listed is found
pub has_listed : (crates : List Crate) (c : Crate) → Contains crates c → has_crate crates c ≡ true
has_listed crates c among = any-found _ crates c among (eq-eqb c.0 c.0 refl)

-- ---- keys

pub AgreeOn-trans : {tables : TablesValue} {keys : List Key} {u v w : Workspace} {f g h : Maps} → AgreeOn tables keys u f v g → AgreeOn tables keys v g w h
    → AgreeOn tables keys u f w h
AgreeOn-trans a b = record {
  crates = b.crates ∙ a.crates;
  same = λ key c. b.same key c ∙ a.same key c;
}

pub AgreeOn-refl : {tables : TablesValue} {keys : List Key} {w : Workspace} {f : Maps} → AgreeOn tables keys w f w f
AgreeOn-refl = record { crates = refl; same = λ key c. refl }

-- a key of sources or of expansions
abbrev IsOfSources : Key → Type 0
IsOfSources (keys.Tree key) = Unit {0}
IsOfSources (keys.Variants id) = Unit {0}
IsOfSources (keys.Text id) = Unit {0}
IsOfSources (keys.Input krate ast) = Unit {0}
IsOfSources (keys.Expansion id) = Unit {0}
IsOfSources (keys.Map id) = ⊥
IsOfSources (keys.Config krate) = ⊥

abbrev AreOfSources : List Reading → Type 0
AreOfSources [] = Unit {0}
AreOfSources (r ∷ rs) = IsOfSources r.key × AreOfSources rs

in_both : (xs ys : List Reading) → AreOfSources xs → AreOfSources ys → AreOfSources (xs ++ ys)
in_both [] ys f g = g
in_both (x ∷ xs) ys f g = (f.0, in_both xs ys f.1 g)

of_each : (rs : List Reading) → AreOfSources rs → (key : Key) → Contains (keys_read rs) key → IsOfSources key
of_each [] f key h = absurd (let past : h.0 < 0 = h.1 in omega arith)
of_each (r ∷ rs) f key (zero, within, is) = subst IsOfSources is f.0
of_each (r ∷ rs) f key (suc n, within, is) = of_each rs f.1 key (n, (let past : suc n < suc (length (keys_read rs)) = within in omega arith), is)

of_text : (makro : MacroId) (text : Option (List ℕ)) → AreOfSources (text_readings makro text)
of_text (macros.Macro2Id id) text = (tt, tt)
of_text (macros.MacroRulesId id) text = (tt, tt)
of_text (macros.ProcMacroId id) text = tt

of_inner : (inner : List InnerMacro) → AreOfSources (inner_readings inner)
of_inner [] = tt
of_inner (i ∷ is) = in_both (text_readings i.makro i.text) (inner_readings is) (of_text i.makro i.text) (of_inner is)

of_grown : (grown : Option Grown) → AreOfSources (grown_readings grown)
of_grown None = tt
of_grown (Some g) = (tt, of_inner g.macros)

-- a call asks for such keys alone
of_call_alone : (own : Crate) (d : MacroDirective) (makro : MacroId) (x : Expanding) (key : Key)
    → Contains (keys_read (text_readings makro x.text ++ expansion_readings own d x)) key → IsOfSources key
of_call_alone own d makro x key among =
    of_each (text_readings makro x.text ++ expansion_readings own d x)
    (in_both (text_readings makro x.text) (expansion_readings own d x) (of_text makro x.text)
    (tt, in_both (grown_readings x.grown) (entry_readings own x) (of_grown x.grown) (tt, (tt, tt)))) key among

-- so does one that waits for a path that its macro asks for
of_eager_alone : (own : Crate) (d : MacroDirective) (makro : MacroId) (x : EagerLook) (key : Key) → Contains (keys_read (eager_readings own d makro x)) key
    → IsOfSources key
of_eager_alone own d makro x key among =
    of_each (eager_readings own d makro x) (in_both (text_readings makro x.text) _ (of_text makro x.text) (tt, (tt, tt))) key among

-- a map is asked for because the run's crate depends on its crate, or because it is that of what holds the run's block
of_map_key : {tables : TablesValue} {w : Workspace} {finished : Maps} {from : Beginning} {last : State} {id : MapId} → HasCause tables w finished from last
    (keys.Map id)
    → ((c : Crate) × Contains (transitive_dependencies_in w (krate_of from.start)) c × (keys.Map id ≡ map_key c))
    ⊎ Contains (held_keys from.start (holders_by finished from.start)) (keys.Map id)
of_map_key (root_tree is) = absurd (let wrong : ⊥ = cc in wrong)
of_map_key (of_holder among) = inr among
of_map_key (declared_enum home n listed is) = absurd (let wrong : ⊥ = cc in wrong)
of_map_key (candidate at passed of) = let is = of.is in absurd (let wrong : ⊥ = cc in wrong)
of_map_key {id = id} (of_call at passed of) =
    absurd (of_call_alone at.core.map.id.krate of.call of.makro of.seen (keys.Map id) of.among)
of_map_key {id = id} (of_eager at passed of) =
    absurd (of_eager_alone at.core.map.id.krate of.call of.makro of.seen (keys.Map id) of.among)
of_map_key (dependency c among is) = inl (c, among, is)
of_map_key (handed_in c among is) = absurd (let wrong : ⊥ = cc in wrong)

one_crate : {c d : Crate} → keys.Config c ≡ keys.Config d → c ≡ d
one_crate e = cc

-- what a crate was handed in with is asked for of the run's crate, and of those on which it depends
pub of_config_key : {tables : TablesValue} {w : Workspace} {finished : Maps} {from : Beginning} {last : State} {c : Crate}
    → HasCause tables w finished from last (keys.Config c) → Contains (krate_of from.start ∷ transitive_dependencies_in w (krate_of from.start)) c
of_config_key (root_tree is) = absurd (let wrong : ⊥ = cc in wrong)
of_config_key {finished = finished} {from = from} {c = c} (of_holder among) =
    let map = held_is_map from.start (holders_by finished from.start) (keys.Config c) among in absurd (let is = map.1 in let wrong : ⊥ = cc in wrong)
of_config_key (declared_enum home n listed is) = absurd (let wrong : ⊥ = cc in wrong)
of_config_key (candidate at passed of) = let is = of.is in absurd (let wrong : ⊥ = cc in wrong)
of_config_key {c = c} (of_call at passed of) =
    absurd (of_call_alone at.core.map.id.krate of.call of.makro of.seen (keys.Config c) of.among)
of_config_key {c = c} (of_eager at passed of) =
    absurd (of_eager_alone at.core.map.id.krate of.call of.makro of.seen (keys.Config c) of.among)
of_config_key (dependency d among is) = absurd (let wrong : ⊥ = cc in wrong)
of_config_key {w = w} {from = from} (handed_in d listed is) =
    subst (λ (z : Crate). Contains (krate_of from.start ∷ transitive_dependencies_in w (krate_of from.start)) z) (sym (one_crate is)) listed

same_map : {i j : MapId} → keys.Map i ≡ keys.Map j → i ≡ j
same_map e = cc

-- a holder's key is among those of the holders
of_holder_keys : (hs : List ModuleId) (j : MapId) → Contains (holder_keys hs) (keys.Map j) → (h : ModuleId) × Contains hs h × (h.map ≡ j)
of_holder_keys [] j h = absurd (let past : h.0 < 0 = h.1 in omega arith)
of_holder_keys (x ∷ xs) j (zero, within, is) = (x, (zero, omega arith, refl), same_map is)
of_holder_keys (x ∷ xs) j (suc n, within, is) =
    let rest = of_holder_keys xs j (n, omega arith, is) in
    (rest.0, (suc rest.1.0, (let below : rest.1.0 < length xs = rest.1.1 in omega arith), rest.1.2), rest.2)

-- a holder that lies in a map is listed
of_holds : (hs : List ModuleId) (j : MapId) → holds hs j ≡ true → (h : ModuleId) × Contains hs h × (h.map ≡ j)
of_holds hs j held =
    let found = found-any (λ (h : ModuleId). map_id.ghosts.eq h.map j) hs held in
    (found.0, found.1, exact_map found.0.map j found.2)

-- ---- a session that changes

module _ (s : SessionState) (C : List CrateValue) (F : SourceTable) (K : Resolutions) where
  -- the session with other crates, other sources and other resolutions
  abbrev pub changed : SessionState
  changed = record s { crates = C; sources = F; kept = K }

  -- a place stands on the crates on which it stood, and what is kept of these and of its holders is as it was
  pub record IsKeptBehind (id : MapId) (r : Resolution) : Type 0 where
    pub transitive : transitive_in C id.krate.0 ≡ transitive_in s.crates id.krate.0
    pub crates : (c : Crate) → has_crate (transitive_in s.crates id.krate.0) c ≡ true → kept_in K (crate_map c) ≡ kept_of s (crate_map c)
    pub own : (b : BlockId) → id.block ≡ Some b → kept_in K (crate_map id.krate) ≡ kept_of s (crate_map id.krate)
    pub holders : (h : ModuleId) → Contains r.holders h → kept_in K h.map ≡ kept_of s h.map

  -- so is a map that is finished
  finished_stays : (j : MapId) → kept_in K j ≡ kept_of s j → finished_by K j ≡ finished_of s j
  finished_stays j same = ap (option_map placed_by) same

  pub read_stays : (id : MapId) (r : Resolution) → IsKeptBehind id r → read_under changed id r.holders ≡ read_under s id r.holders
  read_stays id r kept = ap (λ (crates : List Crate). among crates r.holders (finished_by K)) kept.transitive
      ∙ among_agrees (transitive_in s.crates id.krate.0) r.holders (finished_by K) (finished_of s)
      (λ j h. elim (of_some (transitive_in s.crates id.krate.0) r.holders j h) [
        | inl crate ↦
            let same : j ≡ crate_map j.krate = λ i. record { krate = j.krate; block = crate.0 i } in
            subst (λ (x : MapId). finished_by K x ≡ finished_of s x) (sym same) (finished_stays (crate_map j.krate) (kept.crates j.krate crate.1))
        | inr held ↦
            let one = of_holds r.holders j held in
            subst (λ (x : MapId). finished_by K x ≡ finished_of s x) one.2 (finished_stays one.0.map (kept.holders one.0 one.1))
      ])

  holders_stay : (id : MapId) (r : Resolution) → IsResolutionOf s id r → IsKeptBehind id r → r.holders ≡ holders_under (finished_of changed) r.map.id
      r.map.holder
  holders_stay id r p kept = p.holders ∙ sym (go r.map.holder refl)
    where
      go : (o : Option ModuleId) → r.map.holder ≡ o → holders_under (finished_of changed) r.map.id o ≡ holders_under (finished_of s) r.map.id o
      go None held = refl
      go (Some h) held =
          let first = holder_kept s id r p h held in
          let among : Contains r.holders h = subst (λ (hs : List ModuleId). Contains hs h) (sym first.holders) (zero, omega arith, refl) in
          ap (λ (o : Option Placed). cond (same_crate h.map.krate r.map.id.krate && is_some o) (h ∷ holders_of o) [])
          (finished_stays h.map (kept.holders h among))

  -- what is seen at the key of such a map
  map_stays : (j : MapId) → kept_in K j ≡ kept_of s j → look s.tables (workspace_of changed) (finished_of changed) (keys.Map j) ≡ look s.tables (workspace_of s)
      (finished_of s) (keys.Map j)
  map_stays j same = ap (λ (o : Option Placed). of_map o) (finished_stays j same)

  -- a key of what holds a run
  held_stays : (id : MapId) (r : Resolution) (p : IsResolutionOf s id r) → IsKeptBehind id r → (j : MapId)
      → Contains (held_keys p.from.start (holders_by (finished_of s) p.from.start)) (keys.Map j)
      → kept_in K j ≡ kept_of s j
  held_stays id r p kept j among = go id.block refl
    where
      one_of : (b : BlockId) → id.block ≡ Some b → (hs : List ModuleId) → hs ≡ r.holders → Contains (map_key id.krate ∷ holder_keys hs) (keys.Map j)
          → kept_in K j ≡ kept_of s j
      one_of b of hs same (zero, within, is) = subst (λ (x : MapId). kept_in K x ≡ kept_of s x) (same_map is) (kept.own b of)
      one_of b of hs same (suc n, within, is) =
          let one = of_holder_keys hs j (n, omega arith, is) in
          subst (λ (x : MapId). kept_in K x ≡ kept_of s x) one.2 (kept.holders one.0 (subst (λ (xs : List ModuleId). Contains xs one.0) same one.1))

      go : (o : Option BlockId) → id.block ≡ o → kept_in K j ≡ kept_of s j
      go None of =
          let begun = one_value (subst (λ (o : Option BlockId). beginning_by s id.krate o ≡ Some p.from) of p.begun) in
          let none : Contains [] (keys.Map j) = subst (λ (x : Beginning). Contains (held_keys x.start (holders_by (finished_of s) x.start)) (keys.Map j))
          (sym begun) among in
          absurd (let past : none.0 < 0 = none.1 in omega arith)
      go (Some b) of =
          let one = block_held s id r p b of in
          one_of b of (holders_by (finished_of s) (begins_in_block id.krate b one.begun.holder one.begun.file one.begun.place.id).start)
          (ap (λ (x : Beginning). holders_by (finished_of s) x.start) one.begun.is ∙ sym (start_holders s id r p))
          (subst (λ (x : Beginning). Contains (held_keys x.start (holders_by (finished_of s) x.start)) (keys.Map j)) (sym one.begun.is) among)

  -- what is seen at a key, where no map counts
  key_stays : (finished : Maps) (from : Beginning) (last : State) (key : Key) → HasCause s.tables (workspace_of s) finished from last key
      → look s.tables (workspace_of changed) no_maps key ≡ look s.tables (workspace_of s) no_maps key
      → ((j : MapId) → key ≡ keys.Map j → HasCause s.tables (workspace_of s) finished from last (keys.Map j) → kept_in K j ≡ kept_of s j)
      → look s.tables (workspace_of changed) (finished_of changed) key ≡ look s.tables (workspace_of s) (finished_of s) key
  key_stays finished from last (keys.Map id) cause alike by_map = map_stays id (by_map id refl cause)
  key_stays finished from last other cause alike by_map = alike

  -- what a run's crate is
  krate_begun : (id : MapId) (r : Resolution) (p : IsResolutionOf s id r) → krate_of p.from.start ≡ id.krate
  krate_begun id r p = go id.block refl
    where
      go : (o : Option BlockId) → id.block ≡ o → krate_of p.from.start ≡ id.krate
      go None of =
          let begun = one_value (subst (λ (o : Option BlockId). beginning_by s id.krate o ≡ Some p.from) of p.begun) in
          ap (λ (x : Beginning). krate_of x.start) (sym begun)
      go (Some b) of = ap (λ (x : Beginning). krate_of x.start) (sym (block_held s id r p b of).begun.is)

  -- what agrees where no map counts agrees beside the maps
  pub agrees_on_all : (id : MapId) (r : Resolution) → IsResolutionOf s id r → IsKeptBehind id r
      → AgreeOn s.tables r.asked (workspace_of s) no_maps (workspace_of changed) no_maps
      → AgreeOn s.tables r.asked (workspace_of s) (finished_of s) (workspace_of changed) (finished_of changed)
  agrees_on_all id r p kept alike =
      let ended : Ends s.tables (workspace_of s) (finished_of s) p.from (collected_of r) = p.resolved.ends (workspace_of s) (finished_of s) AgreeOn-refl in
      record {
        crates = alike.crates;
        same = λ key h. key_stays (finished_of s) p.from ended.last key (ended.caused key h) (alike.same key h) (λ j is cause. by_cause j cause);
      }
    where
      by_cause : {last : State} (j : MapId) → HasCause s.tables (workspace_of s) (finished_of s) p.from last (keys.Map j) → kept_in K j ≡ kept_of s j
      by_cause j cause = elim (of_map_key cause) [
        | inl of ↦
            let among : Contains (transitive_in s.crates id.krate.0) of.0 = subst (λ (k : Crate). Contains (transitive_in s.crates k.0) of.0)
            (krate_begun id r p) of.1 in
            subst (λ (x : MapId). kept_in K x ≡ kept_of s x) (sym (same_map of.2))
            (kept.crates of.0 (has_listed (transitive_in s.crates id.krate.0) of.0 among))
        | inr held ↦ held_stays id r p kept j held
      ]

  -- a resolution stands where what it asked for is as it was, and where its run begins as it did
  pub IsResolutionOf-stays : (id : MapId) (r : Resolution) (p : IsResolutionOf s id r) → IsKeptBehind id r → beginning_of changed id ≡ Some p.from
      → AgreeOn s.tables r.asked (workspace_of s) no_maps (workspace_of changed) no_maps → IsResolutionOf changed id r
  IsResolutionOf-stays id r p kept begun alike = record {
    from = p.from;
    begun = begun;
    meant = p.meant;
    resolved = record { ends = λ u finished same. p.resolved.ends u finished (AgreeOn-trans (agrees_on_all id r p kept alike) same) };
    own = p.own;
    holder = p.holder;
    holders = holders_stay id r p kept;
    names = subst (λ (maps : Maps). HasNoDanglingReference (overlay maps r.map) r.map) (sym (read_stays id r kept)) p.names;
    reaches = subst (λ (maps : Maps). HasNoDanglingExtern (overlay maps r.map) r.local) (sym (read_stays id r kept)) p.reaches;
  }

-- the map that is kept of a place has the crates on which its own stands
pub kept_transitive : (s : SessionState) (id : MapId) (r : Resolution) → IsResolutionOf s id r → r.map.crate_data.dependencies
    ≡ transitive_in s.crates id.krate.0
kept_transitive s id r p =
    let ended : Ends s.tables (workspace_of s) (finished_of s) p.from (collected_of r) = p.resolved.ends (workspace_of s) (finished_of s) AgreeOn-refl in
    ended.dependencies_are ∙ ap (λ (x : MapId). transitive_in s.crates x.krate.0) (sym ended.own ∙ p.own)

-- ---- where what a place stands on is as it was

module _ (s : SessionState) (sound : IsSound s) (C : List CrateValue) (F : SourceTable) (K : Resolutions) (Stays : MapId → Type 0)
    (outwards : (id d : MapId) → Stays id → Contains (follows s id) d → Stays d) (same : (id : MapId) → Stays id → kept_in K id ≡ kept_of s id)
    (alike : (id : MapId) → Stays id → transitive_in C id.krate.0 ≡ transitive_in s.crates id.krate.0) where
  -- so is what is kept of the crates on which a crate stands
  pub crates_stay : (krate : Crate) → Stays (crate_map krate) → (c : Crate) → has_crate (transitive_in s.crates krate.0) c ≡ true → Stays (crate_map c)
  crates_stay krate stays c behind =
      DependsOn-holds {P = λ (i : ℕ). Stays (id_of i)} (λ j d p among. outwards (id_of j) (crate_map d) p (followed s (record { 0 = j }) d among))
      ((depended sound krate.0 c).0 behind) stays

  -- a place whose crate and whose holder stay stands on what stays
  pub behind_stays : (id : MapId) (r : Resolution) → IsResolutionOf s id r → Stays (crate_map id.krate) → ((h : ModuleId) → r.map.holder ≡ Some h → Stays h.map)
      → IsKeptBehind s C F K id r
  behind_stays id r p own held = record {
    transitive = alike (crate_map id.krate) own;
    crates = λ c behind. same (crate_map c) (crates_stay id.krate own c behind);
    own = λ b of. same (crate_map id.krate) own;
    holders = λ h among. same h.map (all r.map.holder refl h among);
  }
    where
      all : (o : Option ModuleId) → r.map.holder ≡ o → (h : ModuleId) → Contains r.holders h → Stays h.map
      all None alone h among =
          let none : Contains [] h = subst (λ (hs : List ModuleId). Contains hs h) (p.holders ∙ ap (holders_under (finished_of s) r.map.id) alone) among in
          absurd (let past : none.0 < 0 = none.1 in omega arith)
      all (Some g) is h among =
          let first = holder_kept s id r p g is in
          one_of g (held g is) first.found first.is (subst (λ (hs : List ModuleId). Contains hs h) first.holders among)
        where
          one_of : (g : ModuleId) → Stays g.map → (f : Resolution) → kept_of s g.map ≡ Some f → Contains (g ∷ f.holders) h → Stays h.map
          one_of g stays f kept (zero, within, eq) = subst (λ (m : ModuleId). Stays m.map) eq stays
          one_of g stays f kept (suc n, within, eq) = holders_hold s sound {P = Stays} outwards f.holders g.map f kept refl stays h (n, omega arith, eq)

  -- what is kept of a place that stays stands on what stays
  pub kept_behind : (id : MapId) (r : Resolution) → kept_of s id ≡ Some r → Stays id → IsKeptBehind s C F K id r
  kept_behind id r is stays =
      let p = kept_gives s sound id r is in
      behind_stays id r p (own id.block refl) (λ h held. let of = held_block s id r p h held
      in outwards id h.map stays (followed_holder s id of.0 r h of.1 is held))
    where
      own : (o : Option BlockId) → id.block ≡ o → Stays (crate_map id.krate)
      own None of = let is : id ≡ crate_map id.krate = λ i. record { krate = id.krate; block = of i } in subst Stays is stays
      own (Some b) of = outwards id (crate_map id.krate) stays (followed_crate s id b of)
