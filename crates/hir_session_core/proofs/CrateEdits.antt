-- What a crate is handed in with touches the crate, its blocks, and what depends on it.
use Rattle.std.specs.Prelude.{is_none}
use Rattle.std.proofs.lemmas.Bool.{eqb-true}
use Rattle.std.proofs.Common.{◌≡◌, ◌≢◌, ◌∙◌, ◌⊎◌, inl, inr, ℕ, zero, suc, ◌<◌, Bool, true, false, ◌||◌}
use Rattle.std.proofs.Common.{List, [], ◌∷◌, length, Option, Some, None, nat_eq, refl, sym, ap, eq-eqb}
use Rattle.std.proofs.Common.{arith, subst, Contains, map, Result, Ok, Err, if◌then◌else◌}
use Rattle.hir_session_state.specs.HirIds.declared.ast_id.BlockId.{BlockId}
use Rattle.hir_session_state.specs.HirIds.declared.ids.Crate.{Crate}
use Rattle.hir_session_state.specs.HirIds.declared.ids.MapId.{MapId}
use Rattle.hir_session_state.specs.HirIds.declared.macro_kind.MacroId.TheVariants as macros
use Rattle.hir_session_state.specs.HirBase.CfgOptions.{is_set as has_option}
use Rattle.hir_session_state.specs.HirCrateGraph.CrateSet.{has_crate}
use Rattle.hir_session_state.specs.HirDefMapRules.Overlay.{no_maps}
use Rattle.hir_session_state.specs.HirDefMapRules.State.{crate_map}
use Rattle.hir_session_state.specs.HirIds.declared.ast_id.AstKind.TheVariants.{MacroDef, MacroRules}
use Rattle.hir_session_state.specs.HirItemTree.SourceTree.{SourceTreeValue, source_tree_of, variants_of}
use Rattle.hir_session_state.specs.HirItemTree.SyntaxIds.{node_id}
use Rattle.hir_session_state.specs.HirItemTree.declared.check.NodeId.{NodeId}
use Rattle.hir_session_state.specs.HirTables.SourcePlaces.{SourcePlaceValue}
use Rattle.hir_session_state.specs.HirTables.Tables.{file_at, source_of}
use Rattle.hir_session_state.specs.HirCollectorRules.Keys.{AgreeOn, Look, config_key, input_of, look, of_config, of_input, of_text, of_tree, of_variants}
use Rattle.hir_session_state.specs.HirCollectorRules.Keys.{enum_tree, macro_tree, node_tree, source_under, text_of}
use Rattle.hir_session_state.specs.HirCollectorRules.Workspace.{ConfigValue, Workspace, seen_of}
use Rattle.hir_session_state.specs.HirCollectorRules.declared.source_database.CrateRoot.{CrateRoot}
use Rattle.hir_session_state.specs.HirCollectorRules.declared.source_database.Dependency.{Dependency}
use Rattle.hir_session_state.specs.HirCollectorRules.declared.source_database.Key.{Key}
use Rattle.hir_session_state.specs.HirCollectorRules.declared.source_database.Key.TheVariants as keys
use Rattle.hir_session_state.specs.HirBase.declared.limit.Limit.TheVariants as limit
use Rattle.hir_session_state.specs.HirMessages.declared.command.Dependency.{Dependency as HandedIn}
use Rattle.hir_session_state.specs.declared.error.EditError.{EditError}
use Rattle.hir_session_state.specs.declared.error.EditError.TheVariants as edit_error
use Rattle.hir_session_state.specs.Refusals.{dependency_crates, has_late, nest_too_deep, verdict_of_data}
use Rattle.hir_session_state.specs.HirItemTree.Limits.{have_long_attribute}
use Rattle.hir_session_state.specs.Beginning.{IsConfigOf, IsSameConfig, dependency_of}
use Rattle.hir_session_state.specs.Changes.{IsHandedIn, SetsCrate}
use Rattle.hir_session_state.specs.HirMessages.Edits.{CrateDataValue}
use Rattle.hir_session_state.specs.Crates.{CrateValue, beginning_in, begins_at, config_in, crate_in, named_in, options_in, root_of, transitive_in, with_config}
use Rattle.hir_session_state.specs.EditedSources.{AreReached}
use Rattle.hir_session_state.specs.Kept.{Resolutions, AreForgotten, collected_of}
use Rattle.hir_session_state.specs.Marks.{IsAltered, IsTouched}
use Rattle.hir_session_state.specs.Marks.IsTouched.{asked_for, before}
use Rattle.hir_session_state.specs.SessionState.{SessionState, Resolution, finished_of, follows, is_marked, kept_of, workspace_of, IsSound}
use Rattle.hir_session_state.specs.SourceTable.{front_in, source_at, workspace_in}
use Rattle.hir_session_state.specs.Spread.{Spread}
use Rattle.hir_session_state.specs.Spread.Spread.{depends, here}
use Rattle.hir_session_state.proofs.HirCollectorRules.Asked.{head_or_later, seen_config}
use Rattle.hir_session_state.proofs.HirCollectorRules.Asks.{only}
use Rattle.hir_session_state.proofs.Depending.{depended}
use Rattle.hir_session_state.proofs.Following.{followed_crate, spread_on}
use Rattle.hir_session_state.proofs.Ids.{of_number}
use Rattle.hir_session_state.proofs.Options.{input_stays, text_stays}
use Rattle.hir_session_state.proofs.OwnKeys.{asks_own, IsOwnKey}
use Rattle.hir_session_state.proofs.Renewed.{config_there, file_stays, length_renewed, named_below, other_config}
use Rattle.hir_session_state.proofs.Renewed.{other_crate, own_config, root_stays, roots_stay, same_crates}
use Rattle.hir_session_state.proofs.Standing.{kept_gives}
use Rattle.hir_session_state.proofs.Truth.{clash, on_bool, on_same, one_value, or_first, or_right}
use Rattle.hir_session_state.proofs.Worlds.{has_listed, of_config_key}
use Rattle.hir_session_core.specs.CrateEdits.{SetsConfig}
use Rattle.hir_session_core.proofs.Naming.{kept_ended, kept_krate, listed_crate}
use Rattle.hir_session_core.proofs.Sound.{AreRenewed, applied_sound, becomes, config_asked}

-- ---- what is seen at keys

-- a crate that is the same has the number that it has
apart_from : (own c k : Crate) → Some c ≡ Some own → own.0 ≢ k.0 → c.0 ≢ k.0
apart_from own c k same apart at = apart (sym (ap (λ (x : Crate). x.0) (one_value same)) ∙ at)

no_crate_at : {A : Type 0} {c : Crate} → Some c ≡ None → A
no_crate_at e = absurd (let wrong : ⊥ = cc in wrong)

module _ (s : SessionState) (krate : Crate) (config : ConfigValue) where
  -- the crates with it
  abbrev renewed : List CrateValue
  renewed = with_config s.crates krate.0 config

  abbrev renewed_workspace : Workspace
  renewed_workspace = workspace_in renewed s.sources

  abbrev tree_of : CrateValue → SourcePlaceValue → SourceTreeValue
  tree_of c place = source_tree_of (has_option c.config.options) (front_in c place) (source_at s.sources place)

  -- what a source has under another crate is what it was
  under_stays : (c : Crate) → c.0 ≢ krate.0 → (o : Option SourcePlaceValue) → source_under renewed_workspace c o ≡ source_under (workspace_of s) c o
  under_stays c apart None = refl
  under_stays c apart (Some place) = ap (λ (v : CrateValue). tree_of v place) (other_crate s.crates krate.0 config c.0 apart)

  -- the text of a macro is so under each
  texts_stay : (c : Crate) (o : Option SourcePlaceValue) (node : NodeId) → text_of (source_under renewed_workspace c o) node
      ≡ text_of (source_under (workspace_of s) c o) node
  texts_stay c None node = refl
  texts_stay c (Some place) node =
      text_stays (has_option (options_in s.crates c.0)) (has_option (options_in renewed c.0)) (front_in (crate_in s.crates c.0) place)
      (front_in (crate_in renewed c.0) place) (source_at s.sources place) node

  -- so is what is seen at the key of a run for another crate
  look_stays : (own : Crate) → own.0 ≢ krate.0 → (key : Key) → IsOwnKey own key → ((c : Crate) → key ≡ config_key c → c.0 ≢ krate.0)
      → look s.tables renewed_workspace no_maps key ≡ look s.tables (workspace_of s) no_maps key
  look_stays own apart (keys.Tree key) (inl none) behind = no_crate_at none
  look_stays own apart (keys.Tree key) (inr same) behind =
      ap (λ (t : SourceTreeValue). of_tree (seen_of t)) (under_stays key.krate (apart_from own key.krate krate same apart) (source_of s.tables key.id))
  look_stays own apart (keys.Variants id) (inl none) behind = no_crate_at none
  look_stays own apart (keys.Variants id) (inr same) behind =
      ap (λ (t : SourceTreeValue). of_variants (variants_of t id.loc.id))
      (under_stays id.loc.container.map.krate (apart_from own id.loc.container.map.krate krate same apart) (source_of s.tables (enum_tree id)))
  look_stays own apart (keys.Text (macros.Macro2Id id)) is behind =
      ap (λ (text : Option (List ℕ)). of_text text)
      (texts_stay id.loc.container.map.krate (source_of s.tables (macro_tree id.loc)) (node_id MacroDef id.loc.id))
  look_stays own apart (keys.Text (macros.MacroRulesId id)) is behind =
      ap (λ (text : Option (List ℕ)). of_text text)
      (texts_stay id.loc.container.map.krate (source_of s.tables (macro_tree id.loc)) (node_id MacroRules id.loc.id))
  look_stays own apart (keys.Text (macros.ProcMacroId id)) is behind = refl
  look_stays own apart (keys.Input c ast) (inl none) behind = no_crate_at none
  look_stays own apart (keys.Input c ast) (inr same) behind =
      ap (λ (t : SourceTreeValue). of_input (input_of t (node_id ast.kind ast.id)))
      (under_stays c (apart_from own c krate same apart) (source_of s.tables (node_tree ast)))
  look_stays own apart (keys.Expansion id) is behind = refl
  look_stays own apart (keys.Map id) is behind = refl
  look_stays own apart (keys.Config c) is behind =
      ap (λ (o : Option ConfigValue). of_config o) (other_config s.crates krate.0 config c (behind c refl))

-- ---- what is touched

module _ (s : SessionState) (sound : IsSound s) (krate : Crate) (within : krate.0 < length s.crates) (config : ConfigValue)
    (apart : config ≢ (crate_in s.crates krate.0).config)
    (early : (d : Crate) → Contains (map (λ (d : Dependency). d.krate) config.dependencies) d → d.0 < krate.0) where
  abbrev pub hits : List MapId
  hits = crate_map krate ∷ []

  abbrev new : List CrateValue
  new = renewed s krate config

  -- what the crate was handed in with is altered
  altered : IsAltered s.tables (workspace_of s) (renewed_workspace s krate config) (config_key krate)
  altered same = apart (one_value (sym (own_config s.crates krate.0 config within) ∙ ap (λ (l : Look). seen_config l None) same
      ∙ config_there s.crates krate.0 within))

  -- whether a place is of the crate, or of one that depends on it
  abbrev is_behind : MapId → Bool
  is_behind id = nat_eq id.krate.0 krate.0 || has_crate (transitive_in s.crates id.krate.0) krate

  of_number_same : (a b : Crate) → nat_eq a.0 b.0 ≡ true → a ≡ b
  of_number_same a b e = λ i. record { 0 = eqb-true a.0 b.0 e i }

  listed : (id : MapId) → is_behind id ≡ true → Contains (id.krate ∷ transitive_in s.crates id.krate.0) krate
  listed id on = on_bool (nat_eq id.krate.0 krate.0)
      (λ own. (0, omega arith, of_number_same id.krate krate own))
      (λ other.
      let there = listed_crate (transitive_in s.crates id.krate.0) krate (or_first (nat_eq id.krate.0 krate.0) _ on other) in
      (suc there.0, omega (arith, there.1), there.2))

  touched : (id : MapId) (r : Resolution) → kept_of s id ≡ Some r → is_behind id ≡ true → IsTouched s (renewed_workspace s krate config) id
  touched id r is on = asked_for (config_key krate) r is (config_asked s sound id r is krate (listed id on)) altered

  -- what depends on the crate depends on its map
  from_hit : Spread (follows s) (Contains hits) (crate_map krate)
  from_hit = here (crate_map krate) (0, omega arith, refl)

  of_crate_map : (id : MapId) → is_behind id ≡ true → Spread (follows s) (Contains hits) (crate_map id.krate)
  of_crate_map id on = on_bool (nat_eq id.krate.0 krate.0)
      (λ own. subst (λ (c : Crate). Spread (follows s) (Contains hits) (crate_map c)) (sym (of_number_same id.krate krate own)) from_hit)
      (λ other. spread_on s ((depended sound id.krate.0 krate).0 (or_first (nat_eq id.krate.0 krate.0) _ on other)) from_hit)

  spread : (id : MapId) → is_behind id ≡ true → Spread (follows s) (Contains hits) id
  spread id on = go id.block refl
    where
      go : (o : Option BlockId) → id.block ≡ o → Spread (follows s) (Contains hits) id
      go None none = subst (λ (x : MapId). Spread (follows s) (Contains hits) x) (sym (of_number id none)) (of_crate_map id on)
      go (Some b) of = depends id (crate_map id.krate) (followed_crate s id b of) (of_crate_map id on)

  -- all else is as it was
  untouched : (id : MapId) (r : Resolution) → kept_of s id ≡ Some r → is_behind id ≡ false → AgreeOn s.tables r.asked (workspace_of s) no_maps
      (renewed_workspace s krate config) no_maps
  untouched id r is off = record {
    crates = roots_stay s.crates krate.0 config;
    same = λ key h. look_stays s krate config id.krate own key (own_key key h) (λ c config_is. behind key c h config_is);
  }
    where
      own : id.krate.0 ≢ krate.0
      own same = clash (ap (λ (b : Bool). b || has_crate (transitive_in s.crates id.krate.0) krate) (eq-eqb id.krate.0 krate.0 same)) off

      own_key : (key : Key) → Contains r.asked key → IsOwnKey id.krate key
      own_key key h =
          subst (λ (c : Crate). IsOwnKey c key) (kept_krate s sound id r is)
          (asks_own s.tables (workspace_of s) (finished_of s) (kept_gives s sound id r is).from (collected_of r) (kept_ended s sound id r is) key h)

      among : (c : Crate) → Contains r.asked (config_key c) → Contains (id.krate ∷ transitive_in s.crates id.krate.0) c
      among c h =
          subst (λ (k : Crate). Contains (k ∷ transitive_in s.crates k.0) c) (kept_krate s sound id r is)
          (of_config_key ((kept_ended s sound id r is).caused (config_key c) h))

      behind : (key : Key) (c : Crate) → Contains r.asked key → key ≡ config_key c → c.0 ≢ krate.0
      behind key c h config_is same = elim (head_or_later id.krate (transitive_in s.crates id.krate.0) c
          (among c (subst (λ (k : Key). Contains r.asked k) config_is h))) [
            | inl is_own ↦ own (ap (λ (x : Crate). x.0) is_own ∙ same)
            | inr later ↦
                let it : c ≡ krate = λ i. record { 0 = same i } in
                clash (or_right (nat_eq id.krate.0 krate.0) _ (subst (λ (x : Crate). has_crate (transitive_in s.crates id.krate.0) x ≡ true) it
                (has_listed (transitive_in s.crates id.krate.0) c later))) off
          ]

  reached : AreReached s (renewed_workspace s krate config) hits
  reached = record {
    touched = λ id among. subst (IsTouched s (renewed_workspace s krate config)) (only (crate_map krate) id among) own;
    missed = λ id r is. on_bool (is_behind id)
        (λ on. inl (touched id r is on, spread id on))
        (λ off. inr (untouched id r is off));
  }
    where
      own : IsTouched s (renewed_workspace s krate config) (crate_map krate)
      own = go (kept_of s (crate_map krate)) refl
        where
          go : (o : Option Resolution) → kept_of s (crate_map krate) ≡ o → IsTouched s (renewed_workspace s krate config) (crate_map krate)
          go None none = before (ap (λ (o : Option Resolution). is_none o) none)
          go (Some r) is =
              touched (crate_map krate) r is
              (ap (λ (b : Bool). b || has_crate (transitive_in s.crates krate.0) krate) (eq-eqb krate.0 krate.0 refl))

  -- the crates are the same but for that
  are_renewed : AreRenewed s new
  are_renewed = record {
    count = length_renewed s.crates krate.0 config;
    below = named_below s.crates krate.0 config within early sound.below;
    begins = begins;
    rooted = λ k below.
        ap (file_at s.tables) (file_stays s.crates krate.0 config within k)
        ∙ sound.rooted k (subst (λ (n : ℕ). k < n) (length_renewed s.crates krate.0 config) below)
        ∙ ap (λ (c : CrateRoot). Some c.root) (sym (root_stays s.crates krate.0 config within k));
  }
    where
      begins : (k : ℕ) → config_in new (record { 0 = k }) ≡ config_in s.crates (record { 0 = k }) → beginning_in new k ≡ beginning_in s.crates k
      begins k same = on_same k krate.0
          (λ own.
          let there : k < length s.crates = subst (λ (n : ℕ). n < length s.crates) (sym own) within in
          let there_too : k < length new = subst (λ (n : ℕ). k < n) (sym (length_renewed s.crates krate.0 config)) there in
          let alike : (crate_in new k).config ≡ (crate_in s.crates k).config =
          one_value (sym (config_there new k there_too) ∙ same ∙ config_there s.crates k there) in
          λ i. begins_at (record { 0 = k }) (record { file_id = file_stays s.crates krate.0 config within k i; edition = (alike i).edition }))
          (λ other. ap (λ (c : CrateValue). begins_at (record { 0 = k }) (root_of c)) (other_crate s.crates krate.0 config k other))

  -- once the crate and what depends on it are forgotten the session is sound, and that is what the edit does
  pub renewed_sound : (K : Resolutions) → AreForgotten s.kept hits K → IsSound (record s { crates = new; sources = s.sources; kept = K })
  renewed_sound K forgotten = applied_sound s sound new s.sources hits K are_renewed reached forgotten

  pub renewed_becomes : (K : Resolutions) → AreForgotten s.kept hits K
      → IsHandedIn s (record { crates = new; sources = s.sources }) (record s { crates = new; sources = s.sources; kept = K })
  renewed_becomes K forgotten = becomes s sound new s.sources hits K are_renewed reached forgotten

  pub renewed_set : (IsSameConfig config (crate_in s.crates krate.0).config → ⊥) → (K : Resolutions) → AreForgotten s.kept hits K
      → SetsConfig s krate config (record s { crates = new; sources = s.sources; kept = K })
  renewed_set other K forgotten = record {
    config = config;
    is = record { edition = refl; attributes = refl; dependencies = refl; options = λ a. refl };
    same = λ so. absurd (other so);
    becomes = renewed_becomes K forgotten;
    marks = inr (ap (λ (o : Option Resolution). is_none o) (forgotten.gone (crate_map krate) (0, omega arith, refl)));
  }

-- ---- what a crate has already

-- what is handed in as it was marks nothing more
as_it_was : (s : SessionState) → IsSound s → {id : MapId} → Spread (follows s) (IsTouched s (workspace_of s)) id → is_marked s id ≡ true
as_it_was s sound (here id (before m)) = m
as_it_was s sound (here id (asked_for key r is has ne)) = absurd (ne refl)
as_it_was s sound (depends id d among sp) = on_bool (is_marked s id)
    (λ on. on)
    (λ off. clash (as_it_was s sound sp) (sound.closed id d off among))

nothing_handed : (s : SessionState) → IsSound s → IsHandedIn s (record { crates = s.crates; sources = s.sources }) s
nothing_handed s sound = record {
  crates = refl;
  tables = refl;
  sources_are = refl;
  only = λ id on. here id (before on);
  all = λ id sp. as_it_was s sound sp;
  kept = λ id off. refl;
  sound = sound;
}

-- where a crate is handed in so already nothing changes
pub same_set : (s : SessionState) → IsSound s → (krate : Crate) (given : ConfigValue) → IsSameConfig given (crate_in s.crates krate.0).config
    → SetsConfig s krate given s
same_set s sound krate given same = record {
  config = (crate_in s.crates krate.0).config;
  is = same;
  same = λ h. refl;
  becomes = subst (λ (cs : List CrateValue). IsHandedIn s (record { crates = cs; sources = s.sources }) s)
      (sym (same_crates s.crates krate.0 (crate_in s.crates krate.0).config refl)) (nothing_handed s sound);
  marks = inl refl;
}

-- what was given for a crate is what it gets
pub set_so : (old new : SessionState) (krate : Crate) (given : CrateDataValue) (made : ConfigValue) → IsConfigOf given made → SetsConfig old krate made new
    → SetsCrate old krate given new
set_so old after krate given made so is = record {
  config = is.config;
  is = record {
    edition = is.is.edition ∙ so.edition;
    attributes = is.is.attributes ∙ so.attributes;
    dependencies = is.is.dependencies ∙ so.dependencies;
    options = λ a. is.is.options a ∙ so.options a;
  };
  same = λ was. is.same (record {
    edition = was.edition ∙ sym so.edition;
    attributes = was.attributes ∙ sym so.attributes;
    dependencies = was.dependencies ∙ sym so.dependencies;
    options = λ a. was.options a ∙ sym (so.options a);
  });
  becomes = is.becomes;
  marks = is.marks;
}

-- of two configs one of which isn't the other's same, none is the other
pub apart_of : (given config : ConfigValue) → (IsSameConfig given config → ⊥) → given ≢ config
apart_of given config other same =
    other (subst (IsSameConfig given) same (record { edition = refl; attributes = refl; dependencies = refl; options = λ a. refl }))

-- what data are refused for, by whether their attributes are too long, nest too deep, and a dependency comes late
abbrev verdict_by : Crate → Bool → Bool → Bool → Result (Unit {0}) EditError
verdict_by krate long deep late =
    if long then Err (edit_error.TooLarge limit.Path) else
    (if deep then Err (edit_error.TooLarge limit.Cfg) else (if late then Err (edit_error.DependencyOrder krate) else Ok tt))

not_late : (krate : Crate) (long deep late : Bool) → verdict_by krate long deep late ≡ Ok tt → late ≡ false
not_late krate long deep false e = refl
not_late krate true deep true e = absurd (let wrong : ⊥ = cc in wrong)
not_late krate false true true e = absurd (let wrong : ⊥ = cc in wrong)
not_late krate false false true e = absurd (let wrong : ⊥ = cc in wrong)

handed_crates : (ds : List HandedIn) → map (λ (d : Dependency). d.krate) (map dependency_of ds) ≡ dependency_crates ds
handed_crates [] = refl
handed_crates (d ∷ ds) = ap (λ (cs : List Crate). d.krate ∷ cs) (handed_crates ds)

-- what isn't refused names only crates that come before it
pub early_of : (krate : Crate) (given : CrateDataValue) (made : ConfigValue) → IsConfigOf given made → verdict_of_data krate given.attributes given.deps ≡ Ok tt
    → has_late krate.0 (map (λ (d : Dependency). d.krate) made.dependencies) ≡ false
early_of krate given made so fits =
    ap (λ (ds : List Dependency). has_late krate.0 (map (λ (d : Dependency). d.krate) ds)) so.dependencies
    ∙ ap (has_late krate.0) (handed_crates given.deps)
    ∙ not_late krate (have_long_attribute given.attributes) (nest_too_deep given.attributes) (has_late krate.0 (dependency_crates given.deps)) fits
