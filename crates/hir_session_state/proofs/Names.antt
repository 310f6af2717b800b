-- What a map names is there, also among more maps.
use Rattle.std.proofs.Common.{◌≡◌, ◌∙◌, ap, sym, subst, refl, ℕ, Bool, true, false, not, ◌&&◌, ◌||◌, is_none, is_some, cond, Option, Some, None, List, [], ◌∷◌}
use Rattle.std.proofs.Common.{◌⊎◌, inl, inr}
use Rattle.std.specs.Option.{option_map, option_and_then}
use Rattle.std.specs.List.{list_any}
use Rattle.std.specs.BTreeMap.{is_at}
use Rattle.hir_collector_rules.specs.HirIds.declared.ast_id.BlockId.{BlockId}
use Rattle.hir_collector_rules.specs.HirIds.declared.ids.Crate.{Crate}
use Rattle.hir_collector_rules.specs.HirIds.declared.ids.MapId.{MapId}
use Rattle.hir_collector_rules.specs.HirIds.declared.ids.ModuleId.{ModuleId}
use Rattle.hir_collector_rules.specs.HirIds.contracts.ids.MapIdOrd.TheImpl as map_order
use Rattle.hir_collector_rules.specs.HirIds.contracts.ids.MapIdPartialEq.TheImpl as map_id
use Rattle.hir_collector_rules.specs.HirDefMapRules.declared.reference.Reference.{Reference}
use Rattle.hir_collector_rules.specs.HirDefMapRules.declared.reference.Reference.TheVariants as named
use Rattle.hir_collector_rules.specs.HirNameres.WorldParts.{among, are_of_some, is_of_some}
use Rattle.hir_collector_rules.specs.HirNameres.Inner.PartLaws.{among-only, among-there}
use Rattle.hir_collector_rules.specs.HirDefMapRules.Inner.OverlayLaws.{exact_map}
use Rattle.hir_collector_rules.proofs.HirDefMapRules.WellFormed.{complete, HasNoDanglingExtern-more, HasNoDanglingReference-more}
use Rattle.hir_collector_rules.specs.HirDefMapRules.WellFormed.{AreWellFormed, HasNoDanglingExtern, Extends, IsWellFormed, HasNoDanglingReference}
use Rattle.hir_collector_rules.specs.HirDefMapRules.References.{is_holder_for, is_well_formed, is_missing, is_there, lies_in}
use Rattle.hir_collector_rules.specs.HirDefMapRules.References.{map_of_reference, any_reference_in, refers_to}
use Rattle.hir_collector_rules.specs.HirDefMapRules.References.{any_own_crate, any_reference, prelude_reference, test_crate, test_extern, test_of}
use Rattle.hir_collector_rules.proofs.HirDefMapRules.Fails.{of_less}
use Rattle.hir_collector_rules.proofs.HirDefMapRules.Referred.{module_less}
use Rattle.hir_collector_rules.proofs.HirDefMapRules.NoneOf.{neither, none_of_less}
use Rattle.hir_collector_rules.specs.HirDefMapRules.State.{Local, Map, crate_map, module_at, variants_at}
use Rattle.hir_collector_rules.specs.HirDefMapRules.Overlay.{Maps, Placed, overlay, holders_of, holders_under, map_in, module_in, placed_in}
use Rattle.hir_collector_rules.specs.HirCrateGraph.CrateSet.{has_crate}
use Rattle.hir_collector_rules.specs.HirPerNs.ModuleTree.{same_crate}
use Rattle.hir_session_state.specs.Kept.{Resolution, Resolutions, finished_by, kept_in, placed_by}
use Rattle.hir_session_state.proofs.Ids.{equal_id, own_id}
use Rattle.hir_session_state.proofs.Truth.{and_left, and_right, both_true, clash, no_value, on_bool, one_value, or_right}

-- ---- a test that holds of nothing that a map names

module _ (test other : Reference → Bool) (less : (n : Reference) → test n ≡ false → other n ≡ false) where
  own_less : (id : MapId) → any_own_crate test id ≡ false → any_own_crate other id ≡ false
  own_less id e = go (is_some id.block) e
    where
      go : (b : Bool) → (b && test_crate test id.krate) ≡ false → (b && test_crate other id.krate) ≡ false
      go true f = less (named.Map (crate_map id.krate)) f
      go false f = refl

  -- a map, of whose names the one test holds of none, names nothing of which the other holds
  names_less : (map : Map) (local : Local) → any_own_crate test map.id ≡ false → test_of test (option_map named.Module map.holder) ≡ false
      → list_any (any_reference_in test) map.modules ≡ false
      → test_of test (prelude_reference map.prelude) ≡ false → list_any (test_crate test) map.crate_data.dependencies ≡ false
      → list_any (test_extern test) local ≡ false
      → any_reference other map local ≡ false
  names_less map local own_crate holder modules prelude dependencies begins =
      let p = test_of other (prelude_reference map.prelude) in
      let h = test_of other (option_map named.Module map.holder) in
      let e = list_any (test_extern other) local in
      let d = list_any (test_crate other) map.crate_data.dependencies in
      let o = any_own_crate other map.id in
      neither (list_any (any_reference_in other) map.modules) (p || (h || (e || (d || o))))
      (none_of_less (any_reference_in test) (any_reference_in other) (module_less test other less) map.modules modules)
      (neither p (h || (e || (d || o))) (of_less test other less (prelude_reference map.prelude) prelude)
      (neither h (e || (d || o)) (of_less test other less (option_map named.Module map.holder) holder)
      (neither e (d || o) (none_of_less (test_extern test) (test_extern other) (λ x f. less (named.Module x.1.0) f) local begins)
      (neither d o (none_of_less (test_crate test) (test_crate other) (λ x f. less (named.Map (crate_map x)) f) map.crate_data.dependencies dependencies)
      (own_less map.id own_crate)))))

-- ---- what a map names is there

-- what is there lies in a map that is
there_in : (maps : Maps) (n : Reference) → is_there maps n ≡ true → is_some (maps (map_of_reference n)) ≡ true
there_in maps (named.Module m) e = go (maps m.map) e
  where
    go : (o : Option Placed) → is_some (option_and_then (λ (p : Placed). module_at p.map m.index) o) ≡ true → is_some o ≡ true
    go None f = f
    go (Some p) f = refl
there_in maps (named.Enum n) e = go (maps n.loc.container.map) e
  where
    go : (o : Option Placed) → is_some (option_and_then (λ (p : Placed). variants_at p.map n) o) ≡ true → is_some o ≡ true
    go None f = f
    go (Some p) f = refl
there_in maps (named.Map id) e = e

not_missing : (maps : Maps) (n : Reference) → is_missing maps n ≡ false → is_there maps n ≡ true
not_missing maps n e = go (is_there maps n) e
  where
    go : (b : Bool) → not b ≡ false → b ≡ true
    go true f = refl
    go false f = clash refl f

-- where a map isn't there, nothing that is there lies in it
lies_elsewhere : (maps : Maps) (id : MapId) → is_some (maps id) ≡ false → (n : Reference) → is_missing maps n ≡ false → lies_in id n ≡ false
lies_elsewhere maps id gone n e = on_bool (lies_in id n)
    (λ lies. clash (ap (λ (x : MapId). is_some (maps x)) (sym (equal_id (map_of_reference n) id lies)) ∙ there_in maps n (not_missing maps n e)) gone)
    (λ f. f)

-- so is a holder
held_named : (maps : Maps) (id : MapId) (o : Option ModuleId) → is_holder_for maps id o ≡ true → test_of (is_missing maps) (option_map named.Module o) ≡ false
held_named maps id None e = refl
held_named maps id (Some h) e = ap not (and_right (same_crate h.map.krate id.krate) (is_some (module_in maps h)) e)

module _ (finished : Maps) (map : Map) (local : Local) (names : HasNoDanglingReference (overlay finished map) map)
    (begins : HasNoDanglingExtern (overlay finished map) local) where
  named_there : (id : MapId) → any_reference (lies_in id) map local ≡ true → is_some (overlay finished map id) ≡ true
  named_there id some = on_bool (is_some (overlay finished map id))
      (λ e. e)
      (λ gone. clash some (names_less (is_missing (overlay finished map)) (lies_in id) (lies_elsewhere (overlay finished map) id gone) map local
      names.own_crate (held_named (overlay finished map) map.id map.holder names.held) names.modules names.prelude names.dependencies begins))

  -- each other map that a map names is finished
  pub names-within : (id : MapId) → refers_to map local id ≡ true → is_some (finished id) ≡ true
  names-within id e = on_bool (map_id.ghosts.eq id map.id)
      (λ same. clash
      (ap (λ (x : MapId). is_at (map_order.ghosts.cmp map.id) x) (exact_map id map.id same) ∙ own_id map.id)
      (off (is_at (map_order.ghosts.cmp map.id) id) (and_left (not (is_at (map_order.ghosts.cmp map.id) id)) (any_reference (lies_in id) map local) e)))
      (λ other. sym (ap (λ (b : Bool). is_some (cond b (Some (placed_in finished map)) (finished id))) other)
      ∙ named_there id (and_right (not (is_at (map_order.ghosts.cmp map.id) id)) (any_reference (lies_in id) map local) e))
    where
      off : (b : Bool) → not b ≡ true → b ≡ false
      off true f = clash f refl
      off false f = refl

-- ---- maps of some crates and of some holders

-- whether one of some modules lies in a map
abbrev pub holds : List ModuleId → MapId → Bool
holds holders id = list_any (λ (h : ModuleId). map_id.ghosts.eq h.map id) holders

-- an id that is of some crates and holders is that of the map of one of those crates, or of one in which a holder lies
pub of_some : (crates : List Crate) (holders : List ModuleId) (id : MapId) → is_of_some crates holders id ≡ true
    → ((id.block ≡ None) × (has_crate crates id.krate ≡ true)) ⊎ (holds holders id ≡ true)
of_some crates holders id e = go id.block refl (has_crate crates id.krate) refl (holds holders id) refl e
  where
    go : (x : Option BlockId) → id.block ≡ x → (b : Bool) → has_crate crates id.krate ≡ b → (c : Bool) → holds holders id ≡ c → ((is_none x && b) || c) ≡ true
        → ((id.block ≡ None) × (has_crate crates id.krate ≡ true)) ⊎ (holds holders id ≡ true)
    go None x true b c s f = inl (x, b)
    go None x false b true s f = inr s
    go None x false b false s f = clash f refl
    go (Some y) x b t true s f = inr s
    go (Some y) x true t false s f = clash f refl
    go (Some y) x false t false s f = clash f refl

-- and those are such ids
pub is_crate_of_some : (crates : List Crate) (holders : List ModuleId) (id : MapId) → id.block ≡ None → has_crate crates id.krate ≡ true
    → is_of_some crates holders id ≡ true
is_crate_of_some crates holders id none has = λ i. (is_none (none i) && has i) || holds holders id

pub is_held_of_some : (crates : List Crate) (holders : List ModuleId) (id : MapId) → holds holders id ≡ true → is_of_some crates holders id ≡ true
is_held_of_some crates holders id held = or_right (is_none id.block && has_crate crates id.krate) (holds holders id) held

pub is_some_crate : (crates : List Crate) (krate : Crate) → has_crate crates krate ≡ true → is_of_some crates [] (crate_map krate) ≡ true
is_some_crate crates krate has = is_crate_of_some crates [] (crate_map krate) refl has

-- what is there among the maps of some crates is the map of one of those
pub among_there : (crates : List Crate) (f : Maps) (id : MapId) (placed : Placed) → among crates [] f id ≡ Some placed
    → (id.block ≡ None) × (has_crate crates id.krate ≡ true) × (f id ≡ Some placed)
among_there crates f id placed e =
    let only = among-only crates [] f id placed e in
    elim (of_some crates [] id only.0) [
      | inl of ↦ (of.0, of.1, only.1)
      | inr held ↦ clash held refl
    ]

-- a map beside those of some crates and holders names only maps of those
pub among-names : (crates : List Crate) (holders : List ModuleId) (f : Maps) (map : Map) (local : Local)
    → HasNoDanglingReference (overlay (among crates holders f) map) map
    → HasNoDanglingExtern (overlay (among crates holders f) map) local → (id : MapId) → refers_to map local id ≡ true
    → ((id.block ≡ None) × (has_crate crates id.krate ≡ true)) ⊎ (holds holders id ≡ true)
among-names crates holders f map local names begins id e =
    go (among crates holders f id) refl (names-within (among crates holders f) map local names begins id e)
  where
    go : (o : Option Placed) → among crates holders f id ≡ o → is_some o ≡ true → ((id.block ≡ None) × (has_crate crates id.krate ≡ true))
        ⊎ (holds holders id ≡ true)
    go None s there = clash there refl
    go (Some p) s there = of_some crates holders id (among-only crates holders f id p s).0

-- ---- more maps

alike : {A : Type 0} (part : Map → Option A) (o p : Option Placed) → (option_map (λ (x : Placed). x.map) o ≡ option_map (λ (x : Placed). x.map) p) ⊎ (o ≡ None)
    → is_some (option_and_then (λ (x : Placed). part x.map) o) ≡ true → is_some (option_and_then (λ (x : Placed). part x.map) p) ≡ true
alike part None p s e = clash e refl
alike part (Some x) None (inl same) e = absurd cc
alike part (Some x) None (inr none) e = absurd cc
alike part (Some x) (Some y) (inl same) e = let maps : x.map ≡ y.map = cc in ap (λ (m : Map). is_some (part m)) (sym maps) ∙ e
alike part (Some x) (Some y) (inr none) e = absurd cc

alike_there : (o p : Option Placed) → (option_map (λ (x : Placed). x.map) o ≡ option_map (λ (x : Placed). x.map) p) ⊎ (o ≡ None) → is_some o ≡ true → is_some p
    ≡ true
alike_there None p s e = clash e refl
alike_there (Some x) None (inl same) e = absurd cc
alike_there (Some x) None (inr none) e = absurd cc
alike_there (Some x) (Some y) s e = refl

-- where each map of the one is that of the other, what is there stays there
pub Extends-by : (one other : Maps) → ((id : MapId) → (map_in one id ≡ map_in other id) ⊎ (one id ≡ None)) → Extends one other
Extends-by one other same (named.Module m) e = alike (λ (x : Map). module_at x m.index) (one m.map) (other m.map) (same m.map) e
Extends-by one other same (named.Enum n) e =
    alike (λ (x : Map). variants_at x n) (one n.loc.container.map) (other n.loc.container.map) (same n.loc.container.map) e
Extends-by one other same (named.Map id) e = alike_there (one id) (other id) (same id) e

-- a map among those of some crates and holders is as it is among all
among_or : (crates : List Crate) (holders : List ModuleId) (f : Maps) (id : MapId) → (map_in (among crates holders f) id ≡ map_in f id)
    ⊎ (among crates holders f id ≡ None)
among_or crates holders f id = go (among crates holders f id) refl
  where
    go : (o : Option Placed) → among crates holders f id ≡ o → (map_in (among crates holders f) id ≡ map_in f id) ⊎ (among crates holders f id ≡ None)
    go None s = inr s
    go (Some p) s = inl (ap (option_map (λ (x : Placed). x.map)) (s ∙ sym (among-only crates holders f id p s).1))

-- what is there beside the maps of some crates and holders is there beside all
pub Extends-all : (crates : List Crate) (holders : List ModuleId) (f : Maps) (map : Map) → Extends (overlay (among crates holders f) map) (overlay f map)
Extends-all crates holders f map = Extends-by (overlay (among crates holders f) map) (overlay f map) (λ id. go id (map_id.ghosts.eq id map.id))
  where
    go : (id : MapId) (b : Bool)
        → (option_map (λ (p : Placed). p.map) (cond b (Some (placed_in (among crates holders f) map)) (among crates holders f id))
        ≡ option_map (λ (p : Placed). p.map) (cond b (Some (placed_in f map)) (f id)))
        ⊎ (cond b (Some (placed_in (among crates holders f) map)) (among crates holders f id) ≡ None)
    go id true = inl refl
    go id false = among_or crates holders f id

-- a map that names only what is there among the maps of some crates and holders may stand beside all
pub joins : (crates : List Crate) (holders : List ModuleId) (f : Maps) (map : Map) (local : Local)
    → HasNoDanglingReference (overlay (among crates holders f) map) map
    → HasNoDanglingExtern (overlay (among crates holders f) map) local → is_well_formed f map local ≡ true
joins crates holders f map local names begins =
    complete f map local
    (HasNoDanglingReference-more (overlay (among crates holders f) map) (overlay f map) (Extends-all crates holders f map) map names)
    (HasNoDanglingExtern-more (overlay (among crates holders f) map) (overlay f map) (Extends-all crates holders f map) local begins)

-- ---- the maps on which a run stands

-- what is kept of a place names only what is kept of those on which it stands
pub record IsKeptWhole (behind : ℕ → List Crate) (kept : Resolutions) (id : MapId) : Type 0 where
  pub found : Resolution
  pub is : kept_in kept id ≡ Some found
  pub own : found.map.id ≡ id
  pub holders : found.holders ≡ holders_under (finished_by kept) id found.map.holder
  pub names : HasNoDanglingReference (overlay (among (behind id.krate.0) found.holders (finished_by kept)) found.map) found.map
  pub begins : HasNoDanglingExtern (overlay (among (behind id.krate.0) found.holders (finished_by kept)) found.map) found.local

-- the map of a crate among those of some
pub among_at : (crates : List Crate) (kept : Resolutions) (krate : Crate) (found : Resolution) → has_crate crates krate ≡ true → kept_in kept (crate_map krate)
    ≡ Some found → found.holders ≡ []
    → among crates [] (finished_by kept) (crate_map krate) ≡ Some (placed_by found)
among_at crates kept krate found has is alone =
    among-there crates [] (finished_by kept) (crate_map krate) (placed_by found) (is_some_crate crates krate has)
    (ap (option_map placed_by) is) (ap (are_of_some crates []) alone)

-- modules that lie in such maps
of_all : (crates : List Crate) (holders hs : List ModuleId) (id : MapId) → are_of_some crates holders hs ≡ true → holds hs id ≡ true
    → is_of_some crates holders id ≡ true
of_all crates holders [] id all held = clash held refl
of_all crates holders (h ∷ hs) id all held =
    go (λ f. of_all crates holders hs id (and_right (is_of_some crates holders h.map) (are_of_some crates holders hs) all) f) (map_id.ghosts.eq h.map id) refl
    held
  where
    go : (holds hs id ≡ true → is_of_some crates holders id ≡ true) → (b : Bool) → map_id.ghosts.eq h.map id ≡ b → (b || holds hs id) ≡ true
        → is_of_some crates holders id ≡ true
    go behind true same f =
        ap (is_of_some crates holders) (sym (exact_map h.map id same)) ∙ and_left (is_of_some crates holders h.map) (are_of_some crates holders hs) all
    go behind false other f = behind f

-- those that lie in some of the maps lie in more
are_among : (few more : List Crate) (one other : List ModuleId) → ((id : MapId) → is_of_some few one id ≡ true → is_of_some more other id ≡ true)
    → (hs : List ModuleId)
    → are_of_some few one hs ≡ true → are_of_some more other hs ≡ true
are_among few more one other grows [] e = e
are_among few more one other grows (h ∷ hs) e =
    both_true (is_of_some more other h.map) (are_of_some more other hs)
    (grows h.map (and_left (is_of_some few one h.map) (are_of_some few one hs) e))
    (are_among few more one other grows hs (and_right (is_of_some few one h.map) (are_of_some few one hs) e))

module _ (behind : ℕ → List Crate) (kept : Resolutions) (crates : List Crate) (holders : List ModuleId)
    (whole : (id : MapId) (r : Resolution) → kept_in kept id ≡ Some r → IsKeptWhole behind kept id)
    (closed : (id : MapId) (c : Crate) → is_of_some crates holders id ≡ true → has_crate (behind id.krate.0) c ≡ true → has_crate crates c ≡ true) where
  abbrev all : Maps
  all = among crates holders (finished_by kept)

  -- a map on which one of those stands is one of those
  stands_among : (id : MapId) (hs : List ModuleId) → is_of_some crates holders id ≡ true → are_of_some crates holders hs ≡ true → (j : MapId)
      → is_of_some (behind id.krate.0) hs j ≡ true
      → is_of_some crates holders j ≡ true
  stands_among id hs here held j of = elim (of_some (behind id.krate.0) hs j of) [
    | inl crate ↦ is_crate_of_some crates holders j crate.0 (closed id j.krate here crate.1)
    | inr lies ↦ of_all crates holders hs j held lies
  ]

  -- the maps on which a place stands
  abbrev below : (id : MapId) → IsKeptWhole behind kept id → Maps
  below id w = among (behind id.krate.0) w.found.holders (finished_by kept)

  -- what the map of one of those names is there among those
  pub Extends-behind : (id : MapId) (w : IsKeptWhole behind kept id) → is_of_some crates holders id ≡ true → are_of_some crates holders w.found.holders ≡ true
      → Extends (overlay (below id w) w.found.map) all
  Extends-behind id w here held = Extends-by (overlay (below id w) w.found.map) all each
    where
      more : (j : MapId) → is_of_some (behind id.krate.0) w.found.holders j ≡ true → is_of_some crates holders j ≡ true
      more j of = stands_among id w.found.holders here held j of

      own_there : all w.found.map.id ≡ Some (placed_by w.found)
      own_there = ap all w.own ∙ among-there crates holders (finished_by kept) id (placed_by w.found) here (ap (option_map placed_by) w.is) held

      each : (j : MapId) → (map_in (overlay (below id w) w.found.map) j ≡ map_in all j) ⊎ (overlay (below id w) w.found.map j ≡ None)
      each j = on_bool (map_id.ghosts.eq j w.found.map.id)
          (λ e. inl (
          ap (λ (b : Bool). option_map (λ (p : Placed). p.map) (cond b (Some (placed_in (below id w) w.found.map)) (below id w j))) e
          ∙ sym (ap (map_in all) (exact_map j w.found.map.id e) ∙ ap (option_map (λ (p : Placed). p.map)) own_there)))
          (λ e. beside (ap (λ (b : Bool). cond b (Some (placed_in (below id w) w.found.map)) (below id w j)) e) (below id w j) refl)
        where
          beside : overlay (below id w) w.found.map j ≡ below id w j → (o : Option Placed) → below id w j ≡ o
              → (map_in (overlay (below id w) w.found.map) j ≡ map_in all j) ⊎ (overlay (below id w) w.found.map j ≡ None)
          beside at None s = inr (at ∙ s)
          beside at (Some p) s =
              let only = among-only (behind id.krate.0) w.found.holders (finished_by kept) j p s in
              let is : all j ≡ Some p =
              among-there crates holders (finished_by kept) j p (more j only.0) only.1 (are_among (behind id.krate.0) crates w.found.holders holders more
              p.holders only.2) in
              inl (ap (option_map (λ (x : Placed). x.map)) (at ∙ s ∙ sym is))

  -- the holders of one of those are among them
  holders_among : (id : MapId) (o : Option ModuleId) (hs : List ModuleId) → hs ≡ holders_under (finished_by kept) id o → are_of_some crates holders hs ≡ true
      → hs ≡ holders_under all id o
  holders_among id None hs e held = e
  holders_among id (Some h) hs e held = go (same_crate h.map.krate id.krate) (finished_by kept h.map) refl e (all h.map) refl
    where
      go : (b : Bool) (o : Option Placed) → finished_by kept h.map ≡ o → hs ≡ cond (b && is_some o) (h ∷ holders_of o) [] → (a : Option Placed) → all h.map ≡ a
          → hs ≡ cond (b && is_some a) (h ∷ holders_of a) []
      go false o s f a t = f
      go true None s f None t = f
      go true None s f (Some p) t = no_value (sym s ∙ (among-only crates holders (finished_by kept) h.map p t).1)
      go true (Some p) s f a t =
          let both : are_of_some crates holders (h ∷ p.holders) ≡ true = ap (are_of_some crates holders) (sym f) ∙ held in
          let found : all h.map ≡ Some p =
          among-there crates holders (finished_by kept) h.map p (and_left (is_of_some crates holders h.map) (are_of_some crates holders p.holders) both) s
          (and_right (is_of_some crates holders h.map) (are_of_some crates holders p.holders) both) in
          f ∙ ap (λ (x : Option Placed). cond (is_some x) (h ∷ holders_of x) []) (sym found ∙ t)

  -- each of the maps names only what is there
  pub whole-among : AreWellFormed all
  whole-among id placed e =
      let only = among-only crates holders (finished_by kept) id placed e in
      go (kept_in kept id) refl only.1 only.0 only.2
    where
      go : (o : Option Resolution) → kept_in kept id ≡ o → option_map placed_by o ≡ Some placed → is_of_some crates holders id ≡ true
          → are_of_some crates holders placed.holders ≡ true
          → IsWellFormed all id placed
      go None s f here held = no_value f
      go (Some r) s f here held =
          let w = whole id r s in
          let same : r ≡ w.found = one_value (sym s ∙ w.is) in
          let is : placed ≡ placed_by w.found = sym (one_value f) ∙ ap placed_by same in
          let held_too : are_of_some crates holders w.found.holders ≡ true = ap (λ (p : Placed). are_of_some crates holders p.holders) (sym is) ∙ held in
          let more = Extends-behind id w here held_too in
          subst (λ (p : Placed). IsWellFormed all id p) (sym is) (record {
            own = w.own;
            holders = holders_among id w.found.map.holder w.found.holders w.holders held_too;
            names = HasNoDanglingReference-more (overlay (below id w) w.found.map) all more w.found.map w.names;
            begins = HasNoDanglingExtern-more (overlay (below id w) w.found.map) all more w.found.local w.begins;
          })
