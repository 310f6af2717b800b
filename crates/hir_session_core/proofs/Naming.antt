-- A map names those that it follows: those of the crates on which its own depends, and of a block that of its crate and the one in which the module
-- lies that holds it.
use Rattle.std.specs.Prelude.{is_some, map}
use Rattle.std.specs.BTreeMap.{is_at}
use Rattle.std.specs.List.{list_any}
use Rattle.std.proofs.Common.{◌≡◌, ◌≢◌, ◌⊎◌, inl, inr, ◌<◌, true, not, List, Option, Some, None, option_map, arith, sym, ap, ◌∙◌, subst, Contains}
use Rattle.std.proofs.lemmas.List.Folds.{list_any_at}
use Rattle.hir_session_state.specs.HirIds.declared.ast_id.BlockId.{BlockId}
use Rattle.hir_session_state.specs.HirIds.declared.ids.Crate.{Crate}
use Rattle.hir_session_state.specs.HirIds.declared.ids.MapId.{MapId}
use Rattle.hir_session_state.specs.HirIds.declared.ids.ModuleId.{ModuleId}
use Rattle.hir_session_state.specs.HirIds.contracts.ids.MapIdOrd.TheImpl as map_order
use Rattle.hir_session_state.specs.HirIds.contracts.ids.MapIdPartialEq.TheImpl as map_id
use Rattle.hir_session_state.specs.HirDefMapRules.Inner.OverlayLaws.{same_id}
use Rattle.hir_session_state.specs.HirDefMapRules.References.{lies_in, any_reference_in, refers_to, any_own_crate, any_reference}
use Rattle.hir_session_state.specs.HirDefMapRules.References.{prelude_reference, test_crate, test_extern}
use Rattle.hir_session_state.specs.HirDefMapRules.References.{test_of}
use Rattle.hir_session_state.specs.HirDefMapRules.State.{Local, Map, crate_map}
use Rattle.hir_session_state.specs.HirDefMapRules.WellFormed.{is_held_outside}
use Rattle.hir_session_state.specs.HirDefMapRules.declared.reference.Reference.TheVariants as named
use Rattle.hir_session_state.specs.HirCollectorRules.Derivation.{Ends}
use Rattle.hir_session_state.specs.HirCollectorRules.Start.{krate_of}
use Rattle.hir_session_state.specs.HirCrateGraph.CrateSet.{has_crate}
use Rattle.hir_session_state.specs.Crates.{transitive_in}
use Rattle.hir_session_state.specs.Kept.{collected_of}
use Rattle.hir_session_state.specs.SessionState.{SessionState, Resolution, workspace_of, finished_of, follows, kept_of, IsPlace, IsResolutionOf, IsSound}
use Rattle.hir_session_state.specs.SessionState.IsPlace.{of_block, of_crate}
use Rattle.hir_session_state.specs.HirCrateGraph.Dependencies.DependsOn.{directly}
use Rattle.hir_session_state.proofs.Depending.{depended, direct_below, found-any}
use Rattle.hir_session_state.proofs.Following.{behind_block, dependency_behind}
use Rattle.hir_session_state.proofs.Ids.{of_number, other_id, own_id}
use Rattle.hir_session_state.proofs.Standing.{kept_gives, unmarked}
use Rattle.hir_session_state.proofs.Truth.{both_true, clash, no_value, one_value, or_left, or_right}
use Rattle.hir_session_state.proofs.Worlds.{AgreeOn-refl, kept_transitive}
use Rattle.std.proofs.lemmas.Bool.{eqb-true}

module _ (m : Map) (local : Local) (id : MapId) (ne : id ≢ m.id) where
  -- what is found behind modules and the prelude
  behind_prelude : (test_of (lies_in id) (option_map named.Module m.holder) ≡ true) ⊎ ((list_any (test_crate (lies_in id)) m.crate_data.dependencies ≡ true)
      ⊎ (any_own_crate (lies_in id) m.id ≡ true))
      → refers_to m local id ≡ true
  behind_prelude found =
      both_true (not (is_at (map_order.ghosts.cmp m.id) id)) (any_reference (lies_in id) m local)
      (ap not (other_id m.id id ne))
      (or_right (list_any (any_reference_in (lies_in id)) m.modules) _
      (or_right (test_of (lies_in id) (prelude_reference m.prelude)) _
      (elim found [
        | inl held ↦ or_left (test_of (lies_in id) (option_map named.Module m.holder)) _ held
        | inr other ↦
            or_right (test_of (lies_in id) (option_map named.Module m.holder)) _
            (or_right (list_any (test_extern (lies_in id)) local) _
            (elim other [
              | inl depended ↦ or_left (list_any (test_crate (lies_in id)) m.crate_data.dependencies) (any_own_crate (lies_in id) m.id) depended
              | inr own ↦ or_right (list_any (test_crate (lies_in id)) m.crate_data.dependencies) (any_own_crate (lies_in id) m.id) own
            ]))
      ])))

-- a map names the other maps of the crates in its data
names_data : (m : Map) (local : Local) (c : Crate) → Contains m.crate_data.dependencies c → crate_map c ≢ m.id → refers_to m local (crate_map c) ≡ true
names_data m local c among ne = behind_prelude m local (crate_map c) ne (inr (inl
    (list_any_at (test_crate (lies_in (crate_map c))) m.crate_data.dependencies among.0 c among.1
    (subst (λ (x : Crate). test_crate (lies_in (crate_map c)) x ≡ true) (sym among.2) (own_id (crate_map c))))))

-- the map in which the module lies that holds it
names_holder : (m : Map) (local : Local) (h : ModuleId) → m.holder ≡ Some h → h.map ≢ m.id → refers_to m local h.map ≡ true
names_holder m local h held ne =
    behind_prelude m local h.map ne (inl (ap (λ (o : Option ModuleId). test_of (lies_in h.map) (option_map named.Module o)) held ∙ own_id h.map))

-- and that of its crate, where it is a block's
names_crate : (m : Map) (local : Local) (b : BlockId) → m.id.block ≡ Some b → refers_to m local (crate_map m.id.krate) ≡ true
names_crate m local b of = behind_prelude m local (crate_map m.id.krate) (λ e. no_value (ap (λ (x : MapId). x.block) e ∙ of)) (inr (inr
    (both_true (is_some m.id.block) (test_crate (lies_in (crate_map m.id.krate)) m.id.krate) (ap (λ (o : Option BlockId). is_some o) of)
    (own_id (crate_map m.id.krate)))))

-- a holder outside of a map lies in another
lies_outside : (id : MapId) (o : Option ModuleId) (h : ModuleId) → o ≡ Some h → is_held_outside id o ≡ true → h.map ≢ id
lies_outside id o h held outside e =
    clash (sym (ap (λ (x : Option ModuleId). is_held_outside id x) held) ∙ outside)
    (ap not (subst (λ (x : MapId). map_id.ghosts.eq h.map x ≡ true) e (same_id h.map)))

-- a crate that is found is listed
pub listed_crate : (crates : List Crate) (c : Crate) → has_crate crates c ≡ true → Contains crates c
listed_crate crates c has =
    let found = found-any _ crates has in
    let same : c.0 ≡ found.0.0 = eqb-true c.0 found.0.0 found.2 in
    let is : found.0 ≡ c = λ i. record { 0 = sym same i } in
    subst (λ (x : Crate). Contains crates x) is found.1

module _ (s : SessionState) (sound : IsSound s) (id : MapId) (r : Resolution) (is : kept_of s id ≡ Some r) where
  abbrev gives : IsResolutionOf s id r
  gives = kept_gives s sound id r is

  -- what its run comes to
  pub kept_ended : Ends s.tables (workspace_of s) (finished_of s) gives.from (collected_of r)
  kept_ended = gives.resolved.ends (workspace_of s) (finished_of s) AgreeOn-refl

  pub kept_krate : krate_of gives.from.start ≡ id.krate
  kept_krate = ap (λ (x : MapId). x.krate) (sym kept_ended.own ∙ gives.own)

  -- it has the crates on which its own stands
  pub kept_dependencies : r.map.crate_data.dependencies ≡ transitive_in s.crates id.krate.0
  kept_dependencies = kept_transitive s id r gives

  named_of_crate : id.block ≡ None → (d : MapId) → Contains (follows s id) d → refers_to r.map r.local d ≡ true
  named_of_crate none d among =
      let c = dependency_behind s id.krate d (subst (λ (x : MapId). Contains (follows s x) d) (of_number id none) among) in
      let behind : has_crate (transitive_in s.crates id.krate.0) c.0 ≡ true = (depended sound id.krate.0 c.0).1 (directly id.krate.0 c.0 c.1) in
      let lower : c.0.0 < id.krate.0 = direct_below s id.krate.0 c.0 c.1 in
      subst (λ (x : MapId). refers_to r.map r.local x ≡ true) (sym c.2)
      (names_data r.map r.local c.0 (subst (λ (cs : List Crate). Contains cs c.0) (sym kept_dependencies)
      (listed_crate (transitive_in s.crates id.krate.0) c.0 behind))
      (λ same. let number : c.0.0 ≡ id.krate.0 = ap (λ (x : MapId). x.krate.0) (same ∙ gives.own) in absurd (omega arith)))

  named_of_block : (b : BlockId) → id.block ≡ Some b → (d : MapId) → Contains (follows s id) d → refers_to r.map r.local d ≡ true
  named_of_block b of d among = elim (behind_block s id b of d among) [
    | inl own ↦ subst (λ (x : MapId). refers_to r.map r.local x ≡ true) (ap (λ (x : MapId). crate_map x.krate) gives.own ∙ sym own)
        (names_crate r.map r.local b (ap (λ (x : MapId). x.block) gives.own ∙ of))
    | inr h ↦
        let same : h.found ≡ r = one_value (sym h.is ∙ is) in
        let held : r.map.holder ≡ Some h.holder = subst (λ (x : Resolution). x.map.holder ≡ Some h.holder) same h.held in
        subst (λ (x : MapId). refers_to r.map r.local x ≡ true) (sym h.at)
        (names_holder r.map r.local h.holder held (lies_outside r.map.id r.map.holder h.holder held gives.names.outside))
  ]

  -- what is kept of a place names the maps that this follows
  pub names-behind : (d : MapId) → Contains (follows s id) d → refers_to r.map r.local d ≡ true
  names-behind d among = go (sound.placed id (unmarked s id r is))
    where
      go : IsPlace s id → refers_to r.map r.local d ≡ true
      go (of_crate none within) = named_of_crate none d among
      go (of_block b place of means own within set) = named_of_block b of d among
