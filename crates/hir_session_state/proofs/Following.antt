-- The maps that a place follows: those of the crates on which its crate depends, or of a block that of its crate and that in which its holder lies.
use Rattle.std.specs.Prelude.{map}
use Rattle.std.proofs.Common.{◌≡◌, ◌⊎◌, inl, inr, ℕ, zero, suc, ◌<◌, false, Option, Some, None, List, [], ◌∷◌, length, arith, refl, ap, sym, subst, Contains}
use Rattle.hir_collector_rules.specs.HirIds.declared.ast_id.BlockId.{BlockId}
use Rattle.hir_collector_rules.specs.HirIds.declared.ids.Crate.{Crate}
use Rattle.hir_collector_rules.specs.HirIds.declared.ids.MapId.{MapId}
use Rattle.hir_collector_rules.specs.HirIds.declared.ids.ModuleId.{ModuleId}
use Rattle.hir_collector_rules.specs.HirDefMapRules.State.{crate_map}
use Rattle.hir_session_state.specs.Crates.{dependencies_in, id_of}
use Rattle.hir_session_state.specs.SessionState.{SessionState, Resolution, dependencies_of, follows, follows_by, held_maps, holder_maps, is_marked, kept_of}
use Rattle.hir_session_state.specs.SessionState.{IsSound}
use Rattle.hir_collector_rules.specs.HirCrateGraph.Dependencies.{DependsOn}
use Rattle.hir_collector_rules.specs.HirCrateGraph.Dependencies.DependsOn.{directly, through}
use Rattle.hir_session_state.specs.Spread.{Spread}
use Rattle.hir_session_state.specs.Spread.Spread.{depends}

mapped : (cs : List Crate) (c : Crate) → Contains cs c → Contains (map crate_map cs) (crate_map c)
mapped [] c h = absurd (let past : h.0 < 0 = h.1 in omega arith)
mapped (x ∷ xs) c (zero, within, is) = (zero, omega arith, ap crate_map is)
mapped (x ∷ xs) c (suc n, within, is) =
    let rest = mapped xs c (n, omega arith, is) in
    (suc rest.0, (let below : rest.0 < length (map crate_map xs) = rest.1 in omega arith), rest.2)

of_mapped : (cs : List Crate) (id : MapId) → Contains (map crate_map cs) id → (c : Crate) × Contains cs c × (id ≡ crate_map c)
of_mapped [] id h = absurd (let past : h.0 < 0 = h.1 in omega arith)
of_mapped (c ∷ cs) id (zero, within, is) = (c, (zero, omega arith, refl), sym is)
of_mapped (c ∷ cs) id (suc n, within, is) =
    let rest = of_mapped cs id (n, omega arith, is) in
    (rest.0, (suc rest.1.0, (let below : rest.1.0 < length cs = rest.1.1 in omega arith), rest.1.2), rest.2)

-- ---- of a crate

-- the map of a dependency is followed
pub followed : (s : SessionState) (krate d : Crate) → Contains (dependencies_in s.crates krate.0) d → Contains (follows s (crate_map krate)) (crate_map d)
followed s krate d among = mapped (dependencies_in s.crates krate.0) d among

-- and what is followed is the map of a dependency
pub dependency_behind : (s : SessionState) (krate : Crate) (d : MapId) → Contains (follows s (crate_map krate)) d → (c : Crate)
    × Contains (dependencies_in s.crates krate.0) c × (d ≡ crate_map c)
dependency_behind s krate d among = of_mapped (dependencies_in s.crates krate.0) d among

-- the map of a dependency of an unmarked crate is unmarked
pub follows_unmarked : {s : SessionState} → IsSound s → (k : ℕ) (d : Crate) → is_marked s (id_of k) ≡ false → Contains (dependencies_of s k) d
    → is_marked s (crate_map d) ≡ false
follows_unmarked {s} sound k d off among = sound.closed (id_of k) (crate_map d) off (followed s (record { 0 = k }) d among)

-- what is spread to the map of a crate is spread to those of all that stand on it
pub spread_on : (s : SessionState) {P : MapId → Type 0} {k i : ℕ} → DependsOn (dependencies_of s) k i → Spread (follows s) P (id_of i)
    → Spread (follows s) P (id_of k)
spread_on s (directly k d among) sp = depends (id_of k) (crate_map d) (followed s (record { 0 = k }) d among) sp
spread_on s (through k j d among rest) sp = depends (id_of k) (crate_map d) (followed s (record { 0 = k }) d among) (spread_on s rest sp)

-- ---- of a block

-- the map of its crate is followed
pub followed_crate : (s : SessionState) (id : MapId) (b : BlockId) → id.block ≡ Some b → Contains (follows s id) (crate_map id.krate)
followed_crate s id b of = subst (λ (o : Option BlockId). Contains (follows_by s id o) (crate_map id.krate)) (sym of) (zero, omega arith, refl)

-- so is that in which the module lies that holds what is kept of it
pub followed_holder : (s : SessionState) (id : MapId) (b : BlockId) (r : Resolution) (h : ModuleId) → id.block ≡ Some b → kept_of s id ≡ Some r → r.map.holder
    ≡ Some h
    → Contains (follows s id) h.map
followed_holder s id b r h of is held =
    subst (λ (o : Option BlockId). Contains (follows_by s id o) h.map) (sym of)
    (subst (λ (o : Option Resolution). Contains (crate_map id.krate ∷ held_maps o) h.map) (sym is)
    (subst (λ (o : Option ModuleId). Contains (crate_map id.krate ∷ holder_maps o) h.map) (sym held) (suc zero, omega arith, refl)))

-- and nothing else is
pub record IsHolderMap (s : SessionState) (id d : MapId) : Type 0 where
  pub found : Resolution
  pub is : kept_of s id ≡ Some found
  pub holder : ModuleId
  pub held : found.map.holder ≡ Some holder
  pub at : d ≡ holder.map

pub behind_block : (s : SessionState) (id : MapId) (b : BlockId) → id.block ≡ Some b → (d : MapId) → Contains (follows s id) d → (d ≡ crate_map id.krate)
    ⊎ IsHolderMap s id d
behind_block s id b of d among = go (subst (λ (o : Option BlockId). Contains (follows_by s id o) d) of among)
  where
    none : {A : Type 0} → Contains [] d → A
    none h = absurd (let past : h.0 < 0 = h.1 in omega arith)

    in_holder : (r : Resolution) → kept_of s id ≡ Some r → (o : Option ModuleId) → r.map.holder ≡ o → Contains (holder_maps o) d → IsHolderMap s id d
    in_holder r kept None held h = none h
    in_holder r kept (Some m) held (zero, below, same) = record { found = r; is = kept; holder = m; held = held; at = sym same }
    in_holder r kept (Some m) held (suc k, below, same) = absurd (let past : suc k < 1 = below in omega arith)

    in_kept : (o : Option Resolution) → kept_of s id ≡ o → Contains (held_maps o) d → IsHolderMap s id d
    in_kept None kept h = none h
    in_kept (Some r) kept h = in_holder r kept r.map.holder refl h

    go : Contains (crate_map id.krate ∷ held_maps (kept_of s id)) d → (d ≡ crate_map id.krate) ⊎ IsHolderMap s id d
    go (zero, within, is) = inl (sym is)
    go (suc n, within, is) = inr (in_kept (kept_of s id) refl (n, omega arith, is))
