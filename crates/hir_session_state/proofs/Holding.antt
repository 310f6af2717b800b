-- The modules that hold a block are kept, and what is kept of a block knows them all.
use Rattle.std.proofs.Common.{◌≡◌, ◌∙◌, ap, sym, subst, refl, zero, suc, ◌<◌, Bool, true, false, not, ◌&&◌, ◌||◌, cond, is_some, Option, Some, None, option_map}
use Rattle.std.proofs.Common.{List, [], ◌∷◌, arith, Contains}
use Rattle.std.specs.Option.{option_and_then}
use Rattle.hir_collector_rules.specs.HirIds.contracts.ids.MapIdPartialEq.TheImpl as map_id
use Rattle.hir_collector_rules.specs.HirIds.declared.ast_id.BlockId.{BlockId}
use Rattle.hir_collector_rules.specs.HirIds.declared.ids.Crate.{Crate}
use Rattle.hir_collector_rules.specs.HirIds.declared.ids.MapId.{MapId}
use Rattle.hir_collector_rules.specs.HirIds.declared.ids.ModuleId.{ModuleId}
use Rattle.hir_collector_rules.specs.HirPerNs.ModuleTree.{same_crate}
use Rattle.hir_collector_rules.specs.HirNameres.Inner.PartLaws.{among-only}
use Rattle.hir_collector_rules.specs.HirDefMapRules.Inner.OverlayLaws.{exact_crate, exact_map, same_id}
use Rattle.hir_collector_rules.specs.HirDefMapRules.Overlay.{Maps, Placed, holders_of, holders_under, module_in, overlay, placed_in}
use Rattle.hir_collector_rules.specs.HirDefMapRules.References.{is_holder_for}
use Rattle.hir_collector_rules.specs.HirDefMapRules.State.{crate_map, module_at}
use Rattle.hir_collector_rules.specs.HirDefMapRules.WellFormed.{is_held_outside}
use Rattle.hir_collector_rules.specs.Start.{Beginning, holders_by}
use Rattle.hir_session_state.specs.Crates.{transitive_in}
use Rattle.hir_session_state.specs.Kept.{Resolution, placed_by}
use Rattle.hir_session_state.specs.SessionState.{SessionState, beginning_by, finished_of, follows, kept_of, read_under, IsResolutionOf, IsSound}
use Rattle.hir_session_state.proofs.Following.{followed_holder}
use Rattle.hir_session_state.proofs.Names.{holds}
use Rattle.hir_session_state.proofs.Standing.{IsBlockBegun, block_begun, crate_unheld, holder_begun, kept_gives}
use Rattle.hir_session_state.proofs.Truth.{and_left, and_right, clash, no_value, on_bool, one_value, or_first, or_left, or_right}

-- ---- one holder

-- the module that holds what is found of a place lies in a map of the crate that is kept, and the modules that hold that hold this too
pub record IsHolderKept (s : SessionState) (id : MapId) (r : Resolution) (h : ModuleId) : Type 0 where
  pub same : same_crate h.map.krate id.krate ≡ true
  pub krate : h.map.krate ≡ id.krate
  pub found : Resolution
  pub is : kept_of s h.map ≡ Some found
  pub module_ : is_some (module_at found.map h.index) ≡ true
  pub holders : r.holders ≡ h ∷ found.holders

module _ (s : SessionState) (id : MapId) (r : Resolution) (p : IsResolutionOf s id r) where
  abbrev read : Maps
  read = read_under s id r.holders

  -- a holder lies in a map that is read
  read_there : (h : ModuleId) → r.map.holder ≡ Some h → (same_crate h.map.krate id.krate ≡ true) × (is_some (module_in read h) ≡ true)
  read_there h held =
      let there : is_holder_for (overlay read r.map) r.map.id (Some h) ≡ true = ap (is_holder_for (overlay read r.map) r.map.id) (sym held) ∙ p.names.held in
      let out : not (map_id.ghosts.eq h.map r.map.id) ≡ true = ap (is_held_outside r.map.id) (sym held) ∙ p.names.outside in
      let one : same_crate h.map.krate r.map.id.krate ≡ true = and_left (same_crate h.map.krate r.map.id.krate) (is_some (module_in (overlay read r.map) h))
      there in
      let other : is_some (module_in (overlay read r.map) h) ≡ true = and_right (same_crate h.map.krate r.map.id.krate)
      (is_some (module_in (overlay read r.map) h)) there in (
        ap (λ (x : MapId). same_crate h.map.krate x.krate) (sym p.own) ∙ one,
        ap (λ (b : Bool). is_some (option_and_then (λ (q : Placed). module_at q.map h.index) (cond b (Some (placed_in read r.map)) (read h.map))))
            (sym (off (map_id.ghosts.eq h.map r.map.id) out)) ∙ other,
      )
    where
      off : (b : Bool) → not b ≡ true → b ≡ false
      off true f = clash f refl
      off false f = refl

  pub holder_kept : (h : ModuleId) → r.map.holder ≡ Some h → IsHolderKept s id r h
  holder_kept h held =
      let there = read_there h held in
      go there.0 (read h.map) refl there.1
    where
      holders_there : same_crate h.map.krate id.krate ≡ true → (f : Resolution) → kept_of s h.map ≡ Some f → r.holders ≡ h ∷ f.holders
      holders_there same f is =
          p.holders
          ∙ ap (holders_under (finished_of s) r.map.id) held
          ∙ ap (λ (x : MapId). holders_under (finished_of s) x (Some h)) p.own
          ∙ ap (λ (b : Bool). cond (b && is_some (finished_of s h.map)) (h ∷ holders_of (finished_of s h.map)) []) same
          ∙ ap (λ (o : Option Resolution). cond (is_some (option_map placed_by o)) (h ∷ holders_of (option_map placed_by o)) []) is

      kept : same_crate h.map.krate id.krate ≡ true → (q : Placed) → is_some (module_at q.map h.index) ≡ true → (o : Option Resolution) → kept_of s h.map ≡ o
          → option_map placed_by o ≡ Some q
          → IsHolderKept s id r h
      kept same q there None is e = no_value e
      kept same q there (Some f) is e = record {
        same = same;
        krate = exact_crate h.map.krate id.krate same;
        found = f;
        is = is;
        module_ = ap (λ (x : Placed). is_some (module_at x.map h.index)) (one_value e) ∙ there;
        holders = holders_there same f is;
      }

      go : same_crate h.map.krate id.krate ≡ true → (o : Option Placed) → read h.map ≡ o → is_some (option_and_then (λ (q : Placed). module_at q.map h.index) o)
          ≡ true → IsHolderKept s id r h
      go same None e there = clash there refl
      go same (Some q) e there =
          let only = among-only (transitive_in s.crates id.krate.0) r.holders (finished_of s) h.map q e in
          kept same q there (kept_of s h.map) refl only.1

  -- a crate has none
  pub crate_holders : id.block ≡ None → r.holders ≡ []
  crate_holders of =
      let alone : r.map.holder ≡ None = p.holder ∙ crate_unheld s id.krate p.from (subst (λ (o : Option BlockId). beginning_by s id.krate o ≡ Some p.from) of
      p.begun) in
      p.holders ∙ ap (holders_under (finished_of s) r.map.id) alone

  -- a block has one
  pub record IsHeldByOne (b : BlockId) : Type 0 where
    pub begun : IsBlockBegun s id.krate b p.from
    pub held : r.map.holder ≡ Some begun.holder
    pub kept : IsHolderKept s id r begun.holder

  pub block_held : (b : BlockId) → id.block ≡ Some b → IsHeldByOne b
  block_held b of =
      let begun = block_begun s id.krate b p.from (subst (λ (o : Option BlockId). beginning_by s id.krate o ≡ Some p.from) of p.begun) in
      let held : r.map.holder ≡ Some begun.holder = p.holder ∙ holder_begun s id.krate b p.from begun in
      record { begun = begun; held = held; kept = holder_kept begun.holder held }

  -- only a block has one
  pub held_block : (h : ModuleId) → r.map.holder ≡ Some h → (b : BlockId) × (id.block ≡ Some b)
  held_block h held = go id.block refl
    where
      go : (o : Option BlockId) → id.block ≡ o → (b : BlockId) × (id.block ≡ Some b)
      go None of =
          no_value (sym (p.holder ∙ crate_unheld s id.krate p.from (subst (λ (o : Option BlockId). beginning_by s id.krate o ≡ Some p.from) of p.begun)) ∙ held)
      go (Some b) of = (b, of)

  -- the first of several holders is the holder
  pub first_holder : (h : ModuleId) (hs : List ModuleId) → r.holders ≡ h ∷ hs → (r.map.holder ≡ Some h)
      × ((f : Resolution) → kept_of s h.map ≡ Some f → f.holders ≡ hs)
  first_holder h hs e = go r.map.holder refl
    where
      go : (o : Option ModuleId) → r.map.holder ≡ o → (r.map.holder ≡ Some h) × ((f : Resolution) → kept_of s h.map ≡ Some f → f.holders ≡ hs)
      go None held = absurd (let wrong : h ∷ hs ≡ [] = sym e ∙ p.holders ∙ ap (holders_under (finished_of s) r.map.id) held in let no : ⊥ = cc in no)
      go (Some g) held =
          let k = holder_kept g held in
          let both : g ∷ k.found.holders ≡ h ∷ hs = sym k.holders ∙ e in
          let same : g ≡ h = (cc) in
          let rest : k.found.holders ≡ hs = (cc) in (
            held ∙ ap (λ (x : ModuleId). Some x) same,
            λ f is. ap (λ (x : Resolution). x.holders) (one_value (sym is ∙ ap (λ (x : ModuleId). kept_of s x.map) (sym same) ∙ k.is)) ∙ rest,
          )

  -- those that hold it are those that hold what its run begins with
  pub start_holders : r.holders ≡ holders_by (finished_of s) p.from.start
  start_holders = go id.block refl
    where
      go : (o : Option BlockId) → id.block ≡ o → r.holders ≡ holders_by (finished_of s) p.from.start
      go None of =
          let begun = one_value (subst (λ (o : Option BlockId). beginning_by s id.krate o ≡ Some p.from) of p.begun) in
          crate_holders of ∙ ap (λ (x : Beginning). holders_by (finished_of s) x.start) begun
      go (Some b) of =
          let one = block_held b of in
          one.kept.holders
          ∙ sym (ap (λ (o : Option Resolution). one.begun.holder ∷ holders_of (option_map placed_by o)) one.kept.is)
          ∙ ap (λ (x : Beginning). holders_by (finished_of s) x.start) one.begun.is

-- ---- all holders

-- a module of a crate lies in its map, or in that of a block
pub own_first : (x : ModuleId) (rest : Bool) (krate : Crate) → x.map.krate ≡ krate → ((c : BlockId) → x.map.block ≡ Some c → rest ≡ true)
    → (map_id.ghosts.eq x.map (crate_map krate) || rest) ≡ true
own_first x rest krate same later = go x.map.block refl
  where
    go : (o : Option BlockId) → x.map.block ≡ o → (map_id.ghosts.eq x.map (crate_map krate) || rest) ≡ true
    go None of =
        let is : x.map ≡ crate_map krate = λ i. record { krate = same i; block = of i } in
        or_left (map_id.ghosts.eq x.map (crate_map krate)) rest (ap (λ (m : MapId). map_id.ghosts.eq m (crate_map krate)) is ∙ same_id (crate_map krate))
    go (Some c) of = or_right (map_id.ghosts.eq x.map (crate_map krate)) rest (later c of)

module _ (s : SessionState) (sound : IsSound s) where
  -- the holder of what is kept, and what is kept of its map
  record IsFirst (id : MapId) (r : Resolution) (h : ModuleId) (hs : List ModuleId) : Type 0 where
    pub block : BlockId
    pub of : id.block ≡ Some block
    pub held : r.map.holder ≡ Some h
    pub kept : IsHolderKept s id r h
    pub rest : kept.found.holders ≡ hs

  first_of : (id : MapId) (r : Resolution) → kept_of s id ≡ Some r → (h : ModuleId) (hs : List ModuleId) → r.holders ≡ h ∷ hs → IsFirst id r h hs
  first_of id r is h hs e =
      let p = kept_gives s sound id r is in
      let first = first_holder s id r p h hs e in
      let block = held_block s id r p h first.0 in
      let kept = holder_kept s id r p h first.0 in
      record { block = block.0; of = block.1; held = first.0; kept = kept; rest = first.1 kept.found kept.is }

  -- what holds of a place and, with a place, of those that it follows, holds of the maps in which its holders lie
  pub holders_hold : {P : MapId → Type 0} → ((id d : MapId) → P id → Contains (follows s id) d → P d) → (hs : List ModuleId) (id : MapId) (r : Resolution)
      → kept_of s id ≡ Some r → r.holders ≡ hs
      → P id → (h : ModuleId) → Contains hs h → P h.map
  holders_hold outwards [] id r is e p h among = absurd (let past : among.0 < 0 = among.1 in omega arith)
  holders_hold {P} outwards (x ∷ xs) id r is e p h (zero, within, same) =
      let first = first_of id r is x xs e in
      subst (λ (m : ModuleId). P m.map) same (outwards id x.map p (followed_holder s id first.block r x first.of is first.held))
  holders_hold {P} outwards (x ∷ xs) id r is e p h (suc n, within, same) =
      let first = first_of id r is x xs e in
      holders_hold {P = P} outwards xs x.map first.kept.found first.kept.is first.rest
      (outwards id x.map p (followed_holder s id first.block r x first.of is first.held)) h (n, omega arith, same)

  -- all of them lie in maps of one crate
  pub same_krate : (hs : List ModuleId) (h : ModuleId) (r : Resolution) → kept_of s h.map ≡ Some r → r.holders ≡ hs → (id : MapId) → holds (h ∷ hs) id ≡ true
      → id.krate ≡ h.map.krate
  same_krate [] h r is e id lies = on_bool (map_id.ghosts.eq h.map id)
      (λ same. sym (ap (λ (x : MapId). x.krate) (exact_map h.map id same)))
      (λ other. clash (or_first (map_id.ghosts.eq h.map id) false lies other) refl)
  same_krate (x ∷ xs) h r is e id lies = on_bool (map_id.ghosts.eq h.map id)
      (λ same. sym (ap (λ (x : MapId). x.krate) (exact_map h.map id same)))
      (λ other.
      let first = first_of h.map r is x xs e in
      same_krate xs x first.kept.found first.kept.is first.rest id (or_first (map_id.ghosts.eq h.map id) (holds (x ∷ xs) id) lies other) ∙ first.kept.krate)

  -- one of them lies in the map of the block's crate
  pub in_own_crate : (hs : List ModuleId) (id : MapId) (r : Resolution) (b : BlockId) → kept_of s id ≡ Some r → r.holders ≡ hs → id.block ≡ Some b
      → holds hs (crate_map id.krate) ≡ true
  in_own_crate [] id r b is e of =
      let one = block_held s id r (kept_gives s sound id r is) b of in
      absurd (let wrong : [] ≡ one.begun.holder ∷ one.kept.found.holders = sym e ∙ one.kept.holders in let no : ⊥ = cc in no)
  in_own_crate (x ∷ xs) id r b is e of =
      let first = first_of id r is x xs e in
      own_first x (holds xs (crate_map id.krate)) id.krate first.kept.krate
      (λ c on. ap (λ (k : Crate). holds xs (crate_map k)) (sym first.kept.krate) ∙ in_own_crate xs x.map first.kept.found c first.kept.is first.rest on)
