-- The maps that a place reads are those of places of which something is kept, and each of those stands further down.
use Rattle.std.specs.Prelude.{is_some}
use Rattle.std.specs.List.{list_any}
use Rattle.std.specs.Option.{option_and_then}
use Rattle.std.proofs.Common.{◌≡◌, inl, inr, ◌∙◌, ap, sym, subst, refl, ℕ, zero, suc, ◌+◌, ◌<◌, Bool, true, false, not, ◌&&◌, ◌||◌, Option, Some, None}
use Rattle.std.proofs.Common.{option_map, List, [], ◌∷◌, length, arith, Contains}
use Rattle.hir_session_state.specs.HirIds.contracts.ids.MapIdPartialEq.TheImpl as map_id
use Rattle.hir_session_state.specs.HirIds.declared.ast_id.BlockId.{BlockId}
use Rattle.hir_session_state.specs.HirIds.declared.ids.Crate.{Crate}
use Rattle.hir_session_state.specs.HirIds.declared.ids.MapId.{MapId}
use Rattle.hir_session_state.specs.HirIds.declared.ids.ModuleId.{ModuleId}
use Rattle.hir_session_state.specs.HirCrateGraph.CrateSet.{has_crate}
use Rattle.hir_session_state.specs.HirCollectorRules.Derivation.{Ends}
use Rattle.hir_session_state.specs.HirCollectorRules.Start.{id_of as start_id, krate_of}
use Rattle.hir_session_state.specs.HirCollectorRules.Workspace.{dependencies_in}
use Rattle.hir_session_state.specs.HirCollectorRules.declared.source_database.Dependency.{Dependency}
use Rattle.hir_session_state.specs.HirDefCollectorLaws.Whole.{StandsOnWhole}
use Rattle.hir_session_state.specs.HirNameres.Inner.PartLaws.{among-only, among-there}
use Rattle.hir_session_state.specs.HirNameres.WorldParts.{are_of_some, is_of_some}
use Rattle.hir_session_state.specs.HirDefMapRules.Inner.OverlayLaws.{exact_map}
use Rattle.hir_session_state.specs.HirDefMapRules.Overlay.{Maps, Placed, module_in, overlay}
use Rattle.hir_session_state.specs.HirDefMapRules.References.{any_own_crate, is_holder_for, is_missing, test_crate}
use Rattle.hir_session_state.specs.HirDefMapRules.State.{crate_map, module_at}
use Rattle.hir_session_state.specs.HirDefMapRules.WellFormed.{AreWellFormed, Extends}
use Rattle.hir_session_state.specs.Crates.{transitive_in}
use Rattle.hir_session_state.specs.HirPerNs.ModuleTree.{same_crate}
use Rattle.hir_session_state.specs.Kept.{Resolution, collected_of, placed_by}
use Rattle.hir_session_state.specs.SessionState.{SessionState, finished_of, is_marked, kept_of, read_under, workspace_of, IsResolutionOf, IsSound}
use Rattle.hir_session_state.proofs.Depending.{depended, direct_below}
use Rattle.hir_session_state.proofs.Following.{followed_crate}
use Rattle.hir_session_state.proofs.Holding.{crate_holders, first_holder, holder_kept, in_own_crate, same_krate}
use Rattle.hir_session_state.proofs.Names.{Extends-behind, holds, is_held_of_some, of_some, whole-among}
use Rattle.hir_session_state.proofs.Resolving.{behind_unmarked, holds_listed, kept_there, kept_whole, stands_behind, stands_direct}
use Rattle.hir_session_state.proofs.Standing.{kept_gives, unmarked}
use Rattle.hir_session_state.proofs.Truth.{both_true, clash, no_value, on_bool, one_value}
use Rattle.hir_session_state.proofs.Worlds.{AgreeOn-refl, DependsOn-below, DependsOn-trans}

-- how far up a place stands: above all crates on which its crate does, and above the blocks around it
abbrev pub rank : MapId → Resolution → ℕ
rank id r = id.krate.0 + length r.holders

module _ (s : SessionState) (sound : IsSound s) where
  -- ---- maps in which holders lie

  held_krate : (hs : List ModuleId) (id : MapId) (r : Resolution) → kept_of s id ≡ Some r → r.holders ≡ hs → (j : MapId) → holds hs j ≡ true → j.krate
      ≡ id.krate
  held_krate [] id r is e j held = clash held refl
  held_krate (x ∷ xs) id r is e j held =
      let p = kept_gives s sound id r is in
      let first = first_holder s id r p x xs e in
      let kept = holder_kept s id r p x first.0 in
      same_krate s sound xs x kept.found kept.is (first.1 kept.found kept.is) j held ∙ kept.krate

  -- fewer modules hold such a map
  held_fewer : (hs : List ModuleId) (id : MapId) (r : Resolution) → kept_of s id ≡ Some r → r.holders ≡ hs → (j : MapId) → holds hs j ≡ true → (f : Resolution)
      → kept_of s j ≡ Some f
      → length f.holders < length hs
  held_fewer [] id r is e j held f there = clash held refl
  held_fewer (x ∷ xs) id r is e j held f there =
      let p = kept_gives s sound id r is in
      let first = first_holder s id r p x xs e in
      let kept = holder_kept s id r p x first.0 in
      on_bool (map_id.ghosts.eq x.map j)
      (λ same.
      let rest : f.holders ≡ xs = first.1 f (ap (kept_of s) (exact_map x.map j same) ∙ there) in
      let fewer : length f.holders ≡ length xs = ap (λ (ms : List ModuleId). length ms) rest in
      omega arith)
      (λ other.
      let later : holds xs j ≡ true = sym (ap (λ (b : Bool). b || holds xs j) other) ∙ held in
      let fewer : length f.holders < length xs = held_fewer xs x.map kept.found kept.is (first.1 kept.found kept.is) j later f there in
      omega arith)

  -- ---- what is kept names only what is kept

  abbrev behind : ℕ → List Crate
  behind k = transitive_in s.crates k

  module _ (id : MapId) (r : Resolution) (is : kept_of s id ≡ Some r) where
    abbrev read : Maps
    read = read_under s id r.holders

    closed : (j : MapId) (c : Crate) → is_of_some (behind id.krate.0) r.holders j ≡ true → has_crate (behind j.krate.0) c ≡ true → has_crate (behind id.krate.0)
        c ≡ true
    closed j c of has = elim (of_some (behind id.krate.0) r.holders j of) [
      | inl crate ↦ (depended sound id.krate.0 c).1 (DependsOn-trans ((depended sound id.krate.0 j.krate).0 crate.1) ((depended sound j.krate.0 c).0 has))
      | inr held ↦ ap (λ (k : Crate). has_crate (behind k.0) c) (sym (held_krate r.holders id r is refl j held)) ∙ has
    ]

    -- what a place reads names only what it reads
    pub read_whole : AreWellFormed read
    read_whole = whole-among behind s.kept (behind id.krate.0) r.holders (kept_whole s sound) closed

    -- a map that it reads is kept, with all that is there beside what that reads
    pub record IsRead (j : MapId) (placed : Placed) : Type 0 where
      pub found : Resolution
      pub is_kept : kept_of s j ≡ Some found
      pub map : placed ≡ placed_by found
      pub extends : Extends (overlay (read_under s j found.holders) found.map) read
      pub lower : rank j found < rank id r

    lower_there : (j : MapId) (f : Resolution) → kept_of s j ≡ Some f → is_of_some (behind id.krate.0) r.holders j ≡ true → rank j f < rank id r
    lower_there j f there of = elim (of_some (behind id.krate.0) r.holders j of) [
      | inl crate ↦ by_crate crate.0 crate.1
      | inr held ↦ by_holder held
    ]
      where
        by_crate : j.block ≡ None → has_crate (behind id.krate.0) j.krate ≡ true → rank j f < rank id r
        by_crate none has =
            let before : j.krate.0 < id.krate.0 = DependsOn-below (direct_below s) ((depended sound id.krate.0 j.krate).0 has) in
            let alone : length f.holders ≡ 0 = ap (λ (ms : List ModuleId). length ms) (crate_holders s j f (kept_gives s sound j f there) none) in
            omega arith

        by_holder : holds r.holders j ≡ true → rank j f < rank id r
        by_holder held =
            let same : j.krate.0 ≡ id.krate.0 = ap (λ (k : Crate). k.0) (held_krate r.holders id r is refl j held) in
            let fewer : length f.holders < length r.holders = held_fewer r.holders id r is refl j held f there in
            omega arith

    pub reads : (j : MapId) (placed : Placed) → read j ≡ Some placed → IsRead j placed
    reads j placed e =
        let only = among-only (behind id.krate.0) r.holders (finished_of s) j placed e in
        go (kept_of s j) refl only.1 only.0 only.2
      where
        go : (o : Option Resolution) → kept_of s j ≡ o → option_map placed_by o ≡ Some placed → is_of_some (behind id.krate.0) r.holders j ≡ true
            → are_of_some (behind id.krate.0) r.holders placed.holders ≡ true → IsRead j placed
        go None there f of held = no_value f
        go (Some found) there f of held =
            let same : placed_by found ≡ placed = one_value f in
            let w = kept_whole s sound j found there in
            let one : found ≡ w.found = one_value (sym there ∙ w.is) in
            let held_too : are_of_some (behind id.krate.0) r.holders w.found.holders ≡ true =
            ap (λ (x : Resolution). are_of_some (behind id.krate.0) r.holders x.holders) (sym one) ∙ ap
            (λ (p : Placed). are_of_some (behind id.krate.0) r.holders p.holders) same ∙ held in
            record {
              found = found;
              is_kept = there;
              map = sym same;
              extends = subst (λ (x : Resolution). Extends (overlay (read_under s j x.holders) x.map) read) (sym one)
                  (Extends-behind behind s.kept (behind id.krate.0) r.holders (kept_whole s sound) closed j w of held_too);
              lower = lower_there j found there of;
            }

    -- its own isn't one of them
    pub own_apart : read id ≡ None
    own_apart = go (read id) refl
      where
        go : (o : Option Placed) → read id ≡ o → read id ≡ None
        go None e = e
        go (Some placed) e =
            let itself = reads id placed e in
            let same : itself.found ≡ r = one_value (sym itself.is_kept ∙ is) in
            let lower : rank id itself.found < rank id r = itself.lower in
            let equal : length itself.found.holders ≡ length r.holders = ap (λ (x : Resolution). length x.holders) same in
            absurd (omega arith)

    -- ---- what its run stood on

    abbrev own : IsResolutionOf s id r
    own = kept_gives s sound id r is

    ended : Ends s.tables (workspace_of s) (finished_of s) own.from (collected_of r)
    ended = own.resolved.ends (workspace_of s) (finished_of s) AgreeOn-refl

    start_is : start_id own.from.start ≡ id
    start_is = sym ended.own ∙ own.own

    pub krate_is : krate_of own.from.start ≡ id.krate
    krate_is = ap (λ (x : MapId). x.krate) start_is

    -- the map of its crate isn't marked
    own_crate_off : is_marked s (crate_map id.krate) ≡ false
    own_crate_off = go id.block refl
      where
        off : is_marked s id ≡ false
        off = unmarked s id r is

        go : (o : Option BlockId) → id.block ≡ o → is_marked s (crate_map id.krate) ≡ false
        go None of =
            let same : id ≡ crate_map id.krate = λ i. record { krate = id.krate; block = of i } in subst (λ (x : MapId). is_marked s x ≡ false) same off
        go (Some b) of = sound.closed id (crate_map id.krate) off (followed_crate s id b of)

    behind_off : (c : Crate) → has_crate (behind id.krate.0) c ≡ true → is_marked s (crate_map c) ≡ false
    behind_off c has = behind_unmarked s sound id.krate.0 own_crate_off c has

    lies : (j : MapId) → holds r.holders j ≡ true → j.krate ≡ id.krate
    lies j held = held_krate r.holders id r is refl j held

    -- a map that may be read is
    kept_read : (j : MapId) (f : Resolution) → kept_of s j ≡ Some f → is_of_some (behind id.krate.0) r.holders j ≡ true → are_of_some (behind id.krate.0)
        r.holders f.holders ≡ true → is_some (read j) ≡ true
    kept_read j f there of held =
        ap (λ (o : Option Placed). is_some o) (among-there (behind id.krate.0) r.holders (finished_of s) j (placed_by f) of (ap (option_map placed_by) there)
        held)

    own_crate_read : (b : BlockId) → id.block ≡ Some b → is_some (read (crate_map id.krate)) ≡ true
    own_crate_read b of =
        let f = kept_there s (crate_map id.krate) own_crate_off in
        let alone : f.0.holders ≡ [] = crate_holders s (crate_map id.krate) f.0 (kept_gives s sound (crate_map id.krate) f.0 f.1) refl in
        kept_read (crate_map id.krate) f.0 f.1 (is_held_of_some (behind id.krate.0) r.holders (crate_map id.krate)
        (in_own_crate s sound r.holders id r b is refl of))
        (ap (are_of_some (behind id.krate.0) r.holders) alone)

    own_crate_there : any_own_crate (is_missing read) id ≡ false
    own_crate_there = go id.block refl
      where
        go : (o : Option BlockId) → id.block ≡ o → (is_some o && test_crate (is_missing read) id.krate) ≡ false
        go None of = refl
        go (Some b) of = ap not (own_crate_read b of)

    -- so is its holder
    holder_there : is_holder_for read id r.map.holder ≡ true
    holder_there = go r.map.holder refl
      where
        go : (o : Option ModuleId) → r.map.holder ≡ o → is_holder_for read id o ≡ true
        go None held = refl
        go (Some h) held =
            let kept = holder_kept s id r own h held in
            let found : read h.map ≡ Some (placed_by kept.found) =
            among-there (behind id.krate.0) r.holders (finished_of s) h.map (placed_by kept.found)
            (of_holders h (subst (λ (hs : List ModuleId). Contains hs h) (sym kept.holders) (zero, omega arith, refl)))
            (ap (option_map placed_by) kept.is)
            (all_read kept.found.holders (λ x among. of_holders x (subst (λ (hs : List ModuleId). Contains hs x) (sym kept.holders)
            (suc among.0, (let below : among.0 < length kept.found.holders = among.1 in omega arith), among.2)))) in
            both_true (same_crate h.map.krate id.krate) (is_some (module_in read h)) kept.same
            (ap (λ (o : Option Placed). is_some (option_and_then (λ (p : Placed). module_at p.map h.index) o)) found ∙ kept.module_)
          where
            of_holders : (x : ModuleId) → Contains r.holders x → is_of_some (behind id.krate.0) r.holders x.map ≡ true
            of_holders x among = is_held_of_some (behind id.krate.0) r.holders x.map (holds_listed r.holders x among)

            all_read : (xs : List ModuleId) → ((x : ModuleId) → Contains xs x → is_of_some (behind id.krate.0) r.holders x.map ≡ true)
                → are_of_some (behind id.krate.0) r.holders xs ≡ true
            all_read [] each = refl
            all_read (x ∷ xs) each =
                both_true (is_of_some (behind id.krate.0) r.holders x.map) (are_of_some (behind id.krate.0) r.holders xs) (each x (zero, omega arith, refl))
                (all_read xs (λ y among. each y (suc among.0, (let below : among.0 < length xs = among.1 in omega arith), among.2)))

    pub stood_on_whole : StandsOnWhole (workspace_of s) read own.from.start
    stood_on_whole = record {
      apart = ap read start_is ∙ own_apart;
      behind = ap (λ (k : Crate). list_any (test_crate (is_missing read)) (behind k.0)) krate_is ∙ stands_behind s sound id.krate r.holders behind_off lies;
      direct = ap (λ (k : Crate). list_any (λ (d : Dependency). test_crate (is_missing read) d.krate) (dependencies_in (workspace_of s) k)) krate_is
          ∙ stands_direct s sound id.krate r.holders behind_off lies;
      own_crate = ap (any_own_crate (is_missing read)) start_is ∙ own_crate_there;
      held = (λ i. is_holder_for read (start_is i) (sym own.holder i)) ∙ holder_there;
    }
