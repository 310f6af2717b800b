-- How far has a refresh come? No public clause speaks of this.
use Rattle.std.specs.Prelude.{◌≡◌, ◌⊎◌, ⊤, ℕ, ◌<◌, Bool, cond, is_none, is_some, true, false, List, [], ◌∷◌, ◌++◌, length, Option, Some, None, Contains}
use Rattle.std.specs.BTreeMap.{is_at}
use Rattle.std.specs.BTreeSet.{BTreeSet, contains, insert_key}
use Rattle.std.specs.declared.alloc.Global.{Global}
use Rattle.std.specs.declared.vec.Vec.{Vec}
use Rattle.hir_session_state.specs.HirBase.Place.{PlaceValue}
use Rattle.hir_session_state.specs.HirIds.declared.ast_id.BlockId.{BlockId}
use Rattle.hir_session_state.specs.HirBase.declared.place.BlockPlace.{BlockPlace}
use Rattle.hir_session_state.specs.HirIds.declared.ids.MapId.{MapId}
use Rattle.hir_session_state.specs.HirIds.declared.ids.ModuleId.{ModuleId}
use Rattle.hir_session_state.specs.HirDefMapRules.Overlay.{holders_under}
use Rattle.hir_session_state.specs.HirDefMapRules.State.{crate_map, module_at}
use Rattle.hir_session_state.specs.HirCollectorRules.Derivation.{CollectedValue}
use Rattle.hir_session_state.specs.Askers.{has_fallen, is_one}
use Rattle.hir_session_state.specs.Blocks.{nesting_of, place_of_block}
use Rattle.hir_session_state.specs.Crates.{dependency_maps, id_of}
use Rattle.hir_session_state.specs.Due.{IsDueBlock, IsNext, Resolved}
use Rattle.hir_session_state.specs.Kept.{Resolution, Resolutions, held}
use Rattle.hir_session_state.specs.SessionState.{SessionState, block_kept, finished_of, holder_maps, is_marked, kept_of, IsSound}
use Rattle.hir_session_state.specs.Standing.{block_map, block_number, is_set, place_of_map}
use Rattle.hir_session_core.specs.contracts.session.pending.PendingBlockOrd.TheImpl as pending_order
use Rattle.hir_session_core.specs.declared.session.pending.PendingBlock.{PendingBlock}
use Rattle.hir_session_state.specs.HirTables.Tables.{KeepsTables}

-- ---- crates

-- no crate is marked
abbrev pub AreCratesCurrent : SessionState → Type 0
AreCratesCurrent s = (k : ℕ) → k < length s.crates → is_marked s (id_of k) ≡ false

-- ---- one resolution

-- what a run came to, with the modules that hold its place among the finished maps
abbrev pub held_in : SessionState → CollectedValue → Resolution
held_in s c = held c (holders_under (finished_of s) c.map.id c.map.holder)

-- the maps on which that of a place directly depends where this module holds it
abbrev pub follows_under : SessionState → MapId → Option BlockId → Option ModuleId → List MapId
follows_under s id None holder = dependency_maps s.crates id.krate
follows_under s id (Some b) holder = crate_map id.krate ∷ holder_maps holder

-- those are current
abbrev pub AreFollowedCurrent : SessionState → MapId → Option ModuleId → Type 0
AreFollowedCurrent s id holder = (d : MapId) → Contains (follows_under s id id.block holder) d → is_marked s d ≡ false

-- the map in which a module lies is kept, and has the module
pub record IsModuleThere (s : SessionState) (m : ModuleId) : Type 0 where
  pub found : Resolution
  pub is : kept_of s m.map ≡ Some found
  pub there : is_some (module_at found.map m.index) ≡ true

-- a marked place was resolved
pub record IsResolvedAt (old : SessionState) (place : PlaceValue) (new : SessionState) : Type 0 where
  pub id : MapId
  pub found : Resolution
  pub of : place_of_map new.tables id ≡ Some place
  pub marked : is_marked old id ≡ true
  pub resolved : Resolved old id found new

-- so was a block, under the number that it has
pub record IsBlockResolved (old : SessionState) (b : BlockPlace) (new : SessionState) : Type 0 where
  pub number : BlockId
  pub numbered : block_number new.tables b ≡ Some number
  pub found : Resolution
  pub marked : is_marked old (block_map b.holder.krate number) ≡ true
  pub resolved : Resolved old (block_map b.holder.krate number) found new

-- ---- blocks that are left

-- a block among those that are left
abbrev pub pending_of : PlaceValue → PendingBlock
pending_of place = record { nesting = nesting_of place.elements; place = place }

-- those that are left with this block, where nothing is kept of it
abbrev pub with_pending : SessionState → BlockPlace → List PendingBlock → List PendingBlock
with_pending s b keys = cond (is_none (block_kept s b)) (insert_key pending_order.ghosts.cmp keys (pending_of (place_of_block b))) keys

-- each block that is set and of which nothing is kept is among them
pub record HasAllPending (s : SessionState) (pending : List PendingBlock) : Type 0 where
  pub all : (b : BlockPlace) → is_set s.sources.blocks b ≡ true → block_kept s b ≡ None → Contains pending (pending_of (place_of_block b))
  pub own : (p : PendingBlock) → Contains pending p → p ≡ pending_of p.place

-- a block is set whose root this is, and nothing is kept of it
pub record IsPendingAt (s : SessionState) (root : PlaceValue) : Type 0 where
  pub block : BlockPlace
  pub is : place_of_block block ≡ root
  pub set : is_set s.sources.blocks block ≡ true
  pub marked : block_kept s block ≡ None

-- each block that is set and of which nothing is kept is among them, and nothing else is
pub record ArePending (s : SessionState) (pending : List PendingBlock) : Type 0 where
  pub all : (b : BlockPlace) → is_set s.sources.blocks b ≡ true → block_kept s b ≡ None → Contains pending (pending_of (place_of_block b))
  pub own : (p : PendingBlock) → Contains pending p → p ≡ pending_of p.place
  pub only : (p : PendingBlock) → Contains pending p → IsPendingAt s p.place

-- the blocks that are known to wait, if that is known
abbrev pub Known : Type 0
Known = Option (BTreeSet PendingBlock)

abbrev pub AreKnownPending : SessionState → Known → Type 0
AreKnownPending s None = ⊤
AreKnownPending s (Some pending) = ArePending s pending.keys

-- a block is among those that are known exactly if it waits, and each other exactly if it was
abbrev pub IsSettled : PendingBlock → Bool → Known → Known → Type 0
IsSettled block waits old None = ⊤
IsSettled block waits None (Some new) = ⊥
IsSettled block waits (Some old) (Some new) =
    (q : PendingBlock) → contains pending_order.ghosts.cmp new q
    ≡ cond (is_at (pending_order.ghosts.cmp block) q) waits (contains pending_order.ghosts.cmp old q)

-- a block that was to be looked at is among those that are left exactly if it waits
pub data IsSifted (s : SessionState) (block : PendingBlock) (old new : List PendingBlock) : Type 0 where
  put : IsPendingAt s block.place → new ≡ insert_key pending_order.ghosts.cmp old block → IsSifted s block old new
  passed : ¬ IsPendingAt s block.place → new ≡ old → IsSifted s block old new

-- a block that is one of some was looked at, where there is one
abbrev pub IsSiftedAt : SessionState → Option BlockPlace → List PendingBlock → List PendingBlock → Type 0
IsSiftedAt s None old new = new ≡ old
IsSiftedAt s (Some b) old new = IsSifted s (pending_of (place_of_block b)) old new

-- ---- places that fell

-- a list, where there is one, has the places of which what was kept isn't any more
abbrev pub AreFallen : Resolutions → Resolutions → Option (Vec MapId Global) → Type 0
AreFallen old new None = ⊤
AreFallen old new (Some fell) = (id : MapId) → is_one fell.items id ≡ has_fallen old new id

-- the map of a block is one of some
pub record HasMapIn (s : SessionState) (ids : List MapId) (b : BlockPlace) : Type 0 where
  pub number : BlockId
  pub numbered : block_number s.tables b ≡ Some number
  pub among : Contains ids (block_map b.holder.krate number)

-- each block that is set and of which nothing is kept is among them, or its map is one that fell; and nothing else is among them
pub record ArePendingBut (s : SessionState) (pending : List PendingBlock) (fell : List MapId) : Type 0 where
  pub all : (b : BlockPlace) → is_set s.sources.blocks b ≡ true → block_kept s b ≡ None → Contains pending (pending_of (place_of_block b)) ⊎ HasMapIn s fell b
  pub own : (p : PendingBlock) → Contains pending p → p ≡ pending_of p.place
  pub only : (p : PendingBlock) → Contains pending p → IsPendingAt s p.place

abbrev pub AreKnownBut : SessionState → Known → Option (Vec MapId Global) → Type 0
AreKnownBut s None fell = ⊤
AreKnownBut s (Some pending) None = ⊤
AreKnownBut s (Some pending) (Some fell) = ArePendingBut s pending.keys fell.items

-- none of a list is due
abbrev pub AreNotDue : SessionState → List PendingBlock → Type 0
AreNotDue s pending = (b : BlockPlace) → Contains pending (pending_of (place_of_block b)) → ¬ IsDueBlock s b

-- a block was resolved where it was due, and otherwise nothing changed
pub data IsRefreshed (old : SessionState) (place : PlaceValue) (before after : List PlaceValue) (new : SessionState) : Type 0 where
  left : ((b : BlockPlace) → place_of_block b ≡ place → ¬ IsDueBlock old b) → new ≡ old → after ≡ before → IsRefreshed old place before after new
  resolved : (b : BlockPlace) → place_of_block b ≡ place → IsDueBlock old b → IsBlockResolved old b new → IsSound new → after ≡ before ++ place ∷ []
      → IsRefreshed old place before after new

-- ---- all that was resolved so far

-- these places were resolved one after another, each when it was the next that was due
pub data WereResolved (old : SessionState) : List PlaceValue → SessionState → Type 0 where
  none : WereResolved old [] old
  more : (places : List PlaceValue) (mid : SessionState) (place : PlaceValue) (new : SessionState) → WereResolved old places mid → IsNext mid place
      → IsResolvedAt mid place new → WereResolved old (places ++ place ∷ []) new

-- and nothing else changed
pub record HasResolved (old : SessionState) (done : List PlaceValue) (new : SessionState) : Type 0 where
  pub crates : new.crates ≡ old.crates
  pub tables : KeepsTables old.tables new.tables
  pub sources : new.sources ≡ old.sources
  pub in_turn : WereResolved old done new
  pub others : (id : MapId) → is_marked old id ≡ false → kept_of new id ≡ kept_of old id
  pub sound : IsSound new
