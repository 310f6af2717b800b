-- What is known of the blocks that wait stays known, or nothing is known of them any more.
use Rattle.std.specs.Prelude.{is_some, IfSome}
use Rattle.std.specs.BTreeMap.{is_at}
use Rattle.std.specs.BTreeSet.{BTreeSet, contains, insert_key}
use Rattle.std.specs.Cmp.{IsEquivalence, first_so, second_so, tied_itself, unsigned_Decides}
use Rattle.std.specs.List.{All, list_any}
use Rattle.std.specs.Option.{option_and_then}
use Rattle.std.specs.Ordering.{eq_by_cmp, is_eq}
use Rattle.std.specs.declared.alloc.Global.{Global}
use Rattle.std.specs.declared.cmp.Ordering.{Ordering}
use Rattle.std.specs.declared.vec.Vec.{Vec}
use Rattle.std.proofs.Common.{◌≡◌, ◌∙◌, ◌⊎◌, inl, inr, zero, suc, Bool, true, false, not, ◌&&◌, ◌||◌, cond, ◌<◌, arith, List, [], ◌∷◌, ◌++◌, length, refl, ap}
use Rattle.std.proofs.Common.{sym, subst}
use Rattle.std.proofs.Common.{Option, Some, None, option_map, Contains}
use Rattle.std.proofs.lemmas.Cmp.{eq_by_cmp_equiv}
use Rattle.std.proofs.lemmas.List.Elements.{Contains-append_cases, All-contains, All-contains_itself, All-head, All-nil, All-tail, All-weaker}
use Rattle.std.proofs.lemmas.Map.Views.{All-insert_key, Contains-from_any, list_any-from_Contains}
use Rattle.hir_session_state.specs.HirBase.Place.{PlaceValue}
use Rattle.hir_session_state.specs.HirBase.contracts.place.BlockPlaceOrd.TheImpl as block_order
use Rattle.hir_session_state.specs.HirIds.contracts.ids.MapIdOrd.TheImpl as map_order
use Rattle.hir_session_state.specs.HirIds.declared.ast_id.BlockId.{BlockId}
use Rattle.hir_session_state.specs.HirIds.declared.ids.MapId.{MapId}
use Rattle.hir_session_state.specs.HirBase.declared.place.BlockPlace.{BlockPlace}
use Rattle.hir_session_state.specs.HirItemTree.Source.{SourceValue}
use Rattle.hir_session_state.specs.HirTables.Tables.{TablesValue, KeepsTables, block_at}
use Rattle.hir_session_state.specs.Askers.{has_fallen, is_one, ListsFallen}
use Rattle.hir_session_state.specs.Blocks.{Blocks, block_in, place_of_block}
use Rattle.hir_session_state.specs.Kept.{Resolution, Resolutions, kept_in}
use Rattle.hir_session_state.specs.SessionState.{SessionState, IsSound, block_kept}
use Rattle.hir_session_state.specs.SourceEdits.{edited, of_block}
use Rattle.hir_session_state.specs.Standing.{block_map, block_number, is_set, kept_block}
use Rattle.hir_session_state.proofs.Ids.{equal_id}
use Rattle.hir_session_state.proofs.Places.{number_means}
use Rattle.hir_session_state.proofs.Standing.{kept_block_grown}
use Rattle.hir_session_state.proofs.Truth.{clash, no_value, on_bool, one_value}
use Rattle.hir_session_sources.proofs.BlockLemmas.{block_in-edited, exact_blocks, root-block, same_root}
use Rattle.hir_session_core.specs.Progress.{AreFallen, AreKnownBut, AreKnownPending, ArePending, ArePendingBut, HasAllPending, HasMapIn}
use Rattle.hir_session_core.specs.Progress.{IsPendingAt, IsSettled, IsSifted, IsSiftedAt, Known, pending_of}
use Rattle.hir_session_core.specs.Progress.IsSifted.{put, passed}
use Rattle.hir_session_core.specs.contracts.session.pending.PendingBlockOrd.TheImpl as pending_order
use Rattle.hir_session_core.specs.contracts.session.pending.PendingBlockOrd.TheImpl.Laws.{matches_eq-law as pending_ties, total-law as pending_total}
use Rattle.hir_session_core.specs.declared.session.pending.PendingBlock.{PendingBlock}
use Rattle.hir_session_core.proofs.Pending.{IsOwn, head_or_tail, inserted, same_place, still_in}

abbrev pending_cmp : PendingBlock → PendingBlock → Ordering
pending_cmp = pending_order.ghosts.cmp

-- ---- blocks in their order

-- those that are tied are the same
pending_same : (x y : PendingBlock) → is_at (pending_cmp x) y ≡ true → x ≡ y
pending_same x y e =
    let both = pending_ties x y ∙ e in
    λ i. record {
      nesting = (unsigned_Decides x.nesting y.nesting).0 (first_so _ _ both) i;
      place = same_place x.place y.place (second_so _ _ both) i;
    }

tied : (x y : PendingBlock) → x ≡ y → is_at (pending_cmp x) y ≡ true
tied x y e = ap (λ (z : PendingBlock). is_at (pending_cmp x) z) (sym e) ∙ ap is_eq (tied_itself pending_total x)

pending_laws : IsEquivalence (eq_by_cmp pending_cmp)
pending_laws = eq_by_cmp_equiv pending_total

to_any : (q : PendingBlock) (keys : List PendingBlock) → Contains keys q → list_any (is_at (pending_cmp q)) keys ≡ true
to_any q keys among = list_any-from_Contains pending_laws q keys among

from_any : (q : PendingBlock) (keys : List PendingBlock) → list_any (is_at (pending_cmp q)) keys ≡ true → Contains keys q
from_any q keys there = Contains-from_any {eq = eq_by_cmp pending_cmp} pending_same q keys there

-- where none is known to wait, nothing is said
pub none_known : (s : SessionState) (p : Known) → p ≡ None → AreKnownPending s p
none_known s p none = subst (λ (q : Known). AreKnownPending s q) (sym none) tt

-- where they are all that wait, no other is among them
pub pending_all : (s : SessionState) (keys : List PendingBlock) → ArePending s keys → HasAllPending s keys
pending_all s keys h = record { all = h.all; own = h.own }

-- ---- a block of which the same holds

pub record WaitsAlike (old new : SessionState) (b : BlockPlace) : Type 0 where
  pub set : is_set new.sources.blocks b ≡ is_set old.sources.blocks b
  pub kept : block_kept new b ≡ block_kept old b

still_at : (old new : SessionState) (root : PlaceValue) (p : IsPendingAt old root) → WaitsAlike old new p.block → IsPendingAt new root
still_at old new root p alike = record { block = p.block; is = p.is; set = alike.set ∙ p.set; marked = alike.kept ∙ p.marked }

-- where the same holds of each the same wait
module _ (old new : SessionState) (alike : (b : BlockPlace) → WaitsAlike old new b) where
  still_pending : (keys : List PendingBlock) → ArePending old keys → ArePending new keys
  still_pending keys h = record {
    all = λ b set none. h.all b (sym (alike b).set ∙ set) (sym (alike b).kept ∙ none);
    own = h.own;
    only = λ p among. still_at old new p.place (h.only p among) (alike (h.only p among).block);
  }

  still_known : (p : Known) → AreKnownPending old p → AreKnownPending new p
  still_known None h = tt
  still_known (Some pending) h = still_pending pending.keys h

-- as tables grow
pub known_grown : (old : SessionState) (T : TablesValue) (p : Known) → IsSound old → KeepsTables old.tables T → AreKnownPending old p
    → AreKnownPending (record old { tables = T }) p
known_grown old T p sound grown h =
    still_known old (record old { tables = T }) (λ b. record { set = refl; kept = kept_block_grown old sound T grown b }) p h

-- where what is kept under its number is
kept_alike : (t : TablesValue) (kept now : Resolutions) (b : BlockPlace)
    → ((n : BlockId) → block_number t b ≡ Some n → kept_in now (block_map b.holder.krate n) ≡ kept_in kept (block_map b.holder.krate n))
    → kept_block t now b ≡ kept_block t kept b
kept_alike t kept now b same = go (block_number t b) refl
  where
    go : (o : Option BlockId) → block_number t b ≡ o
        → option_and_then (λ n. kept_in now (block_map b.holder.krate n)) o ≡ option_and_then (λ n. kept_in kept (block_map b.holder.krate n)) o
    go None is = refl
    go (Some n) is = same n is

-- ---- edits of files and expansions

-- nothing falls, or it isn't known any more which blocks wait
pub known_forgot : (old new : SessionState) (was is : Known) → new.tables ≡ old.tables → new.sources.blocks ≡ old.sources.blocks
    → (is ≡ None) ⊎ ((is ≡ was) × ((id : MapId) → kept_in new.kept id ≡ kept_in old.kept id)) → AreKnownPending old was → AreKnownPending new is
known_forgot old new was is tables blocks (inl none) h = subst (λ (p : Known). AreKnownPending new p) (sym none) tt
known_forgot old new was is tables blocks (inr stay) h =
    subst (λ (p : Known). AreKnownPending new p) (sym stay.0) (still_known old new (λ b. record {
      set = ap (λ (bs : Blocks). is_set bs b) blocks;
      kept = ap (λ (t : TablesValue). kept_block t new.kept b) tables ∙ kept_alike old.tables old.kept new.kept b
          (λ n numbered. stay.1 (block_map b.holder.krate n));
    }) was h)

-- ---- edits of blocks

on_block : {A : Type 0} (b c : BlockPlace) → (c ≡ b → A) → (is_at (block_order.ghosts.cmp b) c ≡ false → A) → A
on_block b c f g = on_bool (is_at (block_order.ghosts.cmp b) c) (λ on. f (sym (exact_blocks.same b c on))) g

-- a block of which the same holds, or of which nothing is kept any more, where its map is one of some
record WaitsOrFell (old new : SessionState) (fell : List MapId) (b : BlockPlace) : Type 0 where
  set : is_set new.sources.blocks b ≡ is_set old.sources.blocks b
  kept : (block_kept new b ≡ block_kept old b) ⊎ ((block_kept new b ≡ None) × HasMapIn new fell b)

waits_still : (old new : SessionState) (fell : List MapId) (root : PlaceValue) (p : IsPendingAt old root) → WaitsOrFell old new fell p.block
    → IsPendingAt new root
waits_still old new fell root p w = record {
  block = p.block;
  is = p.is;
  set = w.set ∙ p.set;
  marked = elim w.kept [
    | inl same ↦ same ∙ p.marked
    | inr gone ↦ gone.0
  ];
}

-- so it is with each other block, and of this one it is said whether it waits
module _ (old new : SessionState) (b : BlockPlace) (fell : List MapId)
    (others : (c : BlockPlace) → is_at (block_order.ghosts.cmp b) c ≡ false → WaitsOrFell old new fell c)
    (one : PendingBlock) (is_one : one ≡ pending_of (place_of_block b)) (waits : Bool)
    (on_here : waits ≡ true → IsPendingAt new (place_of_block b)) (off_here : waits ≡ false → ¬ IsPendingAt new (place_of_block b))
    (was now : BTreeSet PendingBlock)
    (settled : (q : PendingBlock) → contains pending_cmp now q ≡ cond (is_at (pending_cmp one) q) waits (contains pending_cmp was q))
    (h : ArePending old was.keys) where
  at_one : (q : PendingBlock) → is_at (pending_cmp one) q ≡ true → contains pending_cmp now q ≡ waits
  at_one q on = settled q ∙ ap (λ (t : Bool). cond t waits (contains pending_cmp was q)) on

  at_other : (q : PendingBlock) → is_at (pending_cmp one) q ≡ false → contains pending_cmp now q ≡ contains pending_cmp was q
  at_other q off = settled q ∙ ap (λ (t : Bool). cond t waits (contains pending_cmp was q)) off

  -- it is this one, or was there before
  came : (p : PendingBlock) → Contains now.keys p
      → ((one ≡ p) × (waits ≡ true)) ⊎ ((is_at (pending_cmp one) p ≡ false) × Contains was.keys p)
  came p among = on_bool (is_at (pending_cmp one) p)
      (λ on. inl (pending_same one p on, sym (at_one p on) ∙ to_any p now.keys among))
      (λ off. inr (off, from_any p was.keys (sym (at_other p off) ∙ to_any p now.keys among)))

  -- this one is among them where it waits
  here : (c : BlockPlace) → is_at (pending_cmp one) (pending_of (place_of_block c)) ≡ true → is_set new.sources.blocks c ≡ true → block_kept new c ≡ None
      → Contains now.keys (pending_of (place_of_block c))
  here c on set none =
      let root : place_of_block c ≡ place_of_block b = ap (λ (p : PendingBlock). p.place) (sym (pending_same one (pending_of (place_of_block c)) on) ∙ is_one)
      in
      from_any (pending_of (place_of_block c)) now.keys (at_one (pending_of (place_of_block c)) on ∙ on_bool waits
      (λ yes. yes)
      (λ no. absurd (off_here no (record { block = c; is = root; set = set; marked = none }))))

  -- another is where it was, or its map fell
  beside : (c : BlockPlace) → is_at (pending_cmp one) (pending_of (place_of_block c)) ≡ false → WaitsOrFell old new fell c
      → is_set new.sources.blocks c ≡ true → block_kept new c ≡ None → Contains now.keys (pending_of (place_of_block c)) ⊎ HasMapIn new fell c
  beside c off w set none = elim w.kept [
    | inl same ↦ inl (from_any (pending_of (place_of_block c)) now.keys (at_other (pending_of (place_of_block c)) off
        ∙ to_any (pending_of (place_of_block c)) was.keys (h.all c (sym w.set ∙ set) (sym same ∙ none))))
    | inr gone ↦ inr gone.1
  ]

  each : (c : BlockPlace) → is_set new.sources.blocks c ≡ true → block_kept new c ≡ None
      → Contains now.keys (pending_of (place_of_block c)) ⊎ HasMapIn new fell c
  each c set none = on_bool (is_at (pending_cmp one) (pending_of (place_of_block c)))
      (λ on. inl (here c on set none))
      (λ off. on_block b c
      (λ same. clash (tied one (pending_of (place_of_block c)) (is_one ∙ ap (λ (x : BlockPlace). pending_of (place_of_block x)) (sym same))) off)
      (λ apart. beside c off (others c apart) set none))

  no_other : (p : PendingBlock) → Contains now.keys p → IsPendingAt new p.place
  no_other p among = elim (came p among) [
    | inl here ↦ subst (λ (root : PlaceValue). IsPendingAt new root) (ap (λ (x : PendingBlock). x.place) (sym is_one ∙ here.0)) (on_here here.1)
    | inr before ↦
        let at_place = h.only p before.1 in
        on_block b at_place.block
        (λ same. clash (tied one p (is_one ∙ ap (λ (x : BlockPlace). pending_of (place_of_block x)) (sym same) ∙ ap pending_of at_place.is
        ∙ sym (h.own p before.1))) before.0)
        (λ apart. waits_still old new fell p.place at_place (others at_place.block apart))
  ]

  each_own : (p : PendingBlock) → Contains now.keys p → p ≡ pending_of p.place
  each_own p among = elim (came p among) [
    | inl here ↦
        let is = sym here.0 ∙ is_one in
        is ∙ ap (λ (x : PendingBlock). pending_of x.place) (sym is)
    | inr before ↦ h.own p before.1
  ]

  pending_settled : ArePendingBut new now.keys fell
  pending_settled = record { all = each; own = each_own; only = no_other }

-- what is kept of a block under a number
abbrev kept_under : BlockPlace → Resolutions → Option BlockId → Option Resolution
kept_under b kept o = option_and_then (λ (n : BlockId). kept_in kept (block_map b.holder.krate n)) o

-- what is kept of each place is what was, or nothing
abbrev Fewer : Resolutions → Resolutions → Type 0
Fewer kept now = (id : MapId) → (kept_in now id ≡ kept_in kept id) ⊎ (kept_in now id ≡ None)

module _ (old : SessionState) (b : BlockPlace) (there : Option SourceValue) (now : Resolutions) where
  abbrev edited_to : SessionState
  edited_to = record old { sources = edited old.sources (of_block b there); kept = now }

  set_now : (c : BlockPlace) → is_set edited_to.sources.blocks c
      ≡ is_some (cond (is_at (block_order.ghosts.cmp b) c) there (block_in old.sources.blocks (place_of_block c)))
  set_now c = ap (λ (o : Option SourceValue). is_some o) (block_in-edited old.sources.blocks (place_of_block b) there (place_of_block c)
      ∙ ap (λ (t : Bool). cond t there (block_in old.sources.blocks (place_of_block c))) (root-block b c))

  set_here : is_set edited_to.sources.blocks b ≡ is_some there
  set_here = set_now b ∙ ap (λ (t : Bool). is_some (cond t there (block_in old.sources.blocks (place_of_block b)))) (exact_blocks.own b)

  -- a block that waits at its root is this one
  itself : (p : IsPendingAt edited_to (place_of_block b)) → p.block ≡ b
  itself p = same_root p.block b p.is

  -- of each other block the same holds, or its map is one that fell
  module _ (fell : List MapId) (listed : (id : MapId) → is_one fell id ≡ has_fallen old.kept now id) (fewer : Fewer old.kept now) where
    kept_or_fell : (c : BlockPlace) → (block_kept edited_to c ≡ block_kept old c) ⊎ ((block_kept edited_to c ≡ None) × HasMapIn edited_to fell c)
    kept_or_fell c = go (block_number old.tables c) refl
      where
        gone : (n : BlockId) → block_number old.tables c ≡ Some n → kept_in now (block_map c.holder.krate n) ≡ None
            → (o : Option Resolution) → kept_in old.kept (block_map c.holder.krate n) ≡ o
            → (kept_in now (block_map c.holder.krate n) ≡ kept_in old.kept (block_map c.holder.krate n))
            ⊎ ((kept_in now (block_map c.holder.krate n) ≡ None) × HasMapIn edited_to fell c)
        gone n is none None was = inl (none ∙ sym was)
        gone n is none (Some r) was = inr (
          none,
          record {
            number = n;
            numbered = is;
            among = Contains-from_any {eq = eq_by_cmp map_order.ghosts.cmp} equal_id (block_map c.holder.krate n) fell
                (listed (block_map c.holder.krate n) ∙ (λ i. is_some (was i) && not (is_some (none i))));
          },
        )

        go : (o : Option BlockId) → block_number old.tables c ≡ o
            → (kept_under c now o ≡ kept_under c old.kept o) ⊎ ((kept_under c now o ≡ None) × HasMapIn edited_to fell c)
        go None is = inl refl
        go (Some n) is = elim (fewer (block_map c.holder.krate n)) [
          | inl same ↦ inl same
          | inr none ↦ gone n is none (kept_in old.kept (block_map c.holder.krate n)) refl
        ]

    other : (c : BlockPlace) → is_at (block_order.ghosts.cmp b) c ≡ false → WaitsOrFell old edited_to fell c
    other c apart = record {
      set = set_now c ∙ ap (λ (t : Bool). is_some (cond t there (block_in old.sources.blocks (place_of_block c)))) apart;
      kept = kept_or_fell c;
    }

  -- it waits where it is set and nothing is kept of it
  module _ (one : PendingBlock) (is_one : one ≡ pending_of (place_of_block b)) (waits : Bool)
      (on_here : waits ≡ true → IsPendingAt edited_to (place_of_block b)) (off_here : waits ≡ false → ¬ IsPendingAt edited_to (place_of_block b)) where
    known_edited : (was fin : Known) (fell : Option (Vec MapId Global)) → AreFallen old.kept now fell → Fewer old.kept now → IsSettled one waits was fin
        → AreKnownPending old was → AreKnownBut edited_to fin fell
    known_edited was None fell listed fewer settled h = tt
    known_edited was (Some known) None listed fewer settled h = tt
    known_edited None (Some known) (Some fell) listed fewer settled h = absurd settled
    known_edited (Some before) (Some known) (Some fell) listed fewer settled h =
        pending_settled old edited_to b fell.items (other fell.items listed fewer) one is_one waits on_here off_here before known settled h

-- a block that is set
module _ (old : SessionState) (b : BlockPlace) (own : Option MapId)
    (is_own : own ≡ option_map (block_map b.holder.krate) (block_number old.tables b)) (source : SourceValue) (now : Resolutions) where
  abbrev with_block : SessionState
  with_block = record old { sources = edited old.sources (of_block b (Some source)); kept = now }

  -- what is kept of it is kept under its own id
  kept_own : block_kept with_block b ≡ option_and_then (kept_in now) own
  kept_own = go (block_number old.tables b) ∙ ap (option_and_then (kept_in now)) (sym is_own)
    where
      go : (o : Option BlockId) → option_and_then (λ n. kept_in now (block_map b.holder.krate n)) o
          ≡ option_and_then (kept_in now) (option_map (block_map b.holder.krate) o)
      go None = refl
      go (Some n) = refl

  waits_set : (is_kept : Bool) → is_kept ≡ is_some (option_and_then (kept_in now) own) → not is_kept ≡ true → IsPendingAt with_block (place_of_block b)
  waits_set true is on = clash refl (sym on)
  waits_set false is on = record {
    block = b;
    is = refl;
    set = set_here old b (Some source) now;
    marked = nothing (block_kept with_block b) (ap (λ (o : Option Resolution). is_some o) kept_own ∙ sym is);
  }
    where
      nothing : (o : Option Resolution) → is_some o ≡ false → o ≡ None
      nothing None e = refl
      nothing (Some r) e = clash refl e

  kept_set : (is_kept : Bool) → is_kept ≡ is_some (option_and_then (kept_in now) own) → not is_kept ≡ false → ¬ IsPendingAt with_block (place_of_block b)
  kept_set true is off p = clash refl
      (is ∙ ap (λ (o : Option Resolution). is_some o) (sym kept_own
      ∙ ap (λ (x : BlockPlace). block_kept with_block x) (sym (itself old b (Some source) now p)) ∙ p.marked))
  kept_set false is off p = clash refl off

  pub known_set : (was fin : Known) (fell : Option (Vec MapId Global)) (one : PendingBlock) (is_kept : Bool) → one ≡ pending_of (place_of_block b)
      → AreFallen old.kept now fell → Fewer old.kept now → is_kept ≡ is_some (option_and_then (kept_in now) own)
      → IsSettled one (not is_kept) was fin → AreKnownPending old was → AreKnownBut with_block fin fell
  known_set was fin fell one is_kept is_one listed fewer is settled h =
      known_edited old b (Some source) now one is_one (not is_kept) (waits_set is_kept is) (kept_set is_kept is) was fin fell listed fewer settled h

-- one that is removed doesn't wait
pub known_removed : (old : SessionState) (b : BlockPlace) (now : Resolutions)
    → (was fin : Known) (fell : Option (Vec MapId Global)) (one : PendingBlock) → one ≡ pending_of (place_of_block b)
    → AreFallen old.kept now fell → Fewer old.kept now → IsSettled one false was fin → AreKnownPending old was
    → AreKnownBut (record old { sources = edited old.sources (of_block b None); kept = now }) fin fell
known_removed old b now was fin fell one is_one listed fewer settled h =
    known_edited old b None now one is_one false (λ on. clash on refl) gone was fin fell listed fewer settled h
  where
    gone : false ≡ false → ¬ IsPendingAt (record old { sources = edited old.sources (of_block b None); kept = now }) (place_of_block b)
    gone off p = clash
        (sym (ap (λ (x : BlockPlace). is_set (edited old.sources (of_block b None)).blocks x) (itself old b None now p)) ∙ p.set)
        (set_here old b None now)

-- ---- places that fell are looked at

-- the list of what fell, where there was an empty one
pub fallen_listed : (old new : Resolutions) (before after : Option (Vec MapId Global)) → IfSome before (λ (list : Vec MapId Global). list.items ≡ [])
    → ListsFallen old new before after → AreFallen old new after
fallen_listed old new before None empty h = tt
fallen_listed old new None (Some after) empty h = absurd h
fallen_listed old new (Some before) (Some after) empty h =
    λ id. h id ∙ ap (λ (ids : List MapId). is_one ids id || has_fallen old new id) empty

module _ (s : SessionState) (known new : List PendingBlock) (id : MapId) (rest : List MapId) (h : ArePendingBut s known (rest ++ id ∷ [])) where
  -- a block whose map has another id is among those that are left
  left_or : (b : BlockPlace) → HasMapIn s (rest ++ id ∷ []) b → HasMapIn s rest b ⊎ ((n : BlockId) × (block_number s.tables b ≡ Some n)
      × (block_map b.holder.krate n ≡ id))
  left_or b m = elim (Contains-append_cases rest (id ∷ []) (block_map b.holder.krate m.number) m.among) [
    | inl early ↦ inl (record { number = m.number; numbered = m.numbered; among = early })
    | inr last ↦ inr (m.number, m.numbered, at_last (block_map b.holder.krate m.number) last)
  ]
    where
      at_last : (x : MapId) → Contains (id ∷ []) x → x ≡ id
      at_last x (zero, within, is) = sym is
      at_last x (suc n, within, is) = absurd (let past : suc n < 1 = within in omega (arith, past))

  -- so the block of this map is the one that was looked at
  looked_at : (b : BlockPlace) (n : BlockId) → block_number s.tables b ≡ Some n → block_map b.holder.krate n ≡ id
      → option_and_then (block_at s.tables) id.block ≡ Some b
  looked_at b n numbered is = ap (λ (x : MapId). option_and_then (block_at s.tables) x.block) (sym is) ∙ number_means s.tables b n numbered

  -- it is put among those that wait where it does
  module _ (b : BlockPlace) (is : option_and_then (block_at s.tables) id.block ≡ Some b)
      (sifted : IsSifted s (pending_of (place_of_block b)) known new) where
    every : (c : BlockPlace) → is_set s.sources.blocks c ≡ true → block_kept s c ≡ None → Contains new (pending_of (place_of_block c)) ⊎ HasMapIn s rest c
    every c set none = go sifted (h.all c set none)
      where
        own_place : IsPendingAt s (place_of_block c)
        own_place = record { block = c; is = refl; set = set; marked = none }

        go : IsSifted s (pending_of (place_of_block b)) known new
            → Contains known (pending_of (place_of_block c)) ⊎ HasMapIn s (rest ++ id ∷ []) c
            → Contains new (pending_of (place_of_block c)) ⊎ HasMapIn s rest c
        go (put on put_in) (inl among) = inl (subst (λ (ks : List PendingBlock). Contains ks (pending_of (place_of_block c))) (sym put_in)
            (still_in known (pending_of (place_of_block b)) (pending_of (place_of_block c)) among))
        go (passed off same) (inl among) = inl (subst (λ (ks : List PendingBlock). Contains ks (pending_of (place_of_block c))) (sym same) among)
        go (put on put_in) (inr fallen) = elim (left_or c fallen) [
          | inl left ↦ inr left
          | inr last ↦
              let one : b ≡ c = one_value (sym is ∙ looked_at c last.0 last.1 last.2) in
              inl (subst (λ (ks : List PendingBlock). Contains ks (pending_of (place_of_block c))) (sym put_in)
              (subst (λ (x : BlockPlace). Contains (insert_key pending_cmp known (pending_of (place_of_block b))) (pending_of (place_of_block x))) one
              (inserted known (pending_of (place_of_block b)) (All-weaker (Contains known) IsOwn h.own known (All-contains_itself known)) refl)))
        ]
        go (passed off same) (inr fallen) = elim (left_or c fallen) [
          | inl left ↦ inr left
          | inr last ↦
              let one : b ≡ c = one_value (sym is ∙ looked_at c last.0 last.1 last.2) in
              absurd (off (subst (λ (x : BlockPlace). IsPendingAt s (place_of_block x)) (sym one) own_place))
        ]

    all_own : All IsOwn known
    all_own = All-weaker (Contains known) IsOwn h.own known (All-contains_itself known)

    all_wait : All (λ (p : PendingBlock). IsPendingAt s p.place) known
    all_wait = All-weaker (Contains known) (λ (p : PendingBlock). IsPendingAt s p.place) h.only known (All-contains_itself known)

    sifted_own : (p : PendingBlock) → Contains new p → IsOwn p
    sifted_own p among = go sifted
      where
        go : IsSifted s (pending_of (place_of_block b)) known new → IsOwn p
        go (put on put_in) = All-contains IsOwn (insert_key pending_cmp known (pending_of (place_of_block b))) p
            (All-insert_key pending_cmp (pending_of (place_of_block b)) IsOwn known all_own refl)
            (subst (λ (ks : List PendingBlock). Contains ks p) put_in among)
        go (passed off same) = h.own p (subst (λ (ks : List PendingBlock). Contains ks p) same among)

    sifted_wait : (p : PendingBlock) → Contains new p → IsPendingAt s p.place
    sifted_wait p among = go sifted
      where
        go : IsSifted s (pending_of (place_of_block b)) known new → IsPendingAt s p.place
        go (put on put_in) = All-contains (λ (q : PendingBlock). IsPendingAt s q.place) (insert_key pending_cmp known (pending_of (place_of_block b))) p
            (All-insert_key pending_cmp (pending_of (place_of_block b)) (λ (q : PendingBlock). IsPendingAt s q.place) known all_wait on)
            (subst (λ (ks : List PendingBlock). Contains ks p) put_in among)
        go (passed off same) = h.only p (subst (λ (ks : List PendingBlock). Contains ks p) same among)

    looked : ArePendingBut s new rest
    looked = record { all = every; own = sifted_own; only = sifted_wait }

  -- where no block has the map
  looked_none : option_and_then (block_at s.tables) id.block ≡ None → new ≡ known → ArePendingBut s new rest
  looked_none none same = subst (λ (ks : List PendingBlock). ArePendingBut s ks rest) (sym same) (record {
    all = λ c set marked. elim (h.all c set marked) [
      | inl among ↦ inl among
      | inr fallen ↦ elim (left_or c fallen) [
        | inl left ↦ inr left
        | inr last ↦ no_value (sym none ∙ looked_at c last.0 last.1 last.2)
      ]
    ];
    own = h.own;
    only = h.only;
  })

  pub fallen_more : IsSiftedAt s (option_and_then (block_at s.tables) id.block) known new → ArePendingBut s new rest
  fallen_more sifted = go (option_and_then (block_at s.tables) id.block) refl sifted
    where
      go : (o : Option BlockPlace) → option_and_then (block_at s.tables) id.block ≡ o → IsSiftedAt s o known new → ArePendingBut s new rest
      go None is same = looked_none is same
      go (Some b) is at = looked b is at

pub fallen_end : (s : SessionState) (known : List PendingBlock) (rest : List MapId) → length rest ≡ 0 → ArePendingBut s known rest → ArePending s known
fallen_end s known (id ∷ rest) none h = absurd (let some : suc (length rest) ≡ 0 = none in omega (arith, some))
fallen_end s known [] none h = record {
  all = λ b set marked. elim (h.all b set marked) [
    | inl among ↦ among
    | inr fallen ↦ absurd (let past : fallen.among.0 < 0 = fallen.among.1 in omega (arith, past))
  ];
  own = h.own;
  only = h.only;
}

-- ---- those that wait still

-- each block that waits is among these that are left to look at, or among those that were found to wait, and these all do
pub record AreSifted (s : SessionState) (rest found : List PendingBlock) : Type 0 where
  pub all : (b : BlockPlace) → is_set s.sources.blocks b ≡ true → block_kept s b ≡ None → Contains rest (pending_of (place_of_block b))
      ⊎ Contains found (pending_of (place_of_block b))
  pub own_rest : All IsOwn rest
  pub own : All IsOwn found
  pub only : All (λ (p : PendingBlock). IsPendingAt s p.place) found

abbrev pub WaitsAt : SessionState → PendingBlock → Type 0
WaitsAt s p = IsPendingAt s p.place

pub sifted-start : (s : SessionState) (rest found : List PendingBlock) → found ≡ [] → HasAllPending s rest → AreSifted s rest found
sifted-start s rest found empty h = record {
  all = λ b set none. inl (h.all b set none);
  own_rest = All-weaker (Contains rest) IsOwn h.own rest (All-contains_itself rest);
  own = subst (λ (ks : List PendingBlock). All IsOwn ks) (sym empty) (All-nil IsOwn);
  only = subst (λ (ks : List PendingBlock). All (WaitsAt s) ks) (sym empty) (All-nil (WaitsAt s));
}

module _ (s : SessionState) (p : PendingBlock) (rest found : List PendingBlock) (h : AreSifted s (p ∷ rest) found) where
  own_first : IsOwn p
  own_first = All-head IsOwn p rest h.own_rest

  -- one that waits is put among those
  sifted-put : IsPendingAt s p.place → AreSifted s rest (insert_key pending_cmp found p)
  sifted-put on = record {
    all = λ b set none. elim (h.all b set none) [
      | inl before ↦ elim (head_or_tail p rest (pending_of (place_of_block b)) before) [
        | inl same ↦ inr (subst (λ (x : PendingBlock). Contains (insert_key pending_cmp found p) x) same (inserted found p h.own own_first))
        | inr more ↦ inl more
      ]
      | inr among ↦ inr (still_in found p (pending_of (place_of_block b)) among)
    ];
    own_rest = All-tail IsOwn p rest h.own_rest;
    own = All-insert_key pending_cmp p IsOwn found h.own own_first;
    only = All-insert_key pending_cmp p (WaitsAt s) found h.only on;
  }

  -- another is passed over
  sifted-passed : ¬ IsPendingAt s p.place → AreSifted s rest found
  sifted-passed off = record {
    all = λ b set none. elim (h.all b set none) [
      | inl before ↦ elim (head_or_tail p rest (pending_of (place_of_block b)) before) [
        | inl same ↦ absurd (off (record { block = b; is = sym (ap (λ (x : PendingBlock). x.place) same); set = set; marked = none }))
        | inr more ↦ inl more
      ]
      | inr among ↦ inr among
    ];
    own_rest = All-tail IsOwn p rest h.own_rest;
    own = h.own;
    only = h.only;
  }

  pub sifted-more : (new : List PendingBlock) → IsSifted s p found new → AreSifted s rest new
  sifted-more new (put on is) = subst (λ (ks : List PendingBlock). AreSifted s rest ks) (sym is) (sifted-put on)
  sifted-more new (passed off is) = subst (λ (ks : List PendingBlock). AreSifted s rest ks) (sym is) (sifted-passed off)

pub sifted-end : (s : SessionState) (rest found : List PendingBlock) → (0 < length rest → ⊥) → AreSifted s rest found → ArePending s found
sifted-end s rest found none h = record {
  all = λ b set marked. elim (h.all b set marked) [
    | inl among ↦ absurd (none (let past : among.0 < length rest = among.1 in omega (arith, past)))
    | inr among ↦ among
  ];
  own = λ p among. All-contains IsOwn found p h.own among;
  only = λ p among. All-contains (WaitsAt s) found p h.only among;
}
