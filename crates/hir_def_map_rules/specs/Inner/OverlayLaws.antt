-- A map beside finished ones is in its place.
use Rattle.std.specs.Prelude.{◌≡◌, ◌==◌, Bool, true, false, ◌&&◌, is_some, Option, None, Some, List, [], ◌∷◌, cond, option_map}
use Rattle.std.specs.Cmp.{unsigned_Decides, first_so, second_so}
use Rattle.std.proofs.Common.{refl, ap, sym, subst, ◌∙◌}
use mathlib.Core.Bool.{true≢false}
use Rattle.hir_scope.specs.HirIds.declared.ast_id.BlockId.{BlockId}
use Rattle.hir_scope.specs.HirIds.declared.ids.Crate.{Crate}
use Rattle.hir_scope.specs.HirIds.declared.ids.MapId.{MapId}
use Rattle.hir_scope.specs.HirIds.declared.ids.ModuleId.{ModuleId}
use Rattle.hir_scope.specs.HirIds.contracts.ids.MapIdPartialEq.TheImpl as map_id
use Rattle.hir_scope.specs.HirPerNs.ModuleTree.{same_crate}
use Rattle.hir_def_map_rules.specs.State.{Local, Map}
use Rattle.hir_def_map_rules.specs.Overlay.{Maps, Placed, overlay, holders_of, holders_or, holders_under, no_maps, placed_with, with_map}
use Rattle.hir_def_map_rules.specs.Ancestors.{frame_of, frames_of, holders_of_frame, HolderLeads, IsPlaced}

-- ---- equal by the tests

pub exact_crate : (a b : Crate) → same_crate a b ≡ true → a ≡ b
exact_crate a b e = λ i. record { 0 = (unsigned_Decides a.0 b.0).0 e i }

abbrev map_of : Crate → Option BlockId → MapId
map_of k x = record { krate = k; block = x }

pub exact_map : (a b : MapId) → map_id.ghosts.eq a b ≡ true → a ≡ b
exact_map a b e = go a.krate b.krate a.block b.block e
  where
    go : (k l : Crate) (x y : Option BlockId) → map_id.ghosts.eq (map_of k x) (map_of l y) ≡ true → map_of k x ≡ map_of l y
    go k l None None e = λ i. record { krate = record { 0 = (unsigned_Decides k.0 l.0).0 (first_so (k.0 == l.0) true e) i }; block = None }
    go k l None (Some y) e = absurd (true≢false (sym (second_so (k.0 == l.0) false e)))
    go k l (Some x) None e = absurd (true≢false (sym (second_so (k.0 == l.0) false e)))
    go k l (Some x) (Some y) e = λ i. record {
      krate = record { 0 = (unsigned_Decides k.0 l.0).0 (first_so (k.0 == l.0) (x.0 == y.0) e) i };
      block = Some (record { 0 = (unsigned_Decides x.0 y.0).0 (second_so (k.0 == l.0) (x.0 == y.0) e) i });
    }

pub same_id : (id : MapId) → map_id.ghosts.eq id id ≡ true
same_id id = go id.block
  where
    first : (id.krate.0 == id.krate.0) ≡ true
    first = (unsigned_Decides id.krate.0 id.krate.0).1 refl

    go : (b : Option BlockId) → map_id.ghosts.eq (record { krate = id.krate; block = b }) (record { krate = id.krate; block = b }) ≡ true
    go None = rw first refl
    go (Some b) = rw (first, (unsigned_Decides b.0 b.0).1 refl) refl

-- ---- in their places

pub frame_holders : (o : Option Placed) → holders_of_frame (option_map frame_of o) ≡ holders_of o
frame_holders None = refl
frame_holders (Some p) = refl

there : (o : Option Placed) → is_some (option_map frame_of o) ≡ is_some o
there None = refl
there (Some p) = refl

module _ (finished : Maps) (map : Map) (local : Local) where
  -- where a map is finished, one of its id is there
  still_there : (id : MapId) → is_some (finished id) ≡ true → is_some (with_map finished map local id) ≡ true
  still_there id e = go (map_id.ghosts.eq id map.id)
    where
      go : (b : Bool) → is_some (cond b (Some (placed_with finished map local)) (finished id)) ≡ true
      go true = refl
      go false = e

  -- and has its holders
  same_holders : (id : MapId) → is_some (finished id) ≡ true → holders_of (with_map finished map local id) ≡ holders_of (finished id)
  same_holders id e = go (map_id.ghosts.eq id map.id) refl
    where
      own : (o : Option Placed) → is_some o ≡ true → holders_or o (holders_under finished map.id map.holder) ≡ holders_of o
      own None f = absurd cc
      own (Some p) f = refl

      go : (b : Bool) → map_id.ghosts.eq id map.id ≡ b → holders_of (cond b (Some (placed_with finished map local)) (finished id)) ≡ holders_of (finished id)
      go true s =
          let same : finished map.id ≡ finished id = ap finished (sym (exact_map id map.id s)) in
          own (finished map.id) (ap is_some same ∙ e) ∙ ap holders_of same
      go false s = refl

  leads_beside : (id : MapId) (h : ModuleId) (hs : List ModuleId) → HolderLeads (frames_of finished) id h hs
      → HolderLeads (frames_of (with_map finished map local)) id h hs
  unfolding frames_of
  leads_beside id h hs l =
      let is_there : is_some (finished h.map) ≡ true = sym (there (finished h.map)) ∙ l.1 in (
        l.0,
        there (with_map finished map local h.map) ∙ still_there h.map is_there,
        frame_holders (with_map finished map local h.map) ∙ same_holders h.map is_there ∙ sym (frame_holders (finished h.map)) ∙ l.2,
      )

  under : (id : MapId) → id ≡ map.id → (o : Option ModuleId) (h : ModuleId) (hs : List ModuleId) → holders_under finished map.id o ≡ h ∷ hs
      → HolderLeads (frames_of (with_map finished map local)) id h hs
  unfolding frames_of
  under id e None h hs f = absurd cc
  under id e (Some k) h hs f = go (same_crate k.map.krate map.id.krate) refl (is_some (finished k.map)) refl f
    where
      go : (b : Bool) → same_crate k.map.krate map.id.krate ≡ b → (c : Bool) → is_some (finished k.map) ≡ c
          → cond (b && c) (k ∷ holders_of (finished k.map)) [] ≡ h ∷ hs → HolderLeads (frames_of (with_map finished map local)) id h hs
      go false s c t f = absurd cc
      go true s false t f = absurd cc
      go true s true t f =
          let first : k ≡ h = cc in
          let left : holders_of (finished k.map) ≡ hs = cc in
          subst (λ (x : ModuleId). HolderLeads (frames_of (with_map finished map local)) id x hs) first (
            exact_crate k.map.krate map.id.krate s ∙ ap (λ (x : MapId). x.krate) (sym e),
            there (with_map finished map local k.map) ∙ still_there k.map t,
            frame_holders (with_map finished map local k.map) ∙ same_holders k.map t ∙ left,
          )

  -- a map that joins finished ones that are in their places is in its own
  pub IsPlaced-with_map : IsPlaced finished → IsPlaced (with_map finished map local)
  unfolding frames_of
  IsPlaced-with_map placed id h hs e = go (map_id.ghosts.eq id map.id) refl e
    where
      own : id ≡ map.id → (o : Option Placed) → finished map.id ≡ o → holders_or o (holders_under finished map.id map.holder) ≡ h ∷ hs
          → HolderLeads (frames_of (with_map finished map local)) id h hs
      own same None s f = under id same map.holder h hs f
      own same (Some p) s f =
          leads_beside id h hs (placed id h hs (frame_holders (finished id) ∙ ap (λ (x : MapId). holders_of (finished x)) same ∙ ap holders_of s ∙ f))

      go : (b : Bool) → map_id.ghosts.eq id map.id ≡ b → holders_of_frame (option_map frame_of (cond b (Some (placed_with finished map local)) (finished id)))
          ≡ h ∷ hs → HolderLeads (frames_of (with_map finished map local)) id h hs
      go true s f = own (exact_map id map.id s) (finished map.id) refl f
      go false s f = leads_beside id h hs (placed id h hs f)

-- so is one beside them
pub IsPlaced-overlay : (finished : Maps) (map : Map) → IsPlaced finished → IsPlaced (overlay finished map)
IsPlaced-overlay finished map placed = IsPlaced-with_map finished map [] placed

pub IsPlaced-no_maps : IsPlaced no_maps
unfolding frames_of
IsPlaced-no_maps id h hs e = absurd cc
