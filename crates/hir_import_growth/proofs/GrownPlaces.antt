-- What lies above the modules that a map has stays while it grows, also beside finished maps that refer to it.
use Rattle.std.proofs.Common.{◌≡◌, ◌∙◌, ap, sym, subst, refl, ℕ, ◌<◌, List, [], ◌∷◌, ◌++◌, length, Bool, true, false, ◌&&◌, cond, Option, None, Some}
use Rattle.std.specs.Cmp.{first_so, second_so}
use Rattle.std.specs.List.{All, list_any}
use Rattle.std.specs.Option.{option_and_then, option_map}
use Rattle.std.specs.Prelude.{is_some, not, map as list_map}
use Rattle.std.proofs.lemmas.List.Elements.{All-head, All-tail}
use Rattle.hir_nameres.specs.HirIds.contracts.ids.MapIdPartialEq.TheImpl as map_id
use Rattle.hir_nameres.specs.HirIds.declared.ast_id.BlockId.{BlockId}
use Rattle.hir_nameres.specs.HirIds.declared.ids.Crate.{Crate}
use Rattle.hir_nameres.specs.HirIds.declared.ids.EnumId.{EnumId}
use Rattle.hir_nameres.specs.HirIds.declared.ids.MapId.{MapId}
use Rattle.hir_nameres.specs.HirIds.declared.ids.ModuleId.{ModuleId as AnyModule}
use Rattle.hir_nameres.specs.HirIds.declared.explicitness.VisibilityExplicitness.{VisibilityExplicitness}
use Rattle.hir_nameres.specs.HirPerNs.ModuleTree.{same_crate, same_map, same_module}
use Rattle.hir_nameres.specs.HirPerNs.Visibility.{both_in, either_written, greater_of, is_visible, lesser_of, lower_of, stands_for, upper_of}
use Rattle.hir_nameres.specs.HirPerNs.declared.visibility.Visibility.{Visibility}
use Rattle.hir_nameres.specs.HirPerNs.declared.visibility.Visibility.TheVariants.{Module, PubCrate, Public}
use Rattle.hir_nameres.specs.HirDefMapRules.Ancestors.{above_in, above_inside, above_under, frame_of, frames_of, holders_in, numbers_of}
use Rattle.hir_nameres.specs.HirDefMapRules.Inner.OverlayLaws.{frame_holders}
use Rattle.hir_nameres.specs.HirDefMapRules.Overlay.{Maps, Placed, holders_of, holders_or, holders_under, overlay, placed_in}
use Rattle.hir_nameres.specs.HirDefMapRules.Scoping.Segments.{variant_in}
use Rattle.hir_nameres.specs.Scoping.Slots.{is_in}
use Rattle.hir_nameres.specs.HirDefMapRules.State.{Map, Variants, at_name, numbered, variants_at}
use Rattle.hir_def_map_laws.proofs.SameAbove.{same_numbers_above}
use Rattle.hir_def_map_laws.specs.ReadLaw.{Grows}
use Rattle.hir_import_rules.specs.Lasting.{IsOrdered, IsPlaced}

abbrev map_of : Crate → Option BlockId → MapId
map_of k x = record { krate = k; block = x }

-- two tests of the same
same_by_eq : (a b : MapId) → map_id.ghosts.eq a b ≡ same_map a b
same_by_eq a b = go a.krate b.krate a.block b.block
  where
    go : (k l : Crate) (x y : Option BlockId) → map_id.ghosts.eq (map_of k x) (map_of l y) ≡ same_map (map_of k x) (map_of l y)
    go k l None None = refl
    go k l None (Some y) = refl
    go k l (Some x) None = refl
    go k l (Some x) (Some y) = refl

module _ (finished : Maps) (old new : Map) (grows : Grows old new) (ordered : IsOrdered finished old) where
  abbrev own : MapId
  own = old.id

  abbrev pub before : Maps
  before = overlay finished old

  abbrev pub after : Maps
  after = overlay finished new

  abbrev Out : AnyModule → Type 0
  Out m = is_in own m ≡ false

  -- ---- maps

  before_own : (id : MapId) → map_id.ghosts.eq id own ≡ true → before id ≡ Some (placed_in finished old)
  before_own id e = ap (λ (b : Bool). cond b (Some (placed_in finished old)) (finished id)) e

  after_own : (id : MapId) → map_id.ghosts.eq id own ≡ true → after id ≡ Some (placed_in finished new)
  after_own id e = ap (λ (b : Bool). cond b (Some (placed_in finished new)) (finished id)) (ap (map_id.ghosts.eq id) grows.id ∙ e)

  same_out : (id : MapId) → map_id.ghosts.eq id own ≡ false → after id ≡ before id
  same_out id e =
      ap (λ (b : Bool). cond b (Some (placed_in finished new)) (finished id)) (ap (map_id.ghosts.eq id) grows.id ∙ e)
      ∙ sym (ap (λ (b : Bool). cond b (Some (placed_in finished old)) (finished id)) e)

  -- ---- holders

  same_placed : (placed_in finished new).holders ≡ (placed_in finished old).holders
  same_placed = λ i. holders_or (finished (grows.id i)) (holders_under finished (grows.id i) (grows.holder i))

  pub same_holders : (m : AnyModule) → holders_in after m ≡ holders_in before m
  unfolding frames_of
  same_holders m = frame_holders (after m.map) ∙ go (map_id.ghosts.eq m.map own) refl ∙ sym (frame_holders (before m.map))
    where
      go : (b : Bool) → map_id.ghosts.eq m.map own ≡ b → holders_of (after m.map) ≡ holders_of (before m.map)
      go true e = ap holders_of (after_own m.map e) ∙ same_placed ∙ sym (ap holders_of (before_own m.map e))
      go false e = ap holders_of (same_out m.map e)

  holders_outside : (m : AnyModule) → is_in own m ≡ true → All Out (holders_in before m)
  unfolding frames_of
  holders_outside m e = subst (All Out) (sym (frame_holders (before m.map) ∙ ap holders_of (before_own m.map e))) ordered.holders

  -- ---- what lies above

  inside_own : (m : AnyModule) → is_in own m ≡ true → m.index < length old.modules → above_inside (frames_of after) m ≡ above_inside (frames_of before) m
  unfolding frames_of
  inside_own m e low =
      ap (list_map (numbered m.map))
      (ap (λ (o : Option Placed). numbers_of (option_map frame_of o) m.index) (after_own m.map e)
      ∙ same_numbers_above old new grows ordered.in_order finished m.index low
      ∙ sym (ap (λ (o : Option Placed). numbers_of (option_map frame_of o) m.index) (before_own m.map e)))

  inside_out : (m : AnyModule) → Out m → above_inside (frames_of after) m ≡ above_inside (frames_of before) m
  unfolding frames_of
  inside_out m e = ap (λ (o : Option Placed). list_map (numbered m.map) (numbers_of (option_map frame_of o) m.index)) (same_out m.map e)

  under_out : (hs : List AnyModule) (m : AnyModule) → Out m → All Out hs → above_under (frames_of after) hs m ≡ above_under (frames_of before) hs m
  under_out [] m out all = inside_out m out
  under_out (h ∷ hs) m out all =
      let inside : above_inside (frames_of after) m ≡ above_inside (frames_of before) m = inside_out m out in
      let outwards : above_under (frames_of after) hs h ≡ above_under (frames_of before) hs h = under_out hs h (All-head Out h hs all) (All-tail Out h hs all)
      in
      λ i. inside i ++ h ∷ outwards i

  under_own : (hs : List AnyModule) (m : AnyModule) → is_in own m ≡ true → m.index < length old.modules → All Out hs → above_under (frames_of after) hs m
      ≡ above_under (frames_of before) hs m
  under_own [] m e low all = inside_own m e low
  under_own (h ∷ hs) m e low all =
      let inside : above_inside (frames_of after) m ≡ above_inside (frames_of before) m = inside_own m e low in
      let outwards : above_under (frames_of after) hs h ≡ above_under (frames_of before) hs h = under_out hs h (All-head Out h hs all) (All-tail Out h hs all)
      in
      λ i. inside i ++ h ∷ outwards i

  -- the same lies above a module of the map
  same_above : (m : AnyModule) → is_in own m ≡ true → m.index < length old.modules → above_in after m ≡ above_in before m
  unfolding above_in
  same_above m e low =
      ap (λ (hs : List AnyModule). above_under (frames_of after) hs m) (same_holders m)
      ∙ under_own (holders_in before m) m e low (holders_outside m e)

  -- and it sees the same
  pub same_visible : (from : AnyModule) → is_in own from ≡ true → from.index < length old.modules → (v : Visibility)
      → is_visible (above_in after) (holders_in after) v from ≡ is_visible (above_in before) (holders_in before) v from
  same_visible from e low (Module m explicitness) = λ i.
      same_crate from.map.krate m.map.krate && list_any (same_module (stands_for from m (same_holders m i))) (from ∷ same_above from e low i)
  same_visible from e low (PubCrate c) = refl
  same_visible from e low Public = refl

  -- ---- variants

  pub same_variant : (id : EnumId) (name : List ℕ) → (map_id.ghosts.eq id.loc.container.map own && not (is_some (variants_at old id))) ≡ false
      → variant_in after id name ≡ variant_in before id name
  same_variant id name has = go (map_id.ghosts.eq id.loc.container.map own) refl has
    where
      stays : (o : Option Variants) → variants_at old id ≡ o → not (is_some o) ≡ false → variants_at new id ≡ variants_at old id
      stays None e f = absurd cc
      stays (Some variants) e f = grows.enums id variants e ∙ sym e

      go : (b : Bool) → map_id.ghosts.eq id.loc.container.map own ≡ b → (b && not (is_some (variants_at old id))) ≡ false → variant_in after id name
          ≡ variant_in before id name
      go true e f =
          ap (λ (o : Option Variants). option_and_then (λ (vs : Variants). at_name vs name) o)
          (ap (λ (o : Option Placed). option_and_then (λ (placed : Placed). variants_at placed.map id) o) (after_own id.loc.container.map e)
          ∙ stays (variants_at old id) refl f
          ∙ sym (ap (λ (o : Option Placed). option_and_then (λ (placed : Placed). variants_at placed.map id) o) (before_own id.loc.container.map e)))
      go false e f =
          ap (λ (o : Option Placed). option_and_then (λ (vs : Variants). at_name vs name) (option_and_then (λ (placed : Placed). variants_at placed.map id) o))
          (same_out id.loc.container.map e)

  -- ---- the greater and the lesser of two visibilities whose modules are there

  module _ (m n : AnyModule) (d e : VisibilityExplicitness) (first : IsPlaced old (Module m d)) (second : IsPlaced old (Module n e)) where
    first_own : both_in own m n ≡ true → is_in own m ≡ true
    first_own b = same_by_eq m.map own ∙ first_so (same_map m.map own) (same_map n.map own) b

    second_own : both_in own m n ≡ true → is_in own n ≡ true
    second_own b = same_by_eq n.map own ∙ second_so (same_map m.map own) (same_map n.map own) b

    -- the upper and the lower of both, by what lies above each
    abbrev upper_by : Bool → List AnyModule → List AnyModule → Option Visibility
    upper_by both above_m above_n =
        cond (same_module m n) (Some (Module m (either_written d e)))
        (cond both (cond (list_any (same_module n) (m ∷ above_m)) (Some (Module n e)) (cond (list_any (same_module m) (n ∷ above_n)) (Some (Module m d)) None))
        None)

    abbrev lower_by : Bool → List AnyModule → List AnyModule → Option Visibility
    lower_by both above_m above_n =
        cond (same_module m n) (Some (Module m (either_written d e)))
        (cond both (cond (list_any (same_module n) (m ∷ above_m)) (Some (Module m d)) (cond (list_any (same_module m) (n ∷ above_n)) (Some (Module n e)) None))
        None)

    first_same : both_in own m n ≡ true → above_in after m ≡ above_in before m
    first_same b = same_above m (first_own b) (first (first_own b))

    second_same : both_in own m n ≡ true → above_in after n ≡ above_in before n
    second_same b = same_above n (second_own b) (second (second_own b))

    same_upper : upper_of (above_in after) own m d n e ≡ upper_of (above_in before) own m d n e
    same_upper = go (both_in own m n) refl
      where
        go : (b : Bool) → both_in own m n ≡ b → upper_by (both_in own m n) (above_in after m) (above_in after n)
            ≡ upper_by (both_in own m n) (above_in before m) (above_in before n)
        go true b = λ i. upper_by (both_in own m n) (first_same b i) (second_same b i)
        go false b =
            ap (λ (t : Bool). upper_by t (above_in after m) (above_in after n)) b ∙ sym (ap (λ (t : Bool). upper_by t (above_in before m) (above_in before n))
            b)

    same_lower : lower_of (above_in after) own m d n e ≡ lower_of (above_in before) own m d n e
    same_lower = go (both_in own m n) refl
      where
        go : (b : Bool) → both_in own m n ≡ b → lower_by (both_in own m n) (above_in after m) (above_in after n)
            ≡ lower_by (both_in own m n) (above_in before m) (above_in before n)
        go true b = λ i. lower_by (both_in own m n) (first_same b i) (second_same b i)
        go false b =
            ap (λ (t : Bool). lower_by t (above_in after m) (above_in after n)) b ∙ sym (ap (λ (t : Bool). lower_by t (above_in before m) (above_in before n))
            b)

  pub same_greater : (a b : Visibility) → IsPlaced old a → IsPlaced old b → greater_of (above_in after) own a b ≡ greater_of (above_in before) own a b
  same_greater Public b first second = refl
  same_greater (PubCrate c) Public first second = refl
  same_greater (PubCrate c) (PubCrate d) first second = refl
  same_greater (PubCrate c) (Module m e) first second = refl
  same_greater (Module m e) Public first second = refl
  same_greater (Module m e) (PubCrate c) first second = refl
  same_greater (Module m d) (Module n e) first second = same_upper m n d e first second

  pub same_lesser : (a b : Visibility) → IsPlaced old a → IsPlaced old b → lesser_of (above_in after) own a b ≡ lesser_of (above_in before) own a b
  same_lesser Public b first second = refl
  same_lesser (PubCrate c) Public first second = refl
  same_lesser (PubCrate c) (PubCrate d) first second = refl
  same_lesser (PubCrate c) (Module m e) first second = refl
  same_lesser (Module m e) Public first second = refl
  same_lesser (Module m e) (PubCrate c) first second = refl
  same_lesser (Module m d) (Module n e) first second = same_lower m n d e first second
