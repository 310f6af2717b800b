-- What is read of a map, whatever variants its enums have.
use Rattle.std.proofs.Common.{◌≡◌, ◌∙◌, ap, refl, ℕ, zero, suc, List, Bool, true, false, ◌||◌, cond, Option, None, Some}
use Rattle.std.specs.Option.{option_and_then, option_map}
use Rattle.hir_nameres.specs.HirIds.declared.ids.Crate.{Crate}
use Rattle.hir_nameres.specs.HirIds.declared.ids.EnumId.{EnumId}
use Rattle.hir_nameres.specs.HirIds.declared.ids.MapId.{MapId}
use Rattle.hir_nameres.specs.HirIds.declared.ids.UseId.{UseId}
use Rattle.hir_nameres.specs.HirIds.declared.ids.ModuleId.{ModuleId as AnyModule}
use Rattle.hir_nameres.specs.HirIds.contracts.ids.MapIdPartialEq.TheImpl as map_id
use Rattle.hir_nameres.specs.HirPerNs.ModuleTree.{same_crate}
use Rattle.hir_nameres.specs.HirPerNs.PerNs.{keep_of, or_of}
use Rattle.hir_nameres.specs.HirPerNs.Visibility.{is_visible}
use Rattle.hir_nameres.specs.HirPerNs.declared.per_ns.PerNs.{PerNs}
use Rattle.hir_nameres.specs.HirDefMapRules.Ancestors.{above_by, above_in, frame_of, frames_of, holders_by, holders_in}
use Rattle.hir_nameres.specs.HirDefMapRules.Overlay.{Maps, Placed, entry_in, map_in, module_in, overlay, parent_in, placed_in}
use Rattle.hir_nameres.specs.HirDefMapRules.Scoping.Asking.{Asking}
use Rattle.hir_nameres.specs.HirDefMapRules.Scoping.FirstSegment.{builtin_name, extern_name, legacy_bound, legacy_of, macro_use_bound, macro_use_of}
use Rattle.hir_nameres.specs.HirDefMapRules.Scoping.FirstSegment.{name_in_crate_root_or_extern_prelude, name_in_module}
use Rattle.hir_nameres.specs.HirDefMapRules.Scoping.FirstSegment.{name_in_preludes, of_style, prelude_bound}
use Rattle.hir_nameres.specs.HirDefMapRules.Scoping.FirstSegment.{prelude_name, prelude_of, shadow_before, unless_block_root, with_builtin}
use Rattle.hir_nameres.specs.HirDefMapRules.Scoping.Segments.{nearest_non_block_among, nearest_non_block_module, seen}
use Rattle.hir_nameres.specs.HirDefMapRules.Scoping.Start.{climb, is_dependency, is_in_edition_2015, is_in_reach}
use Rattle.hir_nameres.specs.HirDefMapRules.State.{Map, ModuleValue, Variants, crate_root, entry_of, module_at, parent_of}

module _ (finished : Maps) (map : Map) (enums : List (EnumId × Variants)) where
  -- the map with other enums, and as it is
  abbrev pub one : Maps
  one = overlay finished (record map { enums = enums })

  abbrev pub other : Maps
  other = overlay finished map

  -- what is read of each map but its enums is the same
  pub over : {X : Type 0} (f : Option Placed → X) → f (Some (placed_in finished (record map { enums = enums }))) ≡ f (Some (placed_in finished map))
      → (id : MapId) → f (one id) ≡ f (other id)
  over f e id = go (map_id.ghosts.eq id map.id)
    where
      go : (b : Bool) → f (cond b (Some (placed_in finished (record map { enums = enums }))) (finished id))
          ≡ f (cond b (Some (placed_in finished map)) (finished id))
      go true = e
      go false = refl

  pub same_module : (m : AnyModule) → module_in one m ≡ module_in other m
  same_module m = over (λ (o : Option Placed). option_and_then (λ (placed : Placed). module_at placed.map m.index) o) refl m.map

  pub same_frames : frames_of one ≡ frames_of other
  unfolding frames_of
  same_frames = λ i id. over (λ (o : Option Placed). option_map frame_of o) refl id i

  pub same_above : above_in one ≡ above_in other
  unfolding above_in
  same_above = λ i m. above_by (same_frames i) m

  pub same_holders : (m : AnyModule) → holders_in one m ≡ holders_in other m
  same_holders m = λ i. holders_by (same_frames i) m

  pub same_nearest : nearest_non_block_module one ≡ nearest_non_block_module other
  unfolding nearest_non_block_module
  same_nearest = λ i m. nearest_non_block_among m (same_holders m i)

  pub same_parent : (m : AnyModule) → parent_in one m ≡ parent_in other m
  same_parent m = ap parent_of (same_module m)

  pub same_climb : (n : ℕ) → climb one n ≡ climb other n
  same_climb zero = λ i m. Some m
  same_climb (suc n) = λ i m. option_and_then (λ p. same_climb n i (same_nearest i p)) (same_parent m i)

  pub same_2015 : (id : MapId) → is_in_edition_2015 (map_in one id) ≡ is_in_edition_2015 (map_in other id)
  same_2015 id = over (λ (o : Option Placed). is_in_edition_2015 (option_map (λ (placed : Placed). placed.map) o)) refl id

  pub same_reach : (from : AnyModule) (c : Crate) → is_in_reach one from c ≡ is_in_reach other from c
  same_reach from c =
      ap (λ (b : Bool). same_crate c from.map.krate || b) (over (λ (o : Option Placed). is_dependency (option_map (λ (placed : Placed). placed.map) o) c) refl
      from.map)

  pub same_prelude_of : (id : MapId) → prelude_of (map_in one id) ≡ prelude_of (map_in other id)
  same_prelude_of id = over (λ (o : Option Placed). prelude_of (option_map (λ (placed : Placed). placed.map) o)) refl id

  pub same_macro_use : (id : MapId) (name : List ℕ) → macro_use_of (map_in one id) name ≡ macro_use_of (map_in other id) name
  same_macro_use id name = over (λ (o : Option Placed). macro_use_of (option_map (λ (placed : Placed). placed.map) o) name) refl id

  -- ---- one name

  module _ (name : List ℕ) where
    pub same_entry : (m : AnyModule) → entry_in one m name ≡ entry_in other m name
    same_entry m = ap (λ (o : Option ModuleValue). entry_of o name) (same_module m)

    abbrev pub seen_under : Maps → AnyModule → AnyModule → PerNs
    seen_under maps from at = seen maps from at name

    pub same_seen : seen_under one ≡ seen_under other
    same_seen = λ i from at. keep_of (λ v. is_visible (same_above i) (λ m. same_holders m i) v from) (same_entry at i)

    pub same_bound : (o : Option (AnyModule × Option UseId)) → prelude_bound one o name ≡ prelude_bound other o name
    same_bound None = refl
    same_bound (Some p) = same_entry p.0

    pub same_prelude : (at : AnyModule) → prelude_name one at name ≡ prelude_name other at name
    same_prelude at =
        ap (λ (o : Option (AnyModule × Option UseId)). prelude_bound one o name) (same_prelude_of at.map) ∙ same_bound (prelude_of (map_in other at.map))

    pub same_in_module : (asking : Asking) (ss : List (List ℕ)) (at : AnyModule)
        → name_in_module one asking.local asking.sub_ns (shadow_before ss asking.shadow) at name ≡ name_in_module other asking.local asking.sub_ns
        (shadow_before ss asking.shadow) at name
    same_in_module asking ss at = λ i.
        or_of (or_of (or_of (or_of (legacy_bound asking.sub_ns (legacy_of (same_module at i) name))
        (with_builtin (shadow_before ss asking.shadow) (of_style asking.sub_ns (same_entry at i)) (builtin_name at name)))
        (unless_block_root at (extern_name asking.local name)))
        (macro_use_bound (same_macro_use at.map name i)))
        (unless_block_root at (same_prelude at i))

    pub same_in_preludes : (asking : Asking) (at : AnyModule) → name_in_preludes one asking.local at name ≡ name_in_preludes other asking.local at name
    same_in_preludes asking at = λ i. or_of (or_of (extern_name asking.local name) (macro_use_bound (same_macro_use at.map name i))) (same_prelude at i)

    pub same_in_root : (asking : Asking) (at : AnyModule) → name_in_crate_root_or_extern_prelude one asking.local at name ≡ name_in_crate_root_or_extern_prelude
        other asking.local at name
    same_in_root asking at = λ i. or_of (same_entry (crate_root at.map.krate) i) (unless_block_root at (extern_name asking.local name))
