-- Paths over maps that agree on their names.
use Rattle.std.proofs.Common.{◌≡◌, ◌∙◌, ap, sym, refl, ℕ, zero, suc, ◌+◌, List, [], ◌∷◌, Bool, false, ◌&&◌, ◌||◌, cond, Option, None, Some}
use Rattle.std.specs.List.{All, list_any}
use Rattle.std.specs.Option.{option_and_then, option_map}
use Rattle.std.specs.Prelude.{is_some, not, slice_get}
use Rattle.std.proofs.lemmas.List.Elements.{All-head, All-tail}
use Rattle.hir_nameres.specs.HirIds.declared.ids.AdtId.{AdtId}
use Rattle.hir_nameres.specs.HirIds.declared.ids.Crate.{Crate}
use Rattle.hir_nameres.specs.HirIds.declared.ids.MapId.{MapId}
use Rattle.hir_nameres.specs.HirIds.declared.ids.ModuleDefId.{ModuleDefId}
use Rattle.hir_nameres.specs.HirBase.declared.mod_path.PathKind.{PathKind}
use Rattle.hir_nameres.specs.HirIds.declared.ids.UseId.{UseId}
use Rattle.hir_nameres.specs.HirIds.declared.ids.AdtId.TheVariants as adts
use Rattle.hir_nameres.specs.HirIds.declared.ids.ModuleId.{ModuleId as AnyModule}
use Rattle.hir_nameres.specs.HirIds.declared.ids.ModuleDefId.TheVariants.{ModuleId, FunctionId, AdtId as AnyAdt, EnumVariantId}
use Rattle.hir_nameres.specs.HirIds.declared.ids.ModuleDefId.TheVariants.{ConstId, StaticId, TraitId, TypeAliasId}
use Rattle.hir_nameres.specs.HirIds.declared.ids.ModuleDefId.TheVariants.{BuiltinType, MacroId}
use Rattle.hir_nameres.specs.HirBase.declared.mod_path.PathKind.TheVariants as kinds
use Rattle.hir_nameres.specs.HirPerNs.declared.imports.ImportOrExternCrate.{ImportOrExternCrate}
use Rattle.hir_nameres.specs.HirPerNs.declared.per_ns.PerNs.{PerNs}
use Rattle.hir_nameres.specs.HirPerNs.PerNs.{Item, keep_of, nothing, or_of}
use Rattle.hir_nameres.specs.HirPerNs.ModuleTree.{same_block, same_crate}
use Rattle.hir_nameres.specs.HirPerNs.Visibility.{is_visible}
use Rattle.hir_nameres.specs.HirDefMapRules.State.{CrateData, Map, module_at, parent_of, root_of, crate_root}
use Rattle.hir_nameres.specs.HirDefMapRules.Overlay.{Maps, Placed, entry_in, map_in, parent_in}
use Rattle.hir_nameres.proofs.HirDefMapRules.WellFormed.{parent_listed}
use Rattle.hir_nameres.specs.HirDefMapRules.Ancestors.{Frame, above_by, above_in, frame_of, frames_of, holders_by, holders_in}
use Rattle.hir_nameres.specs.HirDefMapRules.Scoping.Asking.{Asking}
use Rattle.hir_nameres.specs.HirDefMapRules.Scoping.Blocks.{from_blocks, in_preludes, inherited, joined, with_preludes}
use Rattle.hir_nameres.specs.HirDefMapRules.Scoping.FirstSegment.{builtin_name, extern_name, is_block_root, legacy_bound, macro_use_bound, name_in_module}
use Rattle.hir_nameres.specs.HirDefMapRules.Scoping.FirstSegment.{name_in_preludes, name_in_crate_root_or_extern_prelude, of_style, prelude_bound, prelude_name}
use Rattle.hir_nameres.specs.HirDefMapRules.Scoping.FirstSegment.{prelude_of, shadow_before, unless_block_root, with_builtin}
use Rattle.hir_nameres.specs.HirDefMapRules.Scoping.Segments.{after_enum, crossing, nearest_non_block_among, nearest_non_block_module}
use Rattle.hir_nameres.specs.HirDefMapRules.Scoping.Segments.{rest, seen, through, through_adt}
use Rattle.hir_nameres.specs.HirDefMapRules.Scoping.Segments.{through_type, unresolved}
use Rattle.hir_nameres.specs.HirDefMapRules.Scoping.Start.{abs_from, climb, from_start, is_edition_2015, is_dependency, is_import, is_in_reach, module_bound}
use Rattle.hir_nameres.specs.HirDefMapRules.Scoping.Start.{is_in_edition_2015, settled_in_block, super_from}
use Rattle.hir_nameres.specs.HirDefMapRules.declared.path_result.ReachedFixedPoint.TheVariants.{No}
use Rattle.hir_nameres.specs.HirDefMapRules.declared.path_result.ResolvePathResult.{ResolvePathResult}
use Rattle.hir_def_map_laws.specs.Paths.{data_of, AgreeOnName}
use Rattle.hir_nameres.specs.Scoping.Slots.{prelude_module_of}

-- ---- parents, read off frames

abbrev parent_by : Option Frame → ℕ → Option AnyModule
parent_by None at = None
parent_by (Some frame) at = option_and_then (λ (p : Option AnyModule). p) (slice_get frame.parents at)

parent-by : (o : Option Placed) (at : ℕ) → parent_by (option_map frame_of o) at ≡ parent_of (option_and_then (λ (placed : Placed). module_at placed.map at) o)
parent-by None at = refl
parent-by (Some placed) at = parent_listed placed.map.modules at

-- ---- what is read of a crate's data

abbrev data_2015 : Option CrateData → Bool
data_2015 None = false
data_2015 (Some said) = is_edition_2015 said.edition

data-2015 : (o : Option Map) → is_in_edition_2015 o ≡ data_2015 (data_of o)
data-2015 None = refl
data-2015 (Some map) = refl

abbrev data_dependency : Option CrateData → Crate → Bool
data_dependency None c = false
data_dependency (Some said) c = list_any (same_crate c) said.dependencies

data-dependency : (o : Option Map) (c : Crate) → is_dependency o c ≡ data_dependency (data_of o) c
data-dependency None c = refl
data-dependency (Some map) c = refl

-- ---- what is read of a prelude

abbrev pub bound_in : (AnyModule → PerNs) → Option AnyModule → PerNs
bound_in entry None = nothing
bound_in entry (Some m) = entry m

pub bound-in : (maps : Maps) (o : Option Map) (name : List ℕ) → prelude_bound maps (prelude_of o) name ≡ bound_in (λ m. entry_in maps m name)
    (prelude_module_of o)
bound-in maps o name = go (prelude_of o)
  where
    go : (p : Option (AnyModule × Option UseId)) → prelude_bound maps p name ≡ bound_in (λ m. entry_in maps m name) (option_map (λ x. x.0) p)
    go None = refl
    go (Some p) = refl

-- ---- maps that agree on frames, data and prelude modules

module _ (one other : Maps) (frames : (id : MapId) → frames_of one id ≡ frames_of other id) (datas : (id : MapId) → data_of (map_in one id) ≡ data_of (map_in other id))
    (preludes : (id : MapId) → prelude_module_of (map_in one id) ≡ prelude_module_of (map_in other id)) where
  same_frames : frames_of one ≡ frames_of other
  same_frames = λ i id. frames id i

  same_above : above_in one ≡ above_in other
  unfolding above_in
  same_above = λ i m. above_by (λ id. frames id i) m

  same_holders : (m : AnyModule) → holders_in one m ≡ holders_in other m
  same_holders m = λ i. holders_by (λ id. frames id i) m

  same_nearest : nearest_non_block_module one ≡ nearest_non_block_module other
  unfolding nearest_non_block_module
  same_nearest = λ i m. nearest_non_block_among m (same_holders m i)

  same_parent : (m : AnyModule) → parent_in one m ≡ parent_in other m
  unfolding frames_of
  same_parent m = sym (parent-by (one m.map) m.index) ∙ ap (λ (o : Option Frame). parent_by o m.index) (frames m.map) ∙ parent-by (other m.map) m.index

  same_2015 : (id : MapId) → is_in_edition_2015 (map_in one id) ≡ is_in_edition_2015 (map_in other id)
  same_2015 id = data-2015 (map_in one id) ∙ ap data_2015 (datas id) ∙ sym (data-2015 (map_in other id))

  same_dependency : (id : MapId) (c : Crate) → is_dependency (map_in one id) c ≡ is_dependency (map_in other id) c
  same_dependency id c =
      data-dependency (map_in one id) c ∙ ap (λ (o : Option CrateData). data_dependency o c) (datas id) ∙ sym (data-dependency (map_in other id) c)

  same_reach : (from : AnyModule) (c : Crate) → is_in_reach one from c ≡ is_in_reach other from c
  same_reach from c = ap (λ (b : Bool). same_crate c from.map.krate || b) (same_dependency from.map c)

  same_climb : (n : ℕ) → climb one n ≡ climb other n
  same_climb zero = λ i m. Some m
  same_climb (suc n) = λ i m. option_and_then (λ p. same_climb n i (same_nearest i p)) (same_parent m i)

  -- ---- one name

  module _ (name : List ℕ) (agree : AgreeOnName one other name) where
    abbrev seen_under : Maps → AnyModule → AnyModule → PerNs
    seen_under maps from at = seen maps from at name

    same_seen : seen_under one ≡ seen_under other
    same_seen = λ i from at. keep_of (λ v. is_visible (same_above i) (λ m. same_holders m i) v from) (agree.entries at i)

    same_prelude : (at : AnyModule) → prelude_name one at name ≡ prelude_name other at name
    same_prelude at =
        bound-in one (map_in one at.map) name
        ∙ (λ i. bound_in (λ m. agree.entries m i) (preludes at.map i))
        ∙ sym (bound-in other (map_in other at.map) name)

    same_in_module : (asking : Asking) (ss : List (List ℕ)) (at : AnyModule)
        → name_in_module one asking.local asking.sub_ns (shadow_before ss asking.shadow) at name ≡ name_in_module other asking.local asking.sub_ns
        (shadow_before ss asking.shadow) at name
    same_in_module asking ss at = λ i.
        or_of (or_of (or_of (or_of (legacy_bound asking.sub_ns (agree.legacy at i))
        (with_builtin (shadow_before ss asking.shadow) (of_style asking.sub_ns (agree.entries at i)) (builtin_name at name)))
        (unless_block_root at (extern_name asking.local name)))
        (macro_use_bound (agree.macro_uses at.map i)))
        (unless_block_root at (same_prelude at i))

    same_in_preludes : (asking : Asking) (at : AnyModule) → name_in_preludes one asking.local at name ≡ name_in_preludes other asking.local at name
    same_in_preludes asking at = λ i. or_of (or_of (extern_name asking.local name) (macro_use_bound (agree.macro_uses at.map i))) (same_prelude at i)

    same_in_root : (asking : Asking) (at : AnyModule) → name_in_crate_root_or_extern_prelude one asking.local at name ≡ name_in_crate_root_or_extern_prelude
        other asking.local at name
    same_in_root asking at = λ i.
        or_of (agree.entries (root_of (record { krate = at.map.krate; block = None })) i) (unless_block_root at (extern_name asking.local name))

    same_through : (f g : AnyModule → PerNs → ResolvePathResult) → f ≡ g → (from : AnyModule) (ss : List (List ℕ)) (i : ℕ)
        (t : Option (Item ModuleDefId ImportOrExternCrate))
        → through_type f one from ss i name t ≡ through_type g other from ss i name t
    same_through f g same from ss i None = refl
    same_through f g same from ss i (Some item) = go item.def
      where
        adt : (a : AdtId) → through_adt one ss i name item a ≡ through_adt other ss i name item a
        adt (adts.EnumId id) = ap (after_enum ss i item) (agree.variants id)
        adt (adts.StructId id) = refl
        adt (adts.UnionId id) = refl

        go : (d : ModuleDefId) → through f one from ss i name item d ≡ through g other from ss i name item d
        go (ModuleId m) = λ j.
            cond (same_crate m.map.krate from.map.krate)
            (same j from (same_seen j from m))
            (crossing (same j (same_nearest j m) (same_seen j (same_nearest j m) (same_nearest j m))))
        go (AnyAdt x) = adt x
        go other = refl

  -- ---- paths

  abbrev Agree : List (List ℕ) → Type 0
  Agree names = All (AgreeOnName one other) names

  first_of_names : (s : List ℕ) (ss : List (List ℕ)) → Agree (s ∷ ss) → AgreeOnName one other s
  first_of_names s ss agree = All-head (AgreeOnName one other) s ss agree

  other_names : (s : List ℕ) (ss : List (List ℕ)) → Agree (s ∷ ss) → Agree ss
  other_names s ss agree = All-tail (AgreeOnName one other) s ss agree

  same_rest : (ss : List (List ℕ)) → Agree ss → (i : ℕ) (from : AnyModule) (now : PerNs) → rest one from ss i now ≡ rest other from ss i now
  same_rest [] agree i from now = refl
  same_rest (s ∷ ss) agree i from now =
      same_through s (first_of_names s ss agree) (λ next_from next. rest one next_from ss (i + 1) next) (λ next_from next. rest other next_from ss (i + 1) next)
      (λ j next_from next. same_rest ss (other_names s ss agree) (i + 1) next_from next j) from ss i now.types

  -- after a first segment that is named the same
  same_from : (ss : List (List ℕ)) → Agree ss → (i : ℕ) (from : AnyModule) (a b : PerNs) → a ≡ b → rest one from ss i a ≡ rest other from ss i b
  same_from ss agree i from a b e = ap (rest one from ss i) e ∙ same_rest ss agree i from b

  same_super : (from : AnyModule) (segs : List (List ℕ)) → Agree segs → (o : Option AnyModule) → super_from one from segs o ≡ super_from other from segs o
  same_super from segs agree None = refl
  same_super from segs agree (Some m) = λ i.
      cond (same_block m.map.block from.map.block)
      (same_rest segs agree 0 from (module_bound m) i)
      (settled_in_block m (same_rest segs agree 0 m (module_bound m) i))

  same_abs : (from : AnyModule) (ss : List (List ℕ)) → Agree ss → (names : PerNs) → abs_from one from ss names ≡ abs_from other from ss names
  same_abs from ss agree names = ap (λ (r : ResolvePathResult). cond (is_some names.types) r (unresolved No)) (same_rest ss agree 1 from names)

  module _ (asking : Asking) where
    same_start : (from : AnyModule) (kind : PathKind) (segs : List (List ℕ)) → Agree segs → from_start one asking from kind segs ≡ from_start other asking from
        kind segs
    same_start from kinds.Crate segs agree = same_rest segs agree 0 from (module_bound (crate_root from.map.krate))
    same_start from (kinds.DollarCrate c) segs agree =
        λ i. cond (same_reach from c i) (same_rest segs agree 0 from (module_bound (crate_root c)) i) (unresolved No)
    same_start from (kinds.Super n) segs agree =
        (λ i. super_from one from segs (same_climb n i (same_nearest i from))) ∙ same_super from segs agree
        (climb other n (nearest_non_block_module other from))
    same_start from kinds.Plain [] agree = refl
    same_start from kinds.Plain (s ∷ ss) agree =
        let here : AgreeOnName one other s = first_of_names s ss agree in
        let left : Agree ss = other_names s ss agree in
        let root : _ ≡ _ = same_from ss left 1 from (name_in_crate_root_or_extern_prelude one asking.local from s)
        (name_in_crate_root_or_extern_prelude other asking.local from s) (same_in_root s here asking from) in
        let named : _ ≡ _ = same_from ss left 1 from (name_in_module one asking.local asking.sub_ns (shadow_before ss asking.shadow) from s)
        (name_in_module other asking.local asking.sub_ns (shadow_before ss asking.shadow) from s) (same_in_module s here asking ss from) in
        λ i. cond (same_2015 from.map i && is_import asking.mode) (root i) (named i)
    same_start from kinds.Abs [] agree = refl
    same_start from kinds.Abs (s ∷ ss) agree =
        let here : AgreeOnName one other s = first_of_names s ss agree in
        let left : Agree ss = other_names s ss agree in
        let root : _ ≡ _ = same_from ss left 1 from (name_in_crate_root_or_extern_prelude one asking.local from s)
        (name_in_crate_root_or_extern_prelude other asking.local from s) (same_in_root s here asking from) in
        λ i. cond (same_2015 from.map i) (root i) (same_abs from ss left (extern_name asking.local s) i)

    same_preludes : (root : AnyModule) (kind : PathKind) (segs : List (List ℕ)) → Agree segs → in_preludes one asking root kind segs
        ≡ in_preludes other asking root kind segs
    same_preludes root kinds.Crate segs agree = refl
    same_preludes root (kinds.DollarCrate c) segs agree = refl
    same_preludes root (kinds.Super n) segs agree = refl
    same_preludes root kinds.Plain [] agree = refl
    same_preludes root kinds.Plain (s ∷ ss) agree =
        let here : AgreeOnName one other s = first_of_names s ss agree in
        let left : Agree ss = other_names s ss agree in
        let named : _ ≡ _ = same_from ss left 1 root (name_in_preludes one asking.local root s) (name_in_preludes other asking.local root s)
        (same_in_preludes s here asking root) in
        λ i. cond (same_2015 root.map i && is_import asking.mode) (same_rest ss left 1 root (extern_name asking.local s) i) (named i)
    same_preludes root kinds.Abs [] agree = refl
    same_preludes root kinds.Abs (s ∷ ss) agree =
        let left : Agree ss = other_names s ss agree in
        λ i. cond (same_2015 root.map i) (same_rest ss left 1 root (extern_name asking.local s) i) (same_abs root ss left (extern_name asking.local s) i)

    module _ (kind : PathKind) (segs : List (List ℕ)) (agree : Agree segs) where
      same_with_preludes : (r q : ResolvePathResult) → r ≡ q → (m : AnyModule) → with_preludes one asking kind segs r m ≡ with_preludes other asking kind segs q
          m
      same_with_preludes r q e m = λ i.
          cond (is_some m.map.block && not (is_block_root m)) (joined (e i) (same_preludes (crate_root m.map.krate) kind segs agree i)) (e i)

      same_inherited : (hs : List AnyModule) (r q : ResolvePathResult) → r ≡ q → (m : AnyModule) → inherited one asking kind segs r m hs
          ≡ inherited other asking kind segs q m hs
      same_inherited [] r q e m = same_with_preludes r q e m
      same_inherited (h ∷ hs) r q e m =
          let outwards : _ ≡ _ = same_inherited hs (joined r (from_start one asking h kind segs)) (joined q (from_start other asking h kind segs))
          (λ i. joined (e i) (same_start h kind segs agree i)) h in
          λ i. cond (is_block_root m) (outwards i) (same_with_preludes r q e m i)

      pub same_resolution : (from : AnyModule) → from_blocks one asking from kind segs ≡ from_blocks other asking from kind segs
      same_resolution from =
          ap (inherited one asking kind segs (from_start one asking from kind segs) from) (same_holders from)
          ∙ same_inherited (holders_in other from) (from_start one asking from kind segs) (from_start other asking from kind segs)
          (same_start from kind segs agree) from
