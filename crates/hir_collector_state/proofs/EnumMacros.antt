-- A path reaches the same macro whatever variants the enums of a map have: none lies behind an enum.
use Rattle.std.proofs.Common.{◌≡◌, ◌∙◌, ap, sym, refl, ℕ, ◌+◌, List, [], ◌∷◌, Bool, true, false, ◌&&◌, cond, Option, None, Some}
use Rattle.std.specs.Prelude.{is_some, not}
use Rattle.hir_collector_rules.specs.HirIds.declared.ids.AdtId.{AdtId}
use Rattle.hir_collector_rules.specs.HirIds.declared.ids.EnumId.{EnumId}
use Rattle.hir_collector_rules.specs.HirIds.declared.ids.ModuleDefId.{ModuleDefId}
use Rattle.hir_collector_rules.specs.HirBase.declared.mod_path.PathKind.{PathKind}
use Rattle.hir_collector_rules.specs.HirIds.declared.ids.AdtId.TheVariants as adts
use Rattle.hir_collector_rules.specs.HirIds.declared.ids.ModuleId.{ModuleId as AnyModule}
use Rattle.hir_collector_rules.specs.HirIds.declared.ids.ModuleDefId.TheVariants.{ModuleId, FunctionId, AdtId as AnyAdt, EnumVariantId}
use Rattle.hir_collector_rules.specs.HirIds.declared.ids.ModuleDefId.TheVariants.{ConstId, StaticId, TraitId, TypeAliasId}
use Rattle.hir_collector_rules.specs.HirIds.declared.ids.ModuleDefId.TheVariants.{BuiltinType, MacroId}
use Rattle.hir_collector_rules.specs.HirIds.declared.macro_kind.MacroId.{MacroId as AnyMacro}
use Rattle.hir_collector_rules.specs.HirBase.declared.mod_path.PathKind.TheVariants as kinds
use Rattle.hir_collector_rules.specs.HirBase.Shape.{has_constructor}
use Rattle.hir_collector_rules.specs.HirScope.Bindings.{first_of}
use Rattle.hir_collector_rules.specs.HirPerNs.ModuleTree.{same_block, same_crate}
use Rattle.hir_collector_rules.specs.HirPerNs.PerNs.{Item, with_constructor}
use Rattle.hir_collector_rules.specs.HirPerNs.declared.imports.ImportOrExternCrate.{ImportOrExternCrate}
use Rattle.hir_collector_rules.specs.HirPerNs.declared.per_ns.PerNs.{PerNs}
use Rattle.hir_collector_rules.specs.HirDefMapRules.Ancestors.{holders_in}
use Rattle.hir_collector_rules.specs.HirDefMapRules.Overlay.{Maps, map_in, overlay}
use Rattle.hir_collector_rules.specs.HirDefMapRules.Scoping.Asking.{Asking}
use Rattle.hir_collector_rules.specs.HirDefMapRules.Scoping.Blocks.{from_blocks, in_preludes, inherited, joined, with_preludes}
use Rattle.hir_collector_rules.specs.HirDefMapRules.Scoping.FirstSegment.{extern_name, is_block_root, name_in_crate_root_or_extern_prelude}
use Rattle.hir_collector_rules.specs.HirDefMapRules.Scoping.FirstSegment.{name_in_module, name_in_preludes}
use Rattle.hir_collector_rules.specs.HirDefMapRules.Scoping.FirstSegment.{shadow_before}
use Rattle.hir_collector_rules.specs.HirDefMapRules.Scoping.Segments.{after_enum, nearest_non_block_module, rest, seen}
use Rattle.hir_collector_rules.specs.HirDefMapRules.Scoping.Segments.{through, through_adt, through_type, unresolved}
use Rattle.hir_collector_rules.specs.HirDefMapRules.Scoping.Segments.{variant_in}
use Rattle.hir_collector_rules.specs.HirDefMapRules.Scoping.Start.{abs_from, climb, from_start, is_import, is_in_edition_2015}
use Rattle.hir_collector_rules.specs.HirDefMapRules.Scoping.Start.{is_in_reach, module_bound, settled_in_block}
use Rattle.hir_collector_rules.specs.HirDefMapRules.Scoping.Start.{super_from}
use Rattle.hir_collector_rules.specs.HirDefMapRules.State.{Map, Variants, crate_root}
use Rattle.hir_collector_rules.specs.HirMapParts.declared.enum_variants.EnumVariant.{EnumVariant}
use Rattle.hir_collector_rules.specs.HirDefMapRules.declared.path_result.ResolvePathResult.{ResolvePathResult}
use Rattle.hir_collector_rules.specs.HirDefMapRules.declared.path_result.ReachedFixedPoint.TheVariants.{No, Yes}
use Rattle.hir_def_map_laws.proofs.EnumsApart.{same_2015, same_climb, same_holders, same_in_module, same_in_preludes, same_in_root, same_nearest, same_reach}
use Rattle.hir_def_map_laws.proofs.EnumsApart.{same_seen}

-- the macro among what was found
abbrev pub macros_of : ResolvePathResult → Option (Item AnyMacro ImportOrExternCrate)
macros_of r = r.resolved_def.macros

-- of two answers the one that is chosen has the same macro
either_macro : (b : Bool) (r q s t : ResolvePathResult) → macros_of r ≡ macros_of q → macros_of s ≡ macros_of t → macros_of (cond b r s)
    ≡ macros_of (cond b q t)
either_macro true r q s t e f = e
either_macro false r q s t e f = f

settled_macro : (m : AnyModule) (r : ResolvePathResult) → macros_of (settled_in_block m r) ≡ macros_of r
settled_macro m r = go (is_some m.map.block && not (is_block_root m))
  where
    go : (b : Bool) → macros_of (cond b (record r { reached_fixedpoint = Yes }) r) ≡ macros_of r
    go true = refl
    go false = refl

-- no macro comes after an enum
after_enum_none : (ss : List (List ℕ)) (i : ℕ) (item : Item ModuleDefId ImportOrExternCrate) (o : Option EnumVariant) → macros_of (after_enum ss i item o)
    ≡ None
after_enum_none ss i item None = refl
after_enum_none [] i item (Some v) = go (has_constructor v.shape)
  where
    go : (b : Bool) → (with_constructor (EnumVariantId v.id) item.vis (cond b (Some item.vis) None) None).macros ≡ None
    go true = refl
    go false = refl
after_enum_none (s ∷ ss) i item (Some v) = refl

module _ (finished : Maps) (map : Map) (enums : List (EnumId × Variants)) where
  abbrev one : Maps
  one = overlay finished (record map { enums = enums })

  abbrev other : Maps
  other = overlay finished map

  -- ---- one name

  module _ (name : List ℕ) where
    through_macro : (f g : AnyModule → PerNs → ResolvePathResult) → ((from : AnyModule) (now : PerNs) → macros_of (f from now) ≡ macros_of (g from now))
        → (from : AnyModule) (ss : List (List ℕ)) (i : ℕ) (t : Option (Item ModuleDefId ImportOrExternCrate))
        → macros_of (through_type f one from ss i name t) ≡ macros_of (through_type g other from ss i name t)
    through_macro f g same from ss i None = refl
    through_macro f g same from ss i (Some item) = go item.def
      where
        adt : (a : AdtId) → macros_of (through_adt one ss i name item a) ≡ macros_of (through_adt other ss i name item a)
        adt (adts.EnumId id) = after_enum_none ss i item (variant_in one id name) ∙ sym (after_enum_none ss i item (variant_in other id name))
        adt (adts.StructId id) = refl
        adt (adts.UnionId id) = refl

        go : (d : ModuleDefId) → macros_of (through f one from ss i name item d) ≡ macros_of (through g other from ss i name item d)
        go (ModuleId m) =
            either_macro (same_crate m.map.krate from.map.krate) (f from (seen one from m name)) (g from (seen other from m name)) _ _
            (ap (λ (now : PerNs). macros_of (f from now)) (λ j. same_seen finished map enums name j from m) ∙ same from (seen other from m name))
            ((λ j. macros_of (f (same_nearest finished map enums j m) (same_seen finished map enums name j (same_nearest finished map enums j m)
            (same_nearest finished map enums j m))))
            ∙ same (nearest_non_block_module other m) (seen other (nearest_non_block_module other m) (nearest_non_block_module other m) name))
        go (AnyAdt x) = adt x
        go other = refl

  -- ---- paths

  rest_macro : (ss : List (List ℕ)) (i : ℕ) (from : AnyModule) (now : PerNs) → macros_of (rest one from ss i now) ≡ macros_of (rest other from ss i now)
  rest_macro [] i from now = refl
  rest_macro (s ∷ ss) i from now =
      through_macro s (λ next_from next. rest one next_from ss (i + 1) next) (λ next_from next. rest other next_from ss (i + 1) next)
      (λ next_from next. rest_macro ss (i + 1) next_from next) from ss i now.types

  -- after a first segment that is named the same
  from_macro : (ss : List (List ℕ)) (i : ℕ) (from : AnyModule) (a b : PerNs) → a ≡ b → macros_of (rest one from ss i a) ≡ macros_of (rest other from ss i b)
  from_macro ss i from a b e = ap (λ (now : PerNs). macros_of (rest one from ss i now)) e ∙ rest_macro ss i from b

  super_macro : (from : AnyModule) (segs : List (List ℕ)) (o : Option AnyModule) → macros_of (super_from one from segs o)
      ≡ macros_of (super_from other from segs o)
  super_macro from segs None = refl
  super_macro from segs (Some m) =
      let before : ResolvePathResult = rest one m segs 0 (module_bound m) in
      let after : ResolvePathResult = rest other m segs 0 (module_bound m) in
      either_macro (same_block m.map.block from.map.block) (rest one from segs 0 (module_bound m)) (rest other from segs 0 (module_bound m))
      (settled_in_block m before) (settled_in_block m after)
      (rest_macro segs 0 from (module_bound m))
      (settled_macro m before ∙ rest_macro segs 0 m (module_bound m) ∙ sym (settled_macro m after))

  abs_macro : (from : AnyModule) (ss : List (List ℕ)) (names : PerNs) → macros_of (abs_from one from ss names) ≡ macros_of (abs_from other from ss names)
  abs_macro from ss names =
      either_macro (is_some names.types) (rest one from ss 1 names) (rest other from ss 1 names) (unresolved No) (unresolved No) (rest_macro ss 1 from names)
      refl

  module _ (asking : Asking) where
    start_macro : (from : AnyModule) (kind : PathKind) (segs : List (List ℕ)) → macros_of (from_start one asking from kind segs)
        ≡ macros_of (from_start other asking from kind segs)
    start_macro from kinds.Crate segs = rest_macro segs 0 from (module_bound (crate_root from.map.krate))
    start_macro from (kinds.DollarCrate c) segs =
        let before : ResolvePathResult = rest one from segs 0 (module_bound (crate_root c)) in
        let after : ResolvePathResult = rest other from segs 0 (module_bound (crate_root c)) in
        ap (λ (b : Bool). macros_of (cond b before (unresolved No))) (same_reach finished map enums from c)
        ∙ either_macro (is_in_reach other from c) before after (unresolved No) (unresolved No) (rest_macro segs 0 from (module_bound (crate_root c))) refl
    start_macro from (kinds.Super n) segs =
        (λ i. macros_of (super_from one from segs (same_climb finished map enums n i (same_nearest finished map enums i from)))) ∙ super_macro from segs
        (climb other n (nearest_non_block_module other from))
    start_macro from kinds.Plain [] = refl
    start_macro from kinds.Plain (s ∷ ss) =
        let root : ResolvePathResult = rest one from ss 1 (name_in_crate_root_or_extern_prelude one asking.local from s) in
        let named : ResolvePathResult = rest one from ss 1 (name_in_module one asking.local asking.sub_ns (shadow_before ss asking.shadow) from s) in
        ap (λ (b : Bool). macros_of (cond (b && is_import asking.mode) root named)) (same_2015 finished map enums from.map)
        ∙ either_macro (is_in_edition_2015 (map_in other from.map) && is_import asking.mode) root _ named _
        (from_macro ss 1 from _ _ (same_in_root finished map enums s asking from))
        (from_macro ss 1 from _ _ (same_in_module finished map enums s asking ss from))
    start_macro from kinds.Abs [] = refl
    start_macro from kinds.Abs (s ∷ ss) =
        let root : ResolvePathResult = rest one from ss 1 (name_in_crate_root_or_extern_prelude one asking.local from s) in
        ap (λ (b : Bool). macros_of (cond b root (abs_from one from ss (extern_name asking.local s)))) (same_2015 finished map enums from.map)
        ∙ either_macro (is_in_edition_2015 (map_in other from.map)) root _ (abs_from one from ss (extern_name asking.local s)) _
        (from_macro ss 1 from _ _ (same_in_root finished map enums s asking from)) (abs_macro from ss (extern_name asking.local s))

    preludes_macro : (root : AnyModule) (kind : PathKind) (segs : List (List ℕ)) → macros_of (in_preludes one asking root kind segs)
        ≡ macros_of (in_preludes other asking root kind segs)
    preludes_macro root kinds.Crate segs = refl
    preludes_macro root (kinds.DollarCrate c) segs = refl
    preludes_macro root (kinds.Super n) segs = refl
    preludes_macro root kinds.Plain [] = refl
    preludes_macro root kinds.Plain (s ∷ ss) =
        let crates : ResolvePathResult = rest one root ss 1 (extern_name asking.local s) in
        let named : ResolvePathResult = rest one root ss 1 (name_in_preludes one asking.local root s) in
        ap (λ (b : Bool). macros_of (cond (b && is_import asking.mode) crates named)) (same_2015 finished map enums root.map)
        ∙ either_macro (is_in_edition_2015 (map_in other root.map) && is_import asking.mode) crates _ named _
        (rest_macro ss 1 root (extern_name asking.local s)) (from_macro ss 1 root _ _ (same_in_preludes finished map enums s asking root))
    preludes_macro root kinds.Abs [] = refl
    preludes_macro root kinds.Abs (s ∷ ss) =
        let crates : ResolvePathResult = rest one root ss 1 (extern_name asking.local s) in
        ap (λ (b : Bool). macros_of (cond b crates (abs_from one root ss (extern_name asking.local s)))) (same_2015 finished map enums root.map)
        ∙ either_macro (is_in_edition_2015 (map_in other root.map)) crates _ (abs_from one root ss (extern_name asking.local s)) _
        (rest_macro ss 1 root (extern_name asking.local s)) (abs_macro root ss (extern_name asking.local s))

    module _ (kind : PathKind) (segs : List (List ℕ)) where
      joined_macro : (r q s t : ResolvePathResult) → macros_of r ≡ macros_of q → macros_of s ≡ macros_of t → macros_of (joined r s) ≡ macros_of (joined q t)
      joined_macro r q s t e f = λ i. first_of (e i) (f i)

      with_preludes_macro : (r q : ResolvePathResult) → macros_of r ≡ macros_of q → (m : AnyModule) → macros_of (with_preludes one asking kind segs r m)
          ≡ macros_of (with_preludes other asking kind segs q m)
      with_preludes_macro r q e m =
          either_macro (is_some m.map.block && not (is_block_root m)) (joined r (in_preludes one asking (crate_root m.map.krate) kind segs))
          (joined q (in_preludes other asking (crate_root m.map.krate) kind segs)) r q
          (joined_macro r q (in_preludes one asking (crate_root m.map.krate) kind segs) (in_preludes other asking (crate_root m.map.krate) kind segs) e
          (preludes_macro (crate_root m.map.krate) kind segs)) e

      inherited_macro : (hs : List AnyModule) (r q : ResolvePathResult) → macros_of r ≡ macros_of q → (m : AnyModule)
          → macros_of (inherited one asking kind segs r m hs) ≡ macros_of (inherited other asking kind segs q m hs)
      inherited_macro [] r q e m = with_preludes_macro r q e m
      inherited_macro (h ∷ hs) r q e m =
          let first : ResolvePathResult = joined r (from_start one asking h kind segs) in
          let second : ResolvePathResult = joined q (from_start other asking h kind segs) in
          either_macro (is_block_root m) (inherited one asking kind segs first h hs) (inherited other asking kind segs second h hs)
          (with_preludes one asking kind segs r m) (with_preludes other asking kind segs q m)
          (inherited_macro hs first second (joined_macro r q (from_start one asking h kind segs) (from_start other asking h kind segs) e
          (start_macro h kind segs)) h)
          (with_preludes_macro r q e m)

      -- a path reaches the same macro
      pub enums_bring_no_macro : (from : AnyModule) → macros_of (from_blocks one asking from kind segs) ≡ macros_of (from_blocks other asking from kind segs)
      enums_bring_no_macro from =
          ap (λ (hs : List AnyModule). macros_of (inherited one asking kind segs (from_start one asking from kind segs) from hs))
          (same_holders finished map enums from)
          ∙ inherited_macro (holders_in other from) (from_start one asking from kind segs) (from_start other asking from kind segs) (start_macro from kind segs)
          from
