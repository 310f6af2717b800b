-- A path that stops at no enum without variants means the same once enums have gained theirs.
use Rattle.std.proofs.Common.{◌≡◌, ◌∙◌, ap, sym, subst, refl, ℕ, ◌+◌, ◌<◌, List, [], ◌∷◌, length, Bool, true, false, ◌&&◌, cond, Option, None, Some}
use Rattle.std.specs.List.{All}
use Rattle.std.specs.Option.{option_and_then, option_map}
use Rattle.std.specs.Prelude.{is_some, not}
use Rattle.hir_nameres.specs.HirBase.ModPath.{Path}
use Rattle.hir_nameres.specs.HirIds.declared.ids.AdtId.{AdtId}
use Rattle.hir_nameres.specs.HirIds.declared.ids.EnumId.{EnumId}
use Rattle.hir_nameres.specs.HirIds.declared.ids.MapId.{MapId}
use Rattle.hir_nameres.specs.HirIds.declared.ids.ModuleDefId.{ModuleDefId}
use Rattle.hir_nameres.specs.HirBase.declared.mod_path.PathKind.{PathKind}
use Rattle.hir_nameres.specs.HirIds.declared.ids.UseId.{UseId}
use Rattle.hir_nameres.specs.HirIds.declared.ids.AdtId.TheVariants as adts
use Rattle.hir_nameres.specs.HirIds.declared.ids.ModuleId.{ModuleId as AnyModule}
use Rattle.hir_nameres.specs.HirIds.declared.ids.ModuleDefId.TheVariants.{ModuleId, FunctionId, AdtId as AnyAdt, EnumVariantId}
use Rattle.hir_nameres.specs.HirIds.declared.ids.ModuleDefId.TheVariants.{ConstId, StaticId, TraitId, TypeAliasId}
use Rattle.hir_nameres.specs.HirIds.declared.ids.ModuleDefId.TheVariants.{BuiltinType, MacroId}
use Rattle.hir_nameres.specs.HirBase.declared.mod_path.PathKind.TheVariants as kinds
use Rattle.hir_nameres.specs.HirIds.contracts.ids.MapIdPartialEq.TheImpl as map_id
use Rattle.hir_nameres.specs.HirPerNs.ModuleTree.{same_block, same_crate}
use Rattle.hir_nameres.specs.HirPerNs.PerNs.{Item}
use Rattle.hir_nameres.specs.HirPerNs.declared.imports.ImportOrExternCrate.{ImportOrExternCrate}
use Rattle.hir_nameres.specs.HirPerNs.declared.per_ns.PerNs.{PerNs}
use Rattle.hir_nameres.proofs.HirDefMapRules.Fails.{Fails-nowhere}
use Rattle.hir_nameres.specs.HirDefMapRules.Overlay.{Maps, Placed, map_in, overlay, placed_in}
use Rattle.hir_nameres.specs.HirDefMapRules.Scoping.{Resolution, resolution_of}
use Rattle.hir_nameres.specs.HirDefMapRules.Scoping.Asking.{Asking}
use Rattle.hir_nameres.specs.HirDefMapRules.Scoping.Blocks.{from_blocks}
use Rattle.hir_nameres.specs.HirDefMapRules.Scoping.FirstSegment.{extern_name, is_block_root, name_in_crate_root_or_extern_prelude}
use Rattle.hir_nameres.specs.HirDefMapRules.Scoping.FirstSegment.{name_in_module, shadow_before}
use Rattle.hir_nameres.specs.HirDefMapRules.Scoping.Segments.{after_enum, crossing, nearest_non_block_module, rest}
use Rattle.hir_nameres.specs.HirDefMapRules.Scoping.Segments.{seen, through, through_adt, through_type, unresolved}
use Rattle.hir_nameres.specs.HirDefMapRules.Scoping.Segments.{variant_in}
use Rattle.hir_nameres.specs.Scoping.Slots.{further_slots, kept_in, module_among, prelude_module_of, reads, slots_after, slots_from_crates, slots_from_module}
use Rattle.hir_nameres.specs.Scoping.Slots.{slots_from_root, slots_of, with_prelude_slot, with_slot}
use Rattle.hir_nameres.specs.HirDefMapRules.Scoping.Start.{abs_from, climb, from_start, is_import, is_in_edition_2015}
use Rattle.hir_nameres.specs.HirDefMapRules.Scoping.Start.{is_in_reach, module_bound, settled_in_block}
use Rattle.hir_nameres.specs.HirDefMapRules.Scoping.Start.{super_from}
use Rattle.hir_nameres.specs.HirDefMapRules.State.{IsInOrder, Local, Map, Variants, at_name, crate_root, entry_at, numbered, variants_at}
use Rattle.hir_nameres.specs.HirMapParts.declared.enum_variants.EnumVariant.{EnumVariant}
use Rattle.hir_nameres.specs.HirDefMapRules.declared.path_result.ResolvePathResult.{ResolvePathResult}
use Rattle.hir_nameres.specs.HirDefMapRules.declared.path_result.ReachedFixedPoint.TheVariants.{No, Yes}
use Rattle.hir_nameres.specs.declared.nameres.path_resolution.slots.Slot.{Slot}
use Rattle.hir_nameres.specs.declared.nameres.path_resolution.slots.Slot.TheVariants.{Module as of_module, Preludes as of_preludes}
use Rattle.hir_def_map_laws.proofs.Changed.{Change, has_others}
use Rattle.hir_def_map_laws.proofs.EnumsApart.{same_2015, same_climb, same_in_module, same_in_root, same_nearest, same_prelude_of, same_reach, same_seen}
use Rattle.hir_def_map_laws.proofs.Holders.{start-of_crate}
use Rattle.hir_def_map_laws.proofs.InScopes.{crate_maps_outside, none_changes}
use Rattle.hir_def_map_laws.proofs.ReadLaw.{reads_alike}
use Rattle.hir_def_map_laws.proofs.SameAbove.{parent_below, same_numbers_above, same_parent_at}
use Rattle.hir_def_map_laws.specs.ReadLaw.{AgreeAt, Grows, IsReadAlike, KeepApart, UnstoppedReadsDecide, is_bare_def, stops_bare, with_crates}

-- ---- a map whose enums gain variants

module _ (finished : Maps) (map : Map) (enums : List (EnumId × Variants))
    (gains : (id : EnumId) (variants : Variants) → variants_at (record map { enums = enums }) id ≡ Some variants → variants_at map id ≡ Some variants) where
  -- the map before its enums gained variants
  abbrev bare : Map
  bare = record map { enums = enums }

  abbrev one : Maps
  one = overlay finished bare

  abbrev other : Maps
  other = overlay finished map

  -- the answer stays unless it stops at an enum without variants
  abbrev Stays : ResolvePathResult → ResolvePathResult → Type 0
  Stays r q = stops_bare bare r ≡ false → q ≡ r

  moved_stays : (r q p : ResolvePathResult) → Stays r q → q ≡ p → Stays r p
  moved_stays r q p f e = λ h. sym e ∙ f h

  either_stays : (b : Bool) (r q s t : ResolvePathResult) → Stays r q → Stays s t → Stays (cond b r s) (cond b q t)
  either_stays true r q s t f g = f
  either_stays false r q s t f g = g

  crossing_stays : (r q : ResolvePathResult) → Stays r q → Stays (crossing r) (crossing q)
  crossing_stays r q f = λ h. ap crossing (f h)

  settled_stays : (m : AnyModule) (r q : ResolvePathResult) → Stays r q → Stays (settled_in_block m r) (settled_in_block m q)
  settled_stays m r q f = go (is_some m.map.block && not (is_block_root m))
    where
      go : (b : Bool) → Stays (cond b (record r { reached_fixedpoint = Yes }) r) (cond b (record q { reached_fixedpoint = Yes }) q)
      go true = λ h. ap (λ (x : ResolvePathResult). record x { reached_fixedpoint = Yes }) (f h)
      go false = f

  -- ---- one segment

  module _ (name : List ℕ) where
    -- the variant of the name among those of a map, where it is there
    abbrev variant_by : EnumId → Option Placed → Option EnumVariant
    variant_by id o = option_and_then (λ (vs : Variants). at_name vs name) (option_and_then (λ (placed : Placed). variants_at placed.map id) o)

    abbrev variant_of : Option Variants → Option EnumVariant
    variant_of o = option_and_then (λ (vs : Variants). at_name vs name) o

    enum_stays : (ss : List (List ℕ)) (i : ℕ) (item : Item ModuleDefId ImportOrExternCrate) (id : EnumId) → item.def ≡ AnyAdt (adts.EnumId id)
        → Stays (after_enum ss i item (variant_in one id name)) (after_enum ss i item (variant_in other id name))
    enum_stays ss i item id is_enum = go (map_id.ghosts.eq id.loc.container.map map.id) refl
      where
        known : (o : Option Variants) → variants_at bare id ≡ o → map_id.ghosts.eq id.loc.container.map map.id ≡ true
            → Stays (after_enum ss i item (variant_of o)) (after_enum ss i item (variant_of (variants_at map id)))
        known (Some variants) e own = λ h. ap (λ (o : Option Variants). after_enum ss i item (variant_of o)) (gains id variants e)
        known None e own = λ h.
            let lacks : is_bare_def bare item.def ≡ true = ap (is_bare_def bare) is_enum
            ∙ ap (λ (b : Bool). b && not (is_some (variants_at bare id))) own
            ∙ ap (λ (o : Option Variants). not (is_some o)) e in
            let has : is_bare_def bare item.def ≡ false = h in
            absurd cc

        go : (b : Bool) → map_id.ghosts.eq id.loc.container.map map.id ≡ b → Stays (after_enum ss i item (variant_in one id name))
            (after_enum ss i item (variant_in other id name))
        go false e =
            let before : variant_in one id name ≡ variant_by id (finished id.loc.container.map) = ap
            (λ (b : Bool). variant_by id (cond b (Some (placed_in finished bare)) (finished id.loc.container.map))) e in
            let after : variant_in other id name ≡ variant_by id (finished id.loc.container.map) = ap
            (λ (b : Bool). variant_by id (cond b (Some (placed_in finished map)) (finished id.loc.container.map))) e in
            λ h. ap (after_enum ss i item) (after ∙ sym before)
        go true e =
            let before : variant_in one id name ≡ variant_of (variants_at bare id) = ap
            (λ (b : Bool). variant_by id (cond b (Some (placed_in finished bare)) (finished id.loc.container.map))) e in
            let after : variant_in other id name ≡ variant_of (variants_at map id) = ap
            (λ (b : Bool). variant_by id (cond b (Some (placed_in finished map)) (finished id.loc.container.map))) e in
            λ h. ap (after_enum ss i item) after
            ∙ known (variants_at bare id) refl e (subst (λ (o : Option EnumVariant). stops_bare bare (after_enum ss i item o) ≡ false) before h)
            ∙ sym (ap (after_enum ss i item) before)

    through_stays : (f g : AnyModule → PerNs → ResolvePathResult) → ((from : AnyModule) (now : PerNs) → Stays (f from now) (g from now))
        → (from : AnyModule) (ss : List (List ℕ)) (i : ℕ) (t : Option (Item ModuleDefId ImportOrExternCrate))
        → Stays (through_type f one from ss i name t) (through_type g other from ss i name t)
    through_stays f g stays from ss i None = λ h. refl
    through_stays f g stays from ss i (Some item) = go item.def refl
      where
        adt : (a : AdtId) → item.def ≡ AnyAdt a → Stays (through_adt one ss i name item a) (through_adt other ss i name item a)
        adt (adts.EnumId id) e = enum_stays ss i item id e
        adt (adts.StructId id) e = λ h. refl
        adt (adts.UnionId id) e = λ h. refl

        go : (d : ModuleDefId) → item.def ≡ d → Stays (through f one from ss i name item d) (through g other from ss i name item d)
        go (ModuleId m) e =
            let near : AnyModule = nearest_non_block_module one m in
            let near_after : AnyModule = nearest_non_block_module other m in
            let inside : Stays (f from (seen one from m name)) (g from (seen other from m name)) =
            moved_stays (f from (seen one from m name)) (g from (seen one from m name)) (g from (seen other from m name)) (stays from (seen one from m name))
            (ap (g from) (λ j. same_seen finished map enums name j from m)) in
            let outside : Stays (f near (seen one near near name)) (g near_after (seen other near_after near_after name)) =
            moved_stays (f near (seen one near near name)) (g near (seen one near near name)) (g near_after (seen other near_after near_after name))
            (stays near (seen one near near name))
            (λ j. g (same_nearest finished map enums j m) (same_seen finished map enums name j (same_nearest finished map enums j m)
            (same_nearest finished map enums j m))) in
            either_stays (same_crate m.map.krate from.map.krate) (f from (seen one from m name)) (g from (seen other from m name))
            (crossing (f near (seen one near near name))) (crossing (g near_after (seen other near_after near_after name)))
            inside (crossing_stays (f near (seen one near near name)) (g near_after (seen other near_after near_after name)) outside)
        go (AnyAdt x) e = adt x e
        go other e = λ h. refl

  -- ---- paths

  rest_stays : (ss : List (List ℕ)) (i : ℕ) (from : AnyModule) (now : PerNs) → Stays (rest one from ss i now) (rest other from ss i now)
  rest_stays [] i from now = λ h. refl
  rest_stays (s ∷ ss) i from now =
      through_stays s (λ next_from next. rest one next_from ss (i + 1) next) (λ next_from next. rest other next_from ss (i + 1) next)
      (λ next_from next. rest_stays ss (i + 1) next_from next) from ss i now.types

  -- after a first segment that is named the same
  from_stays : (ss : List (List ℕ)) (i : ℕ) (from : AnyModule) (a b : PerNs) → a ≡ b → Stays (rest one from ss i a) (rest other from ss i b)
  from_stays ss i from a b e =
      moved_stays (rest one from ss i a) (rest other from ss i a) (rest other from ss i b) (rest_stays ss i from a) (ap (rest other from ss i) e)

  super_stays : (from : AnyModule) (segs : List (List ℕ)) (o : Option AnyModule) → Stays (super_from one from segs o) (super_from other from segs o)
  super_stays from segs None = λ h. refl
  super_stays from segs (Some m) =
      let before : ResolvePathResult = rest one m segs 0 (module_bound m) in
      let after : ResolvePathResult = rest other m segs 0 (module_bound m) in
      either_stays (same_block m.map.block from.map.block) (rest one from segs 0 (module_bound m)) (rest other from segs 0 (module_bound m))
      (settled_in_block m before) (settled_in_block m after)
      (rest_stays segs 0 from (module_bound m)) (settled_stays m before after (rest_stays segs 0 m (module_bound m)))

  abs_stays : (from : AnyModule) (ss : List (List ℕ)) (names : PerNs) → Stays (abs_from one from ss names) (abs_from other from ss names)
  abs_stays from ss names =
      either_stays (is_some names.types) (rest one from ss 1 names) (rest other from ss 1 names) (unresolved No) (unresolved No) (rest_stays ss 1 from names)
      (λ h. refl)

  module _ (asking : Asking) (from : AnyModule) where
    abbrev root_names : Maps → List ℕ → PerNs
    root_names maps s = name_in_crate_root_or_extern_prelude maps asking.local from s

    abbrev own_names : Maps → List ℕ → List (List ℕ) → PerNs
    own_names maps s ss = name_in_module maps asking.local asking.sub_ns (shadow_before ss asking.shadow) from s

    start_stays : (kind : PathKind) (segs : List (List ℕ)) → Stays (from_start one asking from kind segs) (from_start other asking from kind segs)
    start_stays kinds.Crate segs = rest_stays segs 0 from (module_bound (crate_root from.map.krate))
    start_stays (kinds.DollarCrate c) segs =
        let before : ResolvePathResult = rest one from segs 0 (module_bound (crate_root c)) in
        let after : ResolvePathResult = rest other from segs 0 (module_bound (crate_root c)) in
        moved_stays (cond (is_in_reach one from c) before (unresolved No)) (cond (is_in_reach one from c) after (unresolved No))
        (cond (is_in_reach other from c) after (unresolved No))
        (either_stays (is_in_reach one from c) before after (unresolved No) (unresolved No) (rest_stays segs 0 from (module_bound (crate_root c))) (λ h. refl))
        (ap (λ (b : Bool). cond b after (unresolved No)) (same_reach finished map enums from c))
    start_stays (kinds.Super n) segs =
        let up : Option AnyModule = climb one n (nearest_non_block_module one from) in
        let up_after : Option AnyModule = climb other n (nearest_non_block_module other from) in
        moved_stays (super_from one from segs up) (super_from other from segs up) (super_from other from segs up_after) (super_stays from segs up)
        (λ j. super_from other from segs (same_climb finished map enums n j (same_nearest finished map enums j from)))
    start_stays kinds.Plain [] = λ h. refl
    start_stays kinds.Plain (s ∷ ss) =
        let is_old : Bool = is_in_edition_2015 (map_in one from.map) && is_import asking.mode in
        let root : ResolvePathResult = rest one from ss 1 (root_names one s) in
        let root_after : ResolvePathResult = rest other from ss 1 (root_names other s) in
        let inside : ResolvePathResult = rest one from ss 1 (own_names one s ss) in
        let inside_after : ResolvePathResult = rest other from ss 1 (own_names other s ss) in
        moved_stays (cond is_old root inside) (cond is_old root_after inside_after) (cond (is_in_edition_2015 (map_in other from.map) && is_import asking.mode)
        root_after inside_after)
        (either_stays is_old root root_after inside inside_after
        (from_stays ss 1 from (root_names one s) (root_names other s) (same_in_root finished map enums s asking from))
        (from_stays ss 1 from (own_names one s ss) (own_names other s ss) (same_in_module finished map enums s asking ss from)))
        (ap (λ (b : Bool). cond (b && is_import asking.mode) root_after inside_after) (same_2015 finished map enums from.map))
    start_stays kinds.Abs [] = λ h. refl
    start_stays kinds.Abs (s ∷ ss) =
        let is_old : Bool = is_in_edition_2015 (map_in one from.map) in
        let root : ResolvePathResult = rest one from ss 1 (root_names one s) in
        let root_after : ResolvePathResult = rest other from ss 1 (root_names other s) in
        let crates : ResolvePathResult = abs_from one from ss (extern_name asking.local s) in
        let crates_after : ResolvePathResult = abs_from other from ss (extern_name asking.local s) in
        moved_stays (cond is_old root crates) (cond is_old root_after crates_after) (cond (is_in_edition_2015 (map_in other from.map)) root_after crates_after)
        (either_stays is_old root root_after crates crates_after
        (from_stays ss 1 from (root_names one s) (root_names other s) (same_in_root finished map enums s asking from))
        (abs_stays from ss (extern_name asking.local s)))
        (ap (λ (b : Bool). cond b root_after crates_after) (same_2015 finished map enums from.map))

    -- a path that stops at no enum without variants
    pub same_answer : (kind : PathKind) (segs : List (List ℕ)) → from.map.block ≡ None → Stays (from_blocks one asking from kind segs)
        (from_blocks other asking from kind segs)
    same_answer kind segs none h =
        let before : from_blocks one asking from kind segs ≡ from_start one asking from kind segs = start-of_crate one asking from kind segs none in
        start-of_crate other asking from kind segs none
        ∙ start_stays kind segs (subst (λ (r : ResolvePathResult). stops_bare bare r ≡ false) before h)
        ∙ sym before

    -- ---- slots

    module _ (own : MapId) where
      same_further : (segs : List (List ℕ)) (o : Option AnyModule) → further_slots other own from segs o ≡ further_slots one own from segs o
      same_further [] o = refl
      same_further (s ∷ ss) None = refl
      same_further (s ∷ ss) (Some m) =
          ap (λ (xs : List Slot). of_module m.index s ∷ xs)
          (same_further ss (module_among own (seen other from m s).types)
          ∙ sym (λ j. further_slots one own from ss (module_among own (same_seen finished map enums s j from m).types)))

      same_after : (segs : List (List ℕ)) (a b : PerNs) → a ≡ b → slots_after other own from segs b ≡ slots_after one own from segs a
      same_after segs a b e = same_further segs (module_among own b.types) ∙ sym (ap (slots_after one own from segs) e)

      root_slots : (s : List ℕ) (ss : List (List ℕ)) → slots_from_root other asking own from s ss ≡ slots_from_root one asking own from s ss
      root_slots s ss =
          ap (λ (xs : List Slot). with_slot own (crate_root from.map.krate) s (of_preludes s ∷ xs))
          (same_after ss (root_names one s) (root_names other s) (same_in_root finished map enums s asking from))

      module_slots : (s : List ℕ) (ss : List (List ℕ)) → slots_from_module other asking own from s ss ≡ slots_from_module one asking own from s ss
      module_slots s ss =
          let prelude : prelude_module_of (map_in other from.map) ≡ prelude_module_of (map_in one from.map) =
          sym (ap (λ (o : Option (AnyModule × Option UseId)). option_map (λ p. p.0) o) (same_prelude_of finished map enums from.map)) in
          let behind : slots_after other own from ss (own_names other s ss) ≡ slots_after one own from ss (own_names one s ss) =
          same_after ss (own_names one s ss) (own_names other s ss) (same_in_module finished map enums s asking ss from) in
          λ j. with_slot own from s (with_prelude_slot own (prelude j) s (of_preludes s ∷ behind j))

      crate_slots : (s : List ℕ) (ss : List (List ℕ)) → slots_from_crates other asking own from s ss ≡ slots_from_crates one asking own from s ss
      crate_slots s ss = ap (λ (xs : List Slot). of_preludes s ∷ xs) (same_further ss (module_among own (extern_name asking.local s).types))

      old_edition : is_in_edition_2015 (map_in other from.map) ≡ is_in_edition_2015 (map_in one from.map)
      old_edition = sym (same_2015 finished map enums from.map)

      -- whatever its answer, a path looks at the same slots
      pub same_slots : (kind : PathKind) (segs : List (List ℕ)) → slots_of other asking own from kind segs ≡ slots_of one asking own from kind segs
      same_slots kinds.Crate segs = same_further segs (kept_in own (crate_root from.map.krate))
      same_slots (kinds.DollarCrate c) segs = same_further segs (kept_in own (crate_root c))
      same_slots (kinds.Super n) segs =
          same_further segs (option_and_then (kept_in own) (climb other n (nearest_non_block_module other from)))
          ∙ sym (λ j. further_slots one own from segs
          (option_and_then (kept_in own) (same_climb finished map enums n j (same_nearest finished map enums j from))))
      same_slots kinds.Plain [] = refl
      same_slots kinds.Plain (s ∷ ss) = λ j. cond (old_edition j && is_import asking.mode) (root_slots s ss j) (module_slots s ss j)
      same_slots kinds.Abs [] = refl
      same_slots kinds.Abs (s ∷ ss) = λ j. cond (old_edition j) (root_slots s ss j) (crate_slots s ss j)

-- ---- a map that grows

module _ (finished : Maps) (one other : Map) (apart : KeepApart finished one.id) (in_order : IsInOrder one) (grows : Grows one other) where
  -- the map as it has grown, with the variants that its enums had
  abbrev grown_bare : Map
  grown_bare = record other { enums = one.enums }

  grows_bare : Grows one grown_bare
  grows_bare =
      record {
        id = grows.id;
        holder = grows.holder;
        crate_data = grows.crate_data;
        prelude = grows.prelude;
        parents = grows.parents;
        enums = λ id variants e. e;
      }

  abbrev change : Change
  change = record {
    finished = finished;
    one = one;
    other = grown_bare;
    apart = apart;
    id = grows.id;
    holder = grows.holder;
    crate_data = grows.crate_data;
    prelude = grows.prelude;
    bound = Some (length one.modules);
    parents = same_parent_at one grown_bare grows_bare in_order;
    parents_below = parent_below one grown_bare grows_bare in_order;
    above = same_numbers_above one grown_bare grows_bare in_order finished;
    changes = λ id. false;
    names = λ at name. Fails-nowhere (has_others one.id (λ id. false)) (none_changes one.id) (entry_at one at name);
    variants = λ id e. refl;
  }

  -- the enums have the same variants as in the map before it grew
  same_bare : (r : Resolution) → stops_bare grown_bare r ≡ stops_bare one r
  same_bare r = λ i. stops_bare (record one { id = grows.id i }) r

  module _ (asking : Asking) (local : Local) (none : one.id.block ≡ None) (at : ℕ) (low : at < length one.modules) (path : Path) where
    abbrev asked : Asking
    asked = with_crates asking local

    abbrev from : AnyModule
    from = numbered one.id at

    -- the slots agree also with the map as it has grown but for its enums
    agree_bare : (slot : Slot) → AgreeAt one asking.local other local slot → AgreeAt one asking.local grown_bare local slot
    agree_bare (of_module index name) a = record { entries = a.entries; legacy = a.legacy }
    agree_bare (of_preludes name) a = record { crates = a.crates; macro_uses = a.macro_uses }

    alike_bare : All (AgreeAt one asking.local other local) (reads finished asking one from path) → IsReadAlike finished one asking grown_bare local from path
    alike_bare agree = reads_alike change asking local (crate_maps_outside one.id asking.local none) at low path (λ n x l. agree_bare _ (agree n x l))

    alike : stops_bare one (resolution_of (overlay finished one) asking from path) ≡ false → All (AgreeAt one asking.local other local)
        (reads finished asking one from path)
        → IsReadAlike finished one asking other local from path
    alike unstopped agree =
        let before : IsReadAlike finished one asking grown_bare local from path = alike_bare agree in record {
          answers =
              same_answer finished other one.enums grows.enums asked from path.kind path.segments none
              (same_bare (resolution_of (overlay finished grown_bare) asked from path) ∙ ap (stops_bare one) before.answers ∙ unstopped)
              ∙ before.answers;
          slots = same_slots finished other one.enums grows.enums asked from other.id path.kind path.segments ∙ before.slots;
        }

pub unstopped_reads : UnstoppedReadsDecide
unstopped_reads finished one other asking local at path apart none in_order low grows longer unstopped agree =
    alike finished one other apart in_order grows asking local none at low path unstopped agree
