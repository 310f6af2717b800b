-- A path leads only to what is there.
use Rattle.std.proofs.Common.{◌≡◌, ◌∙◌, ap, sym, refl, ℕ, zero, suc, ◌+◌, List, [], ◌∷◌, Bool, true, false, ◌&&◌, ◌||◌, cond, Option, None, Some}
use Rattle.std.specs.List.{All}
use Rattle.std.specs.Option.{option_and_then, option_map}
use Rattle.std.specs.Prelude.{is_some, not}
use Rattle.std.proofs.lemmas.List.Elements.{All-head, All-tail}
use Rattle.hir_scope.specs.HirIds.declared.ids.AdtId.{AdtId}
use Rattle.hir_base.specs.declared.resolve_mode.BuiltinShadowMode.{BuiltinShadowMode}
use Rattle.hir_scope.specs.HirIds.declared.ids.Crate.{Crate}
use Rattle.hir_scope.specs.HirIds.declared.ids.EnumId.{EnumId}
use Rattle.hir_scope.specs.HirIds.declared.ids.ExternCrateId.{ExternCrateId}
use Rattle.hir_base.specs.declared.resolve_mode.MacroSubNs.{MacroSubNs}
use Rattle.hir_scope.specs.HirIds.declared.ids.ModuleDefId.{ModuleDefId}
use Rattle.hir_base.specs.declared.mod_path.PathKind.{PathKind}
use Rattle.hir_scope.specs.HirIds.declared.ids.UseId.{UseId}
use Rattle.hir_scope.specs.HirIds.declared.ids.AdtId.TheVariants as adts
use Rattle.hir_scope.specs.HirIds.declared.ids.ModuleId.{ModuleId as AnyModule}
use Rattle.hir_scope.specs.HirIds.declared.ids.ModuleDefId.TheVariants.{ModuleId, FunctionId, AdtId as AnyAdt, EnumVariantId}
use Rattle.hir_scope.specs.HirIds.declared.ids.ModuleDefId.TheVariants.{ConstId, StaticId, TraitId, TypeAliasId}
use Rattle.hir_scope.specs.HirIds.declared.ids.ModuleDefId.TheVariants.{BuiltinType, MacroId}
use Rattle.hir_base.specs.declared.mod_path.PathKind.TheVariants as kinds
use Rattle.hir_base.specs.Shape.{has_constructor}
use Rattle.hir_scope.specs.HirPerNs.declared.imports.ImportOrExternCrate.{ImportOrExternCrate}
use Rattle.hir_scope.specs.HirPerNs.declared.per_ns.PerNs.{PerNs}
use Rattle.hir_scope.specs.HirPerNs.declared.visibility.Visibility.{Visibility}
use Rattle.hir_scope.specs.HirPerNs.declared.imports.ImportOrExternCrate.TheVariants as ways
use Rattle.hir_scope.specs.HirPerNs.PerNs.{Item, item_of, nothing, or_of, with_constructor}
use Rattle.hir_scope.specs.HirPerNs.ModuleTree.{same_block, same_crate}
use Rattle.hir_scope.specs.HirPerNs.Visibility.{is_visible}
use Rattle.hir_def_map_rules.specs.Overlay.{Maps, entry_in, map_in, module_in, parent_in}
use Rattle.hir_def_map_rules.specs.State.{at_name}
use Rattle.hir_def_map_rules.specs.Inner.OverlayLaws.{exact_crate}
use Rattle.hir_def_map_rules.specs.Ancestors.{above_in, holders_in}
use Rattle.hir_def_map_rules.specs.Closed.{AreThere, IsClosed, LocalIsThere, MapIsThere, ModuleIsThere}
use Rattle.hir_def_map_rules.specs.References.{crate_map, is_missing, reference_to, test_item, test_of, test_visibility, FailsAtItem}
use Rattle.hir_def_map_rules.specs.Scoping.Asking.{Asking}
use Rattle.hir_def_map_rules.specs.Scoping.Blocks.{from_blocks, in_preludes, inherited, joined, with_preludes}
use Rattle.hir_def_map_rules.specs.Scoping.FirstSegment.{extern_bound, extern_name, is_block_root, name_in_module, name_in_preludes}
use Rattle.hir_def_map_rules.specs.Scoping.FirstSegment.{name_in_crate_root_or_extern_prelude, prelude_bound, prelude_of, shadow_before}
use Rattle.hir_def_map_rules.specs.Scoping.Segments.{after_enum, crossing, nearest_non_block_among, nearest_non_block_module, rest, seen, stopped, through}
use Rattle.hir_def_map_rules.specs.Scoping.Segments.{through_adt, through_type, unresolved, variant_bound, variant_in}
use Rattle.hir_def_map_rules.specs.Scoping.Start.{abs_from, climb, crate_root, from_start, is_dependency, is_import, is_in_reach, module_bound}
use Rattle.hir_def_map_rules.specs.Scoping.Start.{is_in_edition_2015, settled_in_block, super_from}
use Rattle.hir_def_map_rules.specs.Types.{EnumVariant, Reference, ResolvePathResult}
use Rattle.hir_def_map_rules.specs.declared.path_result.ReachedFixedPoint.TheVariants.{Yes, No}
use Rattle.hir_def_map_rules.specs.declared.reference.Reference.TheVariants as named
use Rattle.hir_def_map_rules.proofs.Fails.{Fails-cond, Fails-in_module, Fails-in_preludes, Fails-in_root, Fails-keep, Fails-nothing, Fails-or, Fails-public}
use Rattle.hir_def_map_rules.proofs.NoneOf.{neither, not_first, not_second}

module _ (maps : Maps) where
  abbrev There : PerNs → Type 0
  There p = AreThere maps p

  abbrev Answers : ResolvePathResult → Type 0
  Answers r = AreThere maps r.resolved_def

  abbrev missing : Reference → Bool
  missing n = is_missing maps n

  nothing_there : There nothing
  nothing_there = Fails-nothing missing

  -- of two that are there the one is there
  either : (b : Bool) (p q : PerNs) → There p → There q → There (cond b p q)
  either b p q f g = Fails-cond missing b p q f g

  either_answer : (b : Bool) (p q : ResolvePathResult) → Answers p → Answers q → Answers (cond b p q)
  either_answer true p q f g = f
  either_answer false p q f g = g

  or_there : (a b : PerNs) → There a → There b → There (or_of a b)
  or_there a b f g = Fails-or missing a b f g

  module_there : (m : AnyModule) → ModuleIsThere maps m → There (module_bound m)
  module_there m e = Fails-public missing (ModuleId m) None (ap not e)

  module _ (closed : IsClosed maps) (asking : Asking) (local : LocalIsThere maps asking.local) where
    extern_there : (name : List ℕ) → There (extern_name asking.local name)
    extern_there name = go (at_name asking.local name) refl
      where
        go : (o : Option (AnyModule × Option ExternCrateId)) → at_name asking.local name ≡ o → There (extern_bound o)
        go None e = nothing_there
        go (Some entry) e = Fails-public missing (ModuleId entry.0) (option_map ways.ExternCrate entry.1) (ap not (local.modules name entry e))

    prelude_there : (o : Option (AnyModule × Option UseId)) (name : List ℕ) → There (prelude_bound maps o name)
    prelude_there None name = nothing_there
    prelude_there (Some p) name = closed.names p.0 name

    name_there : (sub_ns : Option MacroSubNs) (shadow : BuiltinShadowMode) (at : AnyModule) (name : List ℕ)
        → There (name_in_module maps asking.local sub_ns shadow at name)
    name_there sub_ns shadow at name =
        Fails-in_module missing maps asking.local at name (extern_there name) sub_ns shadow (closed.names at name)
        (prelude_there (prelude_of (map_in maps at.map)) name)

    preludes_there : (at : AnyModule) (name : List ℕ) → There (name_in_preludes maps asking.local at name)
    preludes_there at name = Fails-in_preludes missing maps asking.local at name (extern_there name) (prelude_there (prelude_of (map_in maps at.map)) name)

    root_there : (at : AnyModule) (name : List ℕ) → There (name_in_crate_root_or_extern_prelude maps asking.local at name)
    root_there at name = Fails-in_root missing maps asking.local at name (extern_there name) (closed.names (crate_root at.map.krate) name)

    -- ---- further segments

    seen_there : (from at : AnyModule) (name : List ℕ) → There (seen maps from at name)
    seen_there from at name = Fails-keep missing (λ v. is_visible (above_in maps) (holders_in maps) v from) (entry_in maps at name) (closed.names at name)

    -- a type at which a path stops
    stopped_there : (i : ℕ) (item : Item ModuleDefId ImportOrExternCrate) → FailsAtItem missing (Some item) → Answers (stopped i item)
    stopped_there i item f = record { types = f; values = tt; macros = tt }

    variant_there : (vis : Visibility) (variant : EnumVariant) → test_item missing (item_of {I = ImportOrExternCrate} (EnumVariantId variant.id) vis None)
        ≡ false → There (variant_bound vis variant)
    variant_there vis variant f = go (has_constructor variant.shape)
      where
        go : (b : Bool) → There (with_constructor (EnumVariantId variant.id) vis (cond b (Some vis) None) None)
        go true = record { types = f; values = f; macros = tt }
        go false = record { types = f; values = tt; macros = tt }

    enum_there : (ss : List (List ℕ)) (i : ℕ) (item : Item ModuleDefId ImportOrExternCrate) (id : EnumId) (name : List ℕ) → is_missing maps (named.Enum id)
        ≡ false
        → FailsAtItem missing (Some item) → (o : Option EnumVariant) → variant_in maps id name ≡ o → Answers (after_enum ss i item o)
    enum_there ss i item id name there f None e = stopped_there i item f
    enum_there [] i item id name there f (Some v) e =
        let own : is_missing maps (named.Enum v.id.parent) ≡ false = ap (λ (x : EnumId). is_missing maps (named.Enum x)) (closed.variants id name v e) ∙ there
        in
        variant_there item.vis v
        (neither (is_missing maps (named.Enum v.id.parent)) (test_visibility missing item.vis) own
        (not_second (test_of missing (reference_to item.def)) (test_visibility missing item.vis) f))
    enum_there (s ∷ ss) i item id name there f (Some v) e = nothing_there

    through_there : (further : AnyModule → PerNs → ResolvePathResult) → ((from : AnyModule) (now : PerNs) → There now → Answers (further from now))
        → (from : AnyModule) (ss : List (List ℕ)) (i : ℕ) (s : List ℕ) (t : Option (Item ModuleDefId ImportOrExternCrate)) → FailsAtItem missing t
        → Answers (through_type further maps from ss i s t)
    through_there further below from ss i s None f = nothing_there
    through_there further below from ss i s (Some item) f =
        go item.def (not_first (test_of missing (reference_to item.def)) (test_visibility missing item.vis) f)
      where
        here : (m : AnyModule) (b : Bool) → Answers
            (cond b (further from (seen maps from m s))
            (crossing (further (nearest_non_block_module maps m) (seen maps (nearest_non_block_module maps m) (nearest_non_block_module maps m) s))))
        here m true = below from (seen maps from m s) (seen_there from m s)
        here m false =
            below (nearest_non_block_module maps m) (seen maps (nearest_non_block_module maps m) (nearest_non_block_module maps m) s)
            (seen_there (nearest_non_block_module maps m) (nearest_non_block_module maps m) s)

        stops : Answers (stopped i item)
        stops = stopped_there i item f

        adt : (a : AdtId) → test_of missing (reference_to (AnyAdt a)) ≡ false → Answers (through_adt maps ss i s item a)
        adt (adts.EnumId id) there = enum_there ss i item id s there f (variant_in maps id s) refl
        adt (adts.StructId id) there = stops
        adt (adts.UnionId id) there = stops

        go : (d : ModuleDefId) → test_of missing (reference_to d) ≡ false → Answers (through further maps from ss i s item d)
        go (ModuleId m) there = here m (same_crate m.map.krate from.map.krate)
        go (AnyAdt a) there = adt a there
        go other there = stops

    rest_there : (from : AnyModule) (ss : List (List ℕ)) (i : ℕ) (now : PerNs) → There now → Answers (rest maps from ss i now)
    rest_there from [] i now f = f
    rest_there from (s ∷ ss) i now f =
        through_there (λ next_from next. rest maps next_from ss (i + 1) next) (λ next_from next g. rest_there next_from ss (i + 1) next g) from ss i s now.types
        f.types

    -- ---- roots

    either_module : (b : Bool) (m n : AnyModule) → ModuleIsThere maps m → ModuleIsThere maps n → ModuleIsThere maps (cond b m n)
    either_module true m n f g = f
    either_module false m n f g = g

    near_there : (hs : List AnyModule) (m : AnyModule) → ModuleIsThere maps m → All (ModuleIsThere maps) hs → ModuleIsThere maps (nearest_non_block_among m hs)
    near_there [] m e all = e
    near_there (h ∷ hs) m e all =
        either_module (is_block_root m) (nearest_non_block_among h hs) m
        (near_there hs h (All-head (ModuleIsThere maps) h hs all) (All-tail (ModuleIsThere maps) h hs all)) e

    nearest_there : (m : AnyModule) → ModuleIsThere maps m → ModuleIsThere maps (nearest_non_block_module maps m)
    unfolding nearest_non_block_module
    nearest_there m e = near_there (holders_in maps m) m e (closed.holders m)

    climb_there : (n : ℕ) (m : AnyModule) → ModuleIsThere maps m → (to : AnyModule) → climb maps n m ≡ Some to → ModuleIsThere maps to
    climb_there zero m e to f = let same : m ≡ to = cc in ap (λ (x : AnyModule). is_some (module_in maps x)) (sym same) ∙ e
    climb_there (suc n) m e to f = go (λ q there g. climb_there n q there to g) (parent_in maps m) refl f
      where
        go : ((q : AnyModule) → ModuleIsThere maps q → climb maps n q ≡ Some to → ModuleIsThere maps to)
            → (o : Option AnyModule) → parent_in maps m ≡ o → option_and_then (λ p. climb maps n (nearest_non_block_module maps p)) o ≡ Some to
            → ModuleIsThere maps to
        go further None s g = absurd cc
        go further (Some p) s g = further (nearest_non_block_module maps p) (nearest_there p (closed.parents m p s)) g

    settled_there : (m : AnyModule) (r : ResolvePathResult) → Answers r → Answers (settled_in_block m r)
    settled_there m r f = either_answer (is_some m.map.block && not (is_block_root m)) (record r { reached_fixedpoint = Yes }) r f f

    super_there : (from : AnyModule) (ss : List (List ℕ)) (o : Option AnyModule) → ((m : AnyModule) → o ≡ Some m → ModuleIsThere maps m)
        → Answers (super_from maps from ss o)
    super_there from ss None f = nothing_there
    super_there from ss (Some m) f =
        either_answer (same_block m.map.block from.map.block) (rest maps from ss 0 (module_bound m)) (settled_in_block m (rest maps m ss 0 (module_bound m)))
        (rest_there from ss 0 (module_bound m) (module_there m (f m refl)))
        (settled_there m (rest maps m ss 0 (module_bound m)) (rest_there m ss 0 (module_bound m) (module_there m (f m refl))))

    crate_there : (c : Crate) → MapIsThere maps (crate_map c) → There (module_bound (crate_root c))
    crate_there c e = module_there (crate_root c) (closed.roots (crate_map c) e)

    abs_there : (from : AnyModule) (ss : List (List ℕ)) (names : PerNs) → There names → Answers (abs_from maps from ss names)
    abs_there from ss names f = either_answer (is_some names.types) (rest maps from ss 1 names) (unresolved No) (rest_there from ss 1 names f) nothing_there

    same_crates : (a b : Crate) → same_crate a b ≡ true → a ≡ b
    same_crates a b e = exact_crate a b e

    reach_there : (from : AnyModule) → ModuleIsThere maps from → (c : Crate) (ss : List (List ℕ))
        → Answers (cond (is_in_reach maps from c) (rest maps from ss 0 (module_bound (crate_root c))) (unresolved No))
    reach_there from e c ss = go (same_crate c from.map.krate) refl (is_dependency (map_in maps from.map) c) refl
      where
        go : (b : Bool) → same_crate c from.map.krate ≡ b → (d : Bool) → is_dependency (map_in maps from.map) c ≡ d
            → Answers (cond (b || d) (rest maps from ss 0 (module_bound (crate_root c))) (unresolved No))
        go true s d t =
            rest_there from ss 0 (module_bound (crate_root c))
            (crate_there c (ap (λ (k : Crate). is_some (maps (crate_map k))) (same_crates c from.map.krate s) ∙ closed.crates from e))
        go false s true t = rest_there from ss 0 (module_bound (crate_root c)) (crate_there c (closed.dependencies from.map c t))
        go false s false t = nothing_there

    start_there : (from : AnyModule) → ModuleIsThere maps from → (kind : PathKind) (ss : List (List ℕ)) → Answers (from_start maps asking from kind ss)
    start_there from e kinds.Crate ss = rest_there from ss 0 (module_bound (crate_root from.map.krate)) (crate_there from.map.krate (closed.crates from e))
    start_there from e (kinds.DollarCrate c) ss = reach_there from e c ss
    start_there from e (kinds.Super n) ss =
        super_there from ss (climb maps n (nearest_non_block_module maps from))
        (λ m f. climb_there n (nearest_non_block_module maps from) (nearest_there from e) m f)
    start_there from e kinds.Plain [] = nothing_there
    start_there from e kinds.Plain (s ∷ ss) = either_answer (is_in_edition_2015 (map_in maps from.map) && is_import asking.mode)
        (rest maps from ss 1 (name_in_crate_root_or_extern_prelude maps asking.local from s))
        (rest maps from ss 1 (name_in_module maps asking.local asking.sub_ns (shadow_before ss asking.shadow) from s))
        (rest_there from ss 1 (name_in_crate_root_or_extern_prelude maps asking.local from s) (root_there from s))
        (rest_there from ss 1 (name_in_module maps asking.local asking.sub_ns (shadow_before ss asking.shadow) from s)
        (name_there asking.sub_ns (shadow_before ss asking.shadow) from s))
    start_there from e kinds.Abs [] = nothing_there
    start_there from e kinds.Abs (s ∷ ss) = either_answer (is_in_edition_2015 (map_in maps from.map))
        (rest maps from ss 1 (name_in_crate_root_or_extern_prelude maps asking.local from s))
        (abs_from maps from ss (extern_name asking.local s))
        (rest_there from ss 1 (name_in_crate_root_or_extern_prelude maps asking.local from s) (root_there from s))
        (abs_there from ss (extern_name asking.local s) (extern_there s))

    -- ---- blocks

    in_preludes_there : (root : AnyModule) (kind : PathKind) (ss : List (List ℕ)) → Answers (in_preludes maps asking root kind ss)
    in_preludes_there root kinds.Crate ss = nothing_there
    in_preludes_there root (kinds.DollarCrate c) ss = nothing_there
    in_preludes_there root (kinds.Super n) ss = nothing_there
    in_preludes_there root kinds.Plain [] = nothing_there
    in_preludes_there root kinds.Plain (s ∷ ss) = either_answer (is_in_edition_2015 (map_in maps root.map) && is_import asking.mode)
        (rest maps root ss 1 (extern_name asking.local s))
        (rest maps root ss 1 (name_in_preludes maps asking.local root s))
        (rest_there root ss 1 (extern_name asking.local s) (extern_there s))
        (rest_there root ss 1 (name_in_preludes maps asking.local root s) (preludes_there root s))
    in_preludes_there root kinds.Abs [] = nothing_there
    in_preludes_there root kinds.Abs (s ∷ ss) = either_answer (is_in_edition_2015 (map_in maps root.map))
        (rest maps root ss 1 (extern_name asking.local s))
        (abs_from maps root ss (extern_name asking.local s))
        (rest_there root ss 1 (extern_name asking.local s) (extern_there s))
        (abs_there root ss (extern_name asking.local s) (extern_there s))

    joined_there : (a b : ResolvePathResult) → Answers a → Answers b → Answers (joined a b)
    joined_there a b f g = or_there a.resolved_def b.resolved_def f g

    with_preludes_there : (kind : PathKind) (ss : List (List ℕ)) (r : ResolvePathResult) → Answers r → (m : AnyModule)
        → Answers (with_preludes maps asking kind ss r m)
    with_preludes_there kind ss r f m = either_answer (is_some m.map.block && not (is_block_root m))
        (joined r (in_preludes maps asking (crate_root m.map.krate) kind ss)) r
        (joined_there r (in_preludes maps asking (crate_root m.map.krate) kind ss) f (in_preludes_there (crate_root m.map.krate) kind ss)) f

    inherited_there : (kind : PathKind) (ss : List (List ℕ)) (r : ResolvePathResult) → Answers r → (m : AnyModule) (hs : List AnyModule)
        → All (ModuleIsThere maps) hs
        → Answers (inherited maps asking kind ss r m hs)
    inherited_there kind ss r f m [] all = with_preludes_there kind ss r f m
    inherited_there kind ss r f m (h ∷ hs) all = either_answer (is_block_root m)
        (inherited maps asking kind ss (joined r (from_start maps asking h kind ss)) h hs)
        (with_preludes maps asking kind ss r m)
        (inherited_there kind ss (joined r (from_start maps asking h kind ss))
        (joined_there r (from_start maps asking h kind ss) f (start_there h (All-head (ModuleIsThere maps) h hs all) kind ss)) h hs
        (All-tail (ModuleIsThere maps) h hs all))
        (with_preludes_there kind ss r f m)

    -- a path leads only to what is there
    pub paths_lead_there : (from : AnyModule) → ModuleIsThere maps from → (kind : PathKind) (ss : List (List ℕ))
        → Answers (from_blocks maps asking from kind ss)
    paths_lead_there from e kind ss =
        inherited_there kind ss (from_start maps asking from kind ss) (start_there from e kind ss) from (holders_in maps from) (closed.holders from)
