-- A path answers only what is written where the maps bind.
use Rattle.std.proofs.Common.{◌≡◌, refl, ℕ, ◌+◌, ◌-◌, List, [], ◌∷◌, length, Bool, true, false, ◌&&◌, ◌||◌, cond, Option, None, Some}
use Rattle.std.specs.List.{filter, last_or, list_any}
use Rattle.std.specs.Map.{lookup}
use Rattle.std.specs.Option.{option_and_then, option_map}
use Rattle.std.specs.Ordering.{nat_cmp}
use Rattle.std.specs.BTreeMap.{is_at}
use Rattle.std.specs.Cmp.Lexicographic.{pointwise, slice_cmp}
use Rattle.std.specs.Prelude.{is_some, map as list_map, nat_eq, not, slice_get}
use Rattle.hir_scope.specs.HirIds.declared.builtin_type.BuiltinType.{BuiltinType as AnyBuiltin}
use Rattle.hir_scope.specs.HirIds.BuiltinType.{builtin_named}
use Rattle.hir_scope.specs.HirIds.contracts.ids.EnumIdOrd.TheImpl as enum_order
use Rattle.hir_scope.specs.HirIds.declared.ids.AdtId.{AdtId}
use Rattle.hir_base.specs.declared.resolve_mode.BuiltinShadowMode.{BuiltinShadowMode}
use Rattle.hir_scope.specs.HirIds.declared.ids.EnumId.{EnumId}
use Rattle.hir_scope.specs.HirIds.declared.ids.ExternCrateId.{ExternCrateId}
use Rattle.hir_base.specs.declared.resolve_mode.MacroSubNs.{MacroSubNs}
use Rattle.hir_scope.specs.HirIds.declared.ids.ModuleDefId.{ModuleDefId}
use Rattle.hir_base.specs.declared.mod_path.PathKind.{PathKind}
use Rattle.hir_scope.specs.HirIds.declared.ids.UseId.{UseId}
use Rattle.hir_scope.specs.HirIds.declared.ids.AdtId.TheVariants as adts
use Rattle.hir_scope.specs.HirIds.declared.ids.ModuleId.{ModuleId as AnyModule}
use Rattle.hir_scope.specs.HirIds.declared.ids.ModuleDefId.TheVariants.{ModuleId, FunctionId, AdtId as AnyAdt, EnumVariantId}
use Rattle.hir_scope.specs.HirIds.declared.ids.ModuleDefId.TheVariants.{ConstId, StaticId, TraitId, TypeAliasId}
use Rattle.hir_scope.specs.HirIds.declared.ids.ModuleDefId.TheVariants.{BuiltinType, MacroId}
use Rattle.hir_scope.specs.HirIds.declared.macro_kind.MacroId.{MacroId as AnyMacro}
use Rattle.hir_base.specs.declared.mod_path.PathKind.TheVariants as kinds
use Rattle.hir_base.specs.Shape.{has_constructor}
use Rattle.hir_scope.specs.HirPerNs.declared.imports.ImportOrExternCrate.{ImportOrExternCrate}
use Rattle.hir_scope.specs.HirPerNs.declared.per_ns.PerNs.{PerNs}
use Rattle.hir_scope.specs.HirPerNs.declared.visibility.Visibility.{Visibility}
use Rattle.hir_scope.specs.HirPerNs.PerNs.{Item, keep_item, keep_of, nothing, or_of, with_constructor}
use Rattle.hir_scope.specs.HirPerNs.ModuleTree.{same_block, same_crate}
use Rattle.hir_scope.specs.Bindings.{first_of}
use Rattle.hir_scope.specs.HirTextualScope.Macros.{has_name, macros_of}
use Rattle.hir_scope.specs.HirTextualScope.declared.textual_scope.TextualMacro.{TextualMacro}
use Rattle.hir_scope.specs.HirPerNs.Visibility.{is_visible}
use Rattle.hir_def_map_rules.specs.Overlay.{Maps, Placed, entry_in, map_in, module_in}
use Rattle.hir_def_map_rules.specs.State.{ModuleValue, Variants, at_name, entry_of, module_at, variants_at}
use Rattle.hir_def_map_rules.specs.Ancestors.{above_in, holders_in}
use Rattle.hir_def_map_rules.proofs.NoneOf.{neither, none_at, none_found, not_first, not_second}
use Rattle.hir_def_map_rules.specs.Sources.{SourceTest, HoldsOfNone, HoldsNowhere, HoldsOfNoExtern, on_some, on_values, on_def, on_macro, on_visibility}
use Rattle.hir_def_map_rules.specs.Sources.{on_type, on_value, on_macro_item, on_variant, on_macro_use, on_extern_entry, on_types_in, on_values_in}
use Rattle.hir_def_map_rules.specs.Sources.{on_macros_in, on_legacy_in}
use Rattle.hir_def_map_rules.specs.Scoping.Asking.{Asking}
use Rattle.hir_def_map_rules.specs.Scoping.Blocks.{from_blocks, in_preludes, inherited, joined, with_preludes}
use Rattle.hir_def_map_rules.specs.Scoping.FirstSegment.{builtin_bound, builtin_name, extern_bound, extern_name, fits, is_block_root, keep_fitting}
use Rattle.hir_def_map_rules.specs.Scoping.FirstSegment.{legacy_bound, legacy_name, legacy_of, macro_use_bound, macro_use_name, macro_use_of, name_in_module}
use Rattle.hir_def_map_rules.specs.Scoping.FirstSegment.{name_in_preludes, name_in_crate_root_or_extern_prelude, names_module, of_style, prelude_bound}
use Rattle.hir_def_map_rules.specs.Scoping.FirstSegment.{prelude_name, prelude_of, scope_name, shadow_before, unless_block_root, with_builtin}
use Rattle.hir_def_map_rules.specs.Scoping.Segments.{after_enum, crossing, nearest_non_block_module, rest, seen, through, through_adt, through_type, unresolved}
use Rattle.hir_def_map_rules.specs.Scoping.Segments.{variant_in}
use Rattle.hir_def_map_rules.specs.Scoping.Start.{abs_from, climb, crate_root, from_start, is_import, is_in_reach, module_bound, is_in_edition_2015}
use Rattle.hir_def_map_rules.specs.Scoping.Start.{settled_in_block, super_from}
use Rattle.hir_def_map_rules.specs.Types.{EnumVariant, ResolvePathResult}
use Rattle.hir_base.specs.declared.resolve_mode.BuiltinShadowMode.TheVariants as shadow_modes
use Rattle.hir_def_map_rules.specs.declared.path_result.ReachedFixedPoint.TheVariants.{Yes, No}

-- ---- of one namespace

module _ {X : Type 0} (test : X → Bool) where
  of_first : (a b : Option X) → on_some test a ≡ false → on_some test b ≡ false → on_some test (first_of a b) ≡ false
  of_first None b f g = g
  of_first (Some x) b f g = f

  of_chosen : (b : Bool) (x : X) → test x ≡ false → on_some test (cond b (Some x) None) ≡ false
  of_chosen true x f = f
  of_chosen false x f = refl

of_kept : {D I : Type 0} (test : Item D I → Bool) (keep : Visibility → Bool) (o : Option (Item D I)) → on_some test o ≡ false → on_some test (keep_item keep o)
    ≡ false
of_kept test keep None f = refl
of_kept test keep (Some i) f = of_chosen test (keep i.vis) i f

module _ (t : SourceTest) where
  abbrev Answers : ResolvePathResult → Type 0
  Answers r = HoldsOfNone t r.resolved_def

  of_nothing : HoldsOfNone t nothing
  of_nothing = record { types = refl; values = refl; macros = refl }

  -- a type alone
  of_type : (i : Item ModuleDefId ImportOrExternCrate) → on_type t i ≡ false → HoldsOfNone t (record { types = Some i; values = None; macros = None })
  of_type i f = record { types = f; values = refl; macros = refl }

  of_macro : (i : Item AnyMacro ImportOrExternCrate) → on_macro_item t i ≡ false → HoldsOfNone t (record { types = None; values = None; macros = Some i })
  of_macro i f = record { types = refl; values = refl; macros = f }

  -- ---- joined and chosen

  either : (b : Bool) (p q : PerNs) → HoldsOfNone t p → HoldsOfNone t q → HoldsOfNone t (cond b p q)
  either true p q f g = f
  either false p q f g = g

  either_answer : (b : Bool) (p q : ResolvePathResult) → Answers p → Answers q → Answers (cond b p q)
  either_answer true p q f g = f
  either_answer false p q f g = g

  of_or : (a b : PerNs) → HoldsOfNone t a → HoldsOfNone t b → HoldsOfNone t (or_of a b)
  of_or a b f g = record {
    types = of_first (on_type t) a.types b.types f.types g.types;
    values = of_first (on_value t) a.values b.values f.values g.values;
    macros = of_first (on_macro_item t) a.macros b.macros f.macros g.macros;
  }

  of_keep : (keep : Visibility → Bool) (p : PerNs) → HoldsOfNone t p → HoldsOfNone t (keep_of keep p)
  of_keep keep p f = record {
    types = of_kept (on_type t) keep p.types f.types;
    values = of_kept (on_value t) keep p.values f.values;
    macros = of_kept (on_macro_item t) keep p.macros f.macros;
  }

  of_module : (m : AnyModule) → HoldsOfNone t (module_bound m)
  of_module m = of_type _ refl

  -- ---- names of first segments

  of_style_kept : (sub_ns : Option MacroSubNs) (p : PerNs) → HoldsOfNone t p → HoldsOfNone t (of_style sub_ns p)
  of_style_kept sub_ns p f = record { types = f.types; values = f.values; macros = go p.macros f.macros }
    where
      go : (o : Option (Item AnyMacro ImportOrExternCrate)) → on_some (on_macro_item t) o ≡ false → on_some (on_macro_item t) (keep_fitting sub_ns o) ≡ false
      go None g = refl
      go (Some i) g = of_chosen (on_macro_item t) (fits sub_ns i.def) i g

  of_builtin : (at : AnyModule) (name : List ℕ) → HoldsOfNone t (builtin_name at name)
  unfolding builtin_name
  of_builtin at name = go (is_some at.map.block) (builtin_named name)
    where
      go : (b : Bool) (o : Option AnyBuiltin) → HoldsOfNone t (cond b nothing (builtin_bound o))
      go true o = of_nothing
      go false None = of_nothing
      go false (Some b) = of_type _ refl

  bare_macro : (m : AnyMacro) → on_macro t m ≡ false → (on_macro t m || (false || false)) ≡ false
  bare_macro m f = neither (on_macro t m) false f refl

  of_legacy : (sub_ns : Option MacroSubNs) (o : Option AnyMacro) → on_some (on_macro t) o ≡ false → HoldsOfNone t (legacy_bound sub_ns o)
  of_legacy sub_ns None f = of_nothing
  of_legacy sub_ns (Some m) f = either (fits sub_ns m) _ nothing (of_macro _ (bare_macro m f)) of_nothing

  of_macro_use : (o : Option (AnyMacro × Option ExternCrateId)) → on_some (on_macro_use t) o ≡ false → HoldsOfNone t (macro_use_bound o)
  of_macro_use None f = of_nothing
  of_macro_use (Some e) f = of_macro _ f

  of_extern : (o : Option (AnyModule × Option ExternCrateId)) → on_some (on_extern_entry t) o ≡ false → HoldsOfNone t (extern_bound o)
  of_extern None f = of_nothing
  of_extern (Some e) f = of_type _ f

  -- ---- what maps bind

  -- of what is found in a list by keys
  found : {K V : Type 0} (p : V → Bool) (test : K → Bool) (es : List (K × V)) → on_values p es ≡ false → on_some p (lookup test es) ≡ false
  found p test es f = go (lookup test es) refl
    where
      go : (o : Option _) → lookup test es ≡ o → on_some p o ≡ false
      go None e = refl
      go (Some v) e = none_found p test es v f e

  -- of the last macro of a name
  of_last : (name : List ℕ) (ms : List TextualMacro) (o : Option AnyMacro) → list_any (λ (x : TextualMacro). on_macro t x.makro) ms ≡ false
      → on_some (on_macro t) o ≡ false
      → on_some (on_macro t) (last_or o (macros_of ms name)) ≡ false
  of_last name [] o f g = g
  of_last name (m ∷ ms) o f g =
      let left : list_any (λ (x : TextualMacro). on_macro t x.makro) ms ≡ false = not_second (on_macro t m.makro)
      (list_any (λ (x : TextualMacro). on_macro t x.makro) ms) f in
      go (has_name name m) (of_last name ms (Some m.makro) left (not_first (on_macro t m.makro) (list_any (λ (x : TextualMacro). on_macro t x.makro) ms) f))
      (of_last name ms o left g)
    where
      go : (b : Bool) → on_some (on_macro t) (last_or (Some m.makro) (macros_of ms name)) ≡ false → on_some (on_macro t) (last_or o (macros_of ms name)) ≡ false
          → on_some (on_macro t) (last_or o (list_map (λ (x : TextualMacro). x.makro) (cond b (m ∷ filter (has_name name) ms) (filter (has_name name) ms))))
          ≡ false
      go true h k = h
      go false h k = k

  module _ (maps : Maps) (nowhere : HoldsNowhere t maps) (asking : Asking) (externs : HoldsOfNoExtern t asking.local) where
    -- of what a module among the maps holds
    of_modules : (p : ModuleValue → Bool) → ((id : _) (placed : Placed) → maps id ≡ Some placed → list_any p placed.map.modules ≡ false)
        → (m : AnyModule) → on_some p (module_in maps m) ≡ false
    of_modules p each m = go (maps m.map) refl
      where
        inside : (ms : List ModuleValue) → list_any p ms ≡ false → (o : Option ModuleValue) → slice_get ms m.index ≡ o → on_some p o ≡ false
        inside ms f None e = refl
        inside ms f (Some v) e = none_at p ms f m.index v e

        go : (o : Option Placed) → maps m.map ≡ o → on_some p (option_and_then (λ (placed : Placed). module_at placed.map m.index) o) ≡ false
        go None e = refl
        go (Some placed) e = inside placed.map.modules (each m.map placed e) (slice_get placed.map.modules m.index) refl

    of_entry : (m : AnyModule) (name : List ℕ) → HoldsOfNone t (entry_in maps m name)
    of_entry m name = go (module_in maps m)
        (of_modules (on_types_in t) (λ id placed e. (nowhere id placed e).types) m)
        (of_modules (on_values_in t) (λ id placed e. (nowhere id placed e).values) m)
        (of_modules (on_macros_in t) (λ id placed e. (nowhere id placed e).macros) m)
      where
        go : (o : Option ModuleValue) → on_some (on_types_in t) o ≡ false → on_some (on_values_in t) o ≡ false → on_some (on_macros_in t) o ≡ false
            → HoldsOfNone t (entry_of o name)
        go None f g h = of_nothing
        go (Some v) f g h = record {
          types = found (on_type t) (is_at (slice_cmp nat_cmp name)) v.scope.types f;
          values = found (on_value t) (is_at (slice_cmp nat_cmp name)) v.scope.values g;
          macros = found (on_macro_item t) (is_at (slice_cmp nat_cmp name)) v.scope.macros h;
        }

    of_legacy_name : (sub_ns : Option MacroSubNs) (at : AnyModule) (name : List ℕ) → HoldsOfNone t (legacy_name maps sub_ns at name)
    of_legacy_name sub_ns at name = of_legacy sub_ns (legacy_of (module_in maps at) name)
        (go (module_in maps at) (of_modules (on_legacy_in t) (λ id placed e. (nowhere id placed e).legacy) at))
      where
        go : (o : Option ModuleValue) → on_some (on_legacy_in t) o ≡ false → on_some (on_macro t) (legacy_of o name) ≡ false
        go None f = refl
        go (Some v) f = of_last name v.scope.legacy_macros None f refl

    of_macro_use_name : (at : AnyModule) (name : List ℕ) → HoldsOfNone t (macro_use_name maps at name)
    of_macro_use_name at name = of_macro_use (macro_use_of (map_in maps at.map) name) (go (maps at.map) refl)
      where
        go : (o : Option Placed) → maps at.map ≡ o → on_some (on_macro_use t) (macro_use_of (option_map (λ (placed : Placed). placed.map) o) name) ≡ false
        go None e = refl
        go (Some placed) e = found (on_macro_use t) (is_at (slice_cmp nat_cmp name)) placed.map.macro_use_prelude (nowhere at.map placed e).macro_use

    of_extern_name : (name : List ℕ) → HoldsOfNone t (extern_name asking.local name)
    of_extern_name name = of_extern (at_name asking.local name) (found (on_extern_entry t) (is_at (slice_cmp nat_cmp name)) asking.local externs)

    of_prelude : (o : Option (AnyModule × Option UseId)) (name : List ℕ) → HoldsOfNone t (prelude_bound maps o name)
    of_prelude None name = of_nothing
    of_prelude (Some p) name = of_entry p.0 name

    of_unless : (at : AnyModule) (p : PerNs) → HoldsOfNone t p → HoldsOfNone t (unless_block_root at p)
    of_unless at p f = either (is_block_root at) nothing p of_nothing f

    builtin_or : (shadow : BuiltinShadowMode) (scope builtin : PerNs) → HoldsOfNone t scope → HoldsOfNone t builtin
        → HoldsOfNone t (with_builtin shadow scope builtin)
    builtin_or shadow_modes.Module scope builtin f g = of_or scope builtin f g
    builtin_or shadow_modes.Other scope builtin f g =
        either (names_module scope.types) (or_of builtin scope) (or_of scope builtin) (of_or builtin scope g f) (of_or scope builtin f g)

    of_name : (sub_ns : Option MacroSubNs) (shadow : BuiltinShadowMode) (at : AnyModule) (name : List ℕ)
        → HoldsOfNone t (name_in_module maps asking.local sub_ns shadow at name)
    of_name sub_ns shadow at name =
        let legacy : PerNs = legacy_name maps sub_ns at name in
        let scope : PerNs = with_builtin shadow (scope_name maps sub_ns at name) (builtin_name at name) in
        let crate_ : PerNs = unless_block_root at (extern_name asking.local name) in
        let macro_use : PerNs = macro_use_name maps at name in
        let prelude : PerNs = unless_block_root at (prelude_name maps at name) in
        of_or (or_of (or_of (or_of legacy scope) crate_) macro_use) prelude
        (of_or (or_of (or_of legacy scope) crate_) macro_use
        (of_or (or_of legacy scope) crate_
        (of_or legacy scope
        (of_legacy_name sub_ns at name)
        (builtin_or shadow (scope_name maps sub_ns at name) (builtin_name at name) (of_style_kept sub_ns (entry_in maps at name) (of_entry at name))
        (of_builtin at name)))
        (of_unless at (extern_name asking.local name) (of_extern_name name)))
        (of_macro_use_name at name))
        (of_unless at (prelude_name maps at name) (of_prelude (prelude_of (map_in maps at.map)) name))

    of_preludes : (at : AnyModule) (name : List ℕ) → HoldsOfNone t (name_in_preludes maps asking.local at name)
    of_preludes at name =
        of_or (or_of (extern_name asking.local name) (macro_use_name maps at name)) (prelude_name maps at name)
        (of_or (extern_name asking.local name) (macro_use_name maps at name) (of_extern_name name) (of_macro_use_name at name))
        (of_prelude (prelude_of (map_in maps at.map)) name)

    of_root : (at : AnyModule) (name : List ℕ) → HoldsOfNone t (name_in_crate_root_or_extern_prelude maps asking.local at name)
    of_root at name =
        of_or (entry_in maps (crate_root at.map.krate) name) (unless_block_root at (extern_name asking.local name))
        (of_entry (crate_root at.map.krate) name) (of_unless at (extern_name asking.local name) (of_extern_name name))

    -- ---- further segments

    of_seen : (from at : AnyModule) (name : List ℕ) → HoldsOfNone t (seen maps from at name)
    of_seen from at name = of_keep (λ v. is_visible (above_in maps) (holders_in maps) v from) (entry_in maps at name) (of_entry at name)

    of_variant_in : (id : EnumId) (name : List ℕ) → on_some (on_variant t) (variant_in maps id name) ≡ false
    of_variant_in id name = go (maps id.loc.container.map) refl
      where
        named : (o : Option Variants) → on_some (λ (vs : Variants). on_values (on_variant t) vs) o ≡ false
            → on_some (on_variant t) (option_and_then (λ (vs : Variants). at_name vs name) o) ≡ false
        named None f = refl
        named (Some vs) f = found (on_variant t) (is_at (slice_cmp nat_cmp name)) vs f

        go : (o : Option Placed) → maps id.loc.container.map ≡ o
            → on_some (on_variant t) (option_and_then (λ (vs : Variants). at_name vs name) (option_and_then (λ (placed : Placed). variants_at placed.map id) o))
            ≡ false
        go None e = refl
        go (Some placed) e =
            named (variants_at placed.map id) (found (λ (vs : Variants). on_values (on_variant t) vs) (is_at (enum_order.ghosts.cmp id)) placed.map.enums
            (nowhere id.loc.container.map placed e).enums)

    of_enum : (ss : List (List ℕ)) (i : ℕ) (item : Item ModuleDefId ImportOrExternCrate) → on_type t item ≡ false → (o : Option EnumVariant)
        → on_some (on_variant t) o ≡ false
        → Answers (after_enum ss i item o)
    of_enum ss i item f None g = of_type item f
    of_enum [] i item f (Some v) g = go (has_constructor v.shape)
      where
        seen_by : (on_visibility t item.vis || false) ≡ false
        seen_by = neither (on_visibility t item.vis) false (not_first (on_visibility t item.vis) _ (not_second (on_def t item.def) _ f)) refl

        bound : (on_def t (EnumVariantId v.id) || (on_visibility t item.vis || false)) ≡ false
        bound = neither (on_def t (EnumVariantId v.id)) (on_visibility t item.vis || false) g seen_by

        go : (b : Bool) → HoldsOfNone t (with_constructor (EnumVariantId v.id) item.vis (cond b (Some item.vis) None) None)
        go true = record { types = bound; values = bound; macros = refl }
        go false = of_type _ bound
    of_enum (s ∷ ss) i item f (Some v) g = of_nothing

    of_through : (further : AnyModule → PerNs → ResolvePathResult) → ((from : AnyModule) (now : PerNs) → HoldsOfNone t now → Answers (further from now))
        → (from : AnyModule) (ss : List (List ℕ)) (i : ℕ) (s : List ℕ) (o : Option (Item ModuleDefId ImportOrExternCrate)) → on_some (on_type t) o ≡ false
        → Answers (through_type further maps from ss i s o)
    of_through further below from ss i s None f = of_nothing
    of_through further below from ss i s (Some item) f = go item.def
      where
        here : (m : AnyModule) (b : Bool) → Answers
            (cond b (further from (seen maps from m s))
            (crossing (further (nearest_non_block_module maps m) (seen maps (nearest_non_block_module maps m) (nearest_non_block_module maps m) s))))
        here m true = below from (seen maps from m s) (of_seen from m s)
        here m false =
            below (nearest_non_block_module maps m) (seen maps (nearest_non_block_module maps m) (nearest_non_block_module maps m) s)
            (of_seen (nearest_non_block_module maps m) (nearest_non_block_module maps m) s)

        adt : (a : AdtId) → Answers (through_adt maps ss i s item a)
        adt (adts.EnumId id) = of_enum ss i item f (variant_in maps id s) (of_variant_in id s)
        adt (adts.StructId id) = of_type item f
        adt (adts.UnionId id) = of_type item f

        go : (d : ModuleDefId) → Answers (through further maps from ss i s item d)
        go (ModuleId m) = here m (same_crate m.map.krate from.map.krate)
        go (AnyAdt a) = adt a
        go other = of_type item f

    of_rest : (from : AnyModule) (ss : List (List ℕ)) (i : ℕ) (now : PerNs) → HoldsOfNone t now → Answers (rest maps from ss i now)
    of_rest from [] i now f = f
    of_rest from (s ∷ ss) i now f =
        of_through (λ next_from next. rest maps next_from ss (i + 1) next) (λ next_from next g. of_rest next_from ss (i + 1) next g) from ss i s now.types
        f.types

    -- ---- roots

    of_root_module : (from : AnyModule) (ss : List (List ℕ)) (m : AnyModule) → Answers (rest maps from ss 0 (module_bound m))
    of_root_module from ss m = of_rest from ss 0 (module_bound m) (of_module m)

    of_super : (from : AnyModule) (ss : List (List ℕ)) (o : Option AnyModule) → Answers (super_from maps from ss o)
    of_super from ss None = of_nothing
    of_super from ss (Some m) =
        let r : ResolvePathResult = rest maps m ss 0 (module_bound m) in
        either_answer (same_block m.map.block from.map.block) (rest maps from ss 0 (module_bound m)) (settled_in_block m r) (of_root_module from ss m)
        (either_answer (is_some m.map.block && not (is_block_root m)) (record r { reached_fixedpoint = Yes }) r (of_root_module m ss m) (of_root_module m ss m))

    of_abs : (from : AnyModule) (ss : List (List ℕ)) (names : PerNs) → HoldsOfNone t names → Answers (abs_from maps from ss names)
    of_abs from ss names f = either_answer (is_some names.types) (rest maps from ss 1 names) (unresolved No) (of_rest from ss 1 names f) of_nothing

    of_start : (from : AnyModule) (kind : PathKind) (ss : List (List ℕ)) → Answers (from_start maps asking from kind ss)
    of_start from kinds.Crate ss = of_root_module from ss (crate_root from.map.krate)
    of_start from (kinds.DollarCrate c) ss =
        either_answer (is_in_reach maps from c) (rest maps from ss 0 (module_bound (crate_root c))) (unresolved No) (of_root_module from ss (crate_root c))
        of_nothing
    of_start from (kinds.Super n) ss = of_super from ss (climb maps n (nearest_non_block_module maps from))
    of_start from kinds.Plain [] = of_nothing
    of_start from kinds.Plain (s ∷ ss) = either_answer (is_in_edition_2015 (map_in maps from.map) && is_import asking.mode)
        (rest maps from ss 1 (name_in_crate_root_or_extern_prelude maps asking.local from s))
        (rest maps from ss 1 (name_in_module maps asking.local asking.sub_ns (shadow_before ss asking.shadow) from s))
        (of_rest from ss 1 (name_in_crate_root_or_extern_prelude maps asking.local from s) (of_root from s))
        (of_rest from ss 1 (name_in_module maps asking.local asking.sub_ns (shadow_before ss asking.shadow) from s)
        (of_name asking.sub_ns (shadow_before ss asking.shadow) from s))
    of_start from kinds.Abs [] = of_nothing
    of_start from kinds.Abs (s ∷ ss) = either_answer (is_in_edition_2015 (map_in maps from.map))
        (rest maps from ss 1 (name_in_crate_root_or_extern_prelude maps asking.local from s))
        (abs_from maps from ss (extern_name asking.local s))
        (of_rest from ss 1 (name_in_crate_root_or_extern_prelude maps asking.local from s) (of_root from s))
        (of_abs from ss (extern_name asking.local s) (of_extern_name s))

    -- ---- blocks

    of_in_preludes : (root : AnyModule) (kind : PathKind) (ss : List (List ℕ)) → Answers (in_preludes maps asking root kind ss)
    of_in_preludes root kinds.Crate ss = of_nothing
    of_in_preludes root (kinds.DollarCrate c) ss = of_nothing
    of_in_preludes root (kinds.Super n) ss = of_nothing
    of_in_preludes root kinds.Plain [] = of_nothing
    of_in_preludes root kinds.Plain (s ∷ ss) = either_answer (is_in_edition_2015 (map_in maps root.map) && is_import asking.mode)
        (rest maps root ss 1 (extern_name asking.local s))
        (rest maps root ss 1 (name_in_preludes maps asking.local root s))
        (of_rest root ss 1 (extern_name asking.local s) (of_extern_name s))
        (of_rest root ss 1 (name_in_preludes maps asking.local root s) (of_preludes root s))
    of_in_preludes root kinds.Abs [] = of_nothing
    of_in_preludes root kinds.Abs (s ∷ ss) = either_answer (is_in_edition_2015 (map_in maps root.map))
        (rest maps root ss 1 (extern_name asking.local s))
        (abs_from maps root ss (extern_name asking.local s))
        (of_rest root ss 1 (extern_name asking.local s) (of_extern_name s))
        (of_abs root ss (extern_name asking.local s) (of_extern_name s))

    of_joined : (a b : ResolvePathResult) → Answers a → Answers b → Answers (joined a b)
    of_joined a b f g = of_or a.resolved_def b.resolved_def f g

    of_with_preludes : (kind : PathKind) (ss : List (List ℕ)) (r : ResolvePathResult) → Answers r → (m : AnyModule)
        → Answers (with_preludes maps asking kind ss r m)
    of_with_preludes kind ss r f m = either_answer (is_some m.map.block && not (is_block_root m))
        (joined r (in_preludes maps asking (crate_root m.map.krate) kind ss)) r
        (of_joined r (in_preludes maps asking (crate_root m.map.krate) kind ss) f (of_in_preludes (crate_root m.map.krate) kind ss)) f

    of_inherited : (kind : PathKind) (ss : List (List ℕ)) (r : ResolvePathResult) → Answers r → (m : AnyModule) (hs : List AnyModule)
        → Answers (inherited maps asking kind ss r m hs)
    of_inherited kind ss r f m [] = of_with_preludes kind ss r f m
    of_inherited kind ss r f m (h ∷ hs) = either_answer (is_block_root m)
        (inherited maps asking kind ss (joined r (from_start maps asking h kind ss)) h hs)
        (with_preludes maps asking kind ss r m)
        (of_inherited kind ss (joined r (from_start maps asking h kind ss)) (of_joined r (from_start maps asking h kind ss) f (of_start h kind ss)) h hs)
        (of_with_preludes kind ss r f m)

    -- a path answers only what is written where the maps bind
    pub paths_from_sources : (from : AnyModule) (kind : PathKind) (ss : List (List ℕ)) → Answers (from_blocks maps asking from kind ss)
    paths_from_sources from kind ss = of_inherited kind ss (from_start maps asking from kind ss) (of_start from kind ss) from (holders_in maps from)
