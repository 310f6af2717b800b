-- Paths through finished maps, beside a map that changes.
use Rattle.std.proofs.Common.{◌≡◌, ◌∙◌, ap, sym, subst, refl, ℕ, ◌+◌, List, [], ◌∷◌, Bool, true, false, ◌&&◌, cond, Option, None, Some}
use Rattle.std.specs.List.{All}
use Rattle.std.specs.Option.{option_map}
use Rattle.std.specs.Prelude.{is_some, not}
use Rattle.std.proofs.lemmas.List.Elements.{All-head, All-tail}
use Rattle.hir_nameres.specs.HirIds.declared.ids.AdtId.{AdtId}
use Rattle.hir_nameres.specs.HirIds.declared.ast_id.BlockId.{BlockId}
use Rattle.hir_nameres.specs.HirIds.declared.ids.ExternCrateId.{ExternCrateId}
use Rattle.hir_nameres.specs.HirIds.declared.ids.MapId.{MapId}
use Rattle.hir_nameres.specs.HirIds.declared.ids.ModuleDefId.{ModuleDefId}
use Rattle.hir_nameres.specs.HirBase.declared.mod_path.PathKind.{PathKind}
use Rattle.hir_nameres.specs.HirIds.declared.ids.AdtId.TheVariants as adts
use Rattle.hir_nameres.specs.HirIds.declared.ids.ModuleId.{ModuleId as AnyModule}
use Rattle.hir_nameres.specs.HirIds.declared.ids.ModuleDefId.TheVariants.{ModuleId, FunctionId, AdtId as AnyAdt, EnumVariantId}
use Rattle.hir_nameres.specs.HirIds.declared.ids.ModuleDefId.TheVariants.{ConstId, StaticId, TraitId, TypeAliasId}
use Rattle.hir_nameres.specs.HirIds.declared.ids.ModuleDefId.TheVariants.{BuiltinType, MacroId}
use Rattle.hir_nameres.specs.HirBase.declared.mod_path.PathKind.TheVariants as kinds
use Rattle.hir_nameres.specs.HirPerNs.ModuleTree.{same_block, same_crate}
use Rattle.hir_nameres.specs.HirPerNs.PerNs.{Item, or_of}
use Rattle.hir_nameres.specs.HirPerNs.Visibility.{is_visible}
use Rattle.hir_nameres.specs.HirPerNs.declared.imports.ImportOrExternCrate.{ImportOrExternCrate}
use Rattle.hir_nameres.specs.HirPerNs.declared.per_ns.PerNs.{PerNs}
use Rattle.hir_nameres.specs.HirPerNs.declared.imports.ImportOrExternCrate.TheVariants as ways
use Rattle.hir_nameres.specs.HirDefMapRules.Ancestors.{above_in, holders_in}
use Rattle.hir_nameres.specs.HirDefMapRules.References.{reference_to, test_of, test_visibility, Fails, FailsAtItem}
use Rattle.hir_nameres.specs.HirDefMapRules.Scoping.Asking.{Asking}
use Rattle.hir_nameres.specs.HirDefMapRules.Scoping.Blocks.{in_preludes, inherited, joined, with_preludes}
use Rattle.hir_nameres.specs.HirDefMapRules.Scoping.FirstSegment.{builtin_name, extern_bound, extern_name, is_block_root}
use Rattle.hir_nameres.specs.HirDefMapRules.Scoping.FirstSegment.{legacy_bound, macro_use_bound, macro_use_name}
use Rattle.hir_nameres.specs.HirDefMapRules.Scoping.FirstSegment.{macro_use_of, name_in_crate_root_or_extern_prelude}
use Rattle.hir_nameres.specs.HirDefMapRules.Scoping.FirstSegment.{name_in_module, name_in_preludes, of_style}
use Rattle.hir_nameres.specs.HirDefMapRules.Scoping.FirstSegment.{prelude_name, shadow_before, unless_block_root, with_builtin}
use Rattle.hir_nameres.specs.HirDefMapRules.Scoping.Segments.{after_enum, crossing, nearest_non_block_module, rest}
use Rattle.hir_nameres.specs.HirDefMapRules.Scoping.Segments.{seen, through, through_adt, through_type, unresolved}
use Rattle.hir_nameres.specs.HirDefMapRules.Scoping.Start.{abs_from, climb, from_start, is_import, module_bound, settled_in_block, super_from}
use Rattle.hir_nameres.specs.HirDefMapRules.State.{Local, Map, at_name, crate_root}
use Rattle.hir_nameres.specs.HirDefMapRules.Overlay.{entry_in, map_in}
use Rattle.hir_nameres.specs.HirDefMapRules.declared.path_result.ReachedFixedPoint.TheVariants.{No}
use Rattle.hir_nameres.specs.HirDefMapRules.declared.path_result.ResolvePathResult.{ResolvePathResult}
use Rattle.hir_def_map_laws.proofs.Agreement.{bound-in, bound_in}
use Rattle.hir_nameres.proofs.HirDefMapRules.Fails.{Fails-in_module, Fails-in_preludes, Fails-in_root, Fails-keep, Fails-nothing, Fails-public}
use Rattle.hir_nameres.proofs.HirDefMapRules.NoneOf.{not_first}
use Rattle.hir_def_map_laws.proofs.Changed.{Change, Here, Out, climb_out, entry_out, here_out, is_own, legacy_out, map_in-out, names_out, nearest_out, new, old}
use Rattle.hir_def_map_laws.proofs.Changed.{own, prelude_out, same_2015, same_climb, same_nearest, same_prelude_module, same_reach, same_seen, variant_out}
use Rattle.hir_def_map_laws.specs.ReadLaw.{BeginsOutside, SameInPreludes, is_named_in, with_crates}
use Rattle.hir_nameres.specs.Scoping.Slots.{is_in, prelude_module_of}

module _ (t : Change) where
  -- nothing among the items lies in the map
  abbrev pub Outside : PerNs → Type 0
  Outside p = Fails (is_named_in (own t)) p

  pub seen_outside : (from at : AnyModule) (name : List ℕ) → Out t at → Outside (seen (old t) from at name)
  seen_outside from at name out =
      Fails-keep (is_named_in (own t)) (λ v. is_visible (above_in (old t)) (holders_in (old t)) v from) (entry_in (old t) at name) (names_out t at name out)

  -- a module that lies in another map
  pub bound_outside : (m : AnyModule) → Out t m → Outside (module_bound m)
  bound_outside m out = Fails-public (is_named_in (own t)) (ModuleId m) None out

  -- ---- further segments

  -- a segment after what lies in another map
  pub through_out : (further changed : AnyModule → PerNs → ResolvePathResult) → ((from : AnyModule) (p : PerNs) → Here t from → Outside p → changed from p
      ≡ further from p)
      → (from : AnyModule) → Here t from → (others : List (List ℕ)) (i : ℕ) (segment : List ℕ) (o : Option (Item ModuleDefId ImportOrExternCrate))
      → FailsAtItem (is_named_in (own t)) o
      → through_type changed (new t) from others i segment o ≡ through_type further (old t) from others i segment o
  through_out further changed same from here others i segment None outside = refl
  through_out further changed same from here others i segment (Some item) outside =
      go item.def (not_first (test_of (is_named_in (own t)) (reference_to item.def)) (test_visibility (is_named_in (own t)) item.vis) outside)
    where
      inside : (m : AnyModule) → Out t m → changed from (seen (new t) from m segment) ≡ further from (seen (old t) from m segment)
      inside m out =
          ap (changed from) (same_seen t from m segment here (entry_out t m segment out))
          ∙ same from (seen (old t) from m segment) here (seen_outside from m segment out)

      across : (m : AnyModule) → Out t m
          → changed (nearest_non_block_module (new t) m) (seen (new t) (nearest_non_block_module (new t) m) (nearest_non_block_module (new t) m) segment)
          ≡ further (nearest_non_block_module (old t) m) (seen (old t) (nearest_non_block_module (old t) m) (nearest_non_block_module (old t) m) segment)
      across m out =
          let near : AnyModule = nearest_non_block_module (old t) m in
          let near_out : Out t near = nearest_out t m out in
          ap (λ (x : AnyModule). changed x (seen (new t) x x segment)) (same_nearest t m)
          ∙ ap (changed near) (same_seen t near near segment (here_out t near near_out) (entry_out t near segment near_out))
          ∙ same near (seen (old t) near near segment) (here_out t near near_out) (seen_outside near near segment near_out)

      adt : (a : AdtId) → test_of (is_named_in (own t)) (reference_to (AnyAdt a)) ≡ false → through_adt (new t) others i segment item a
          ≡ through_adt (old t) others i segment item a
      adt (adts.EnumId id) out = ap (after_enum others i item) (variant_out t id segment out)
      adt (adts.StructId id) out = refl
      adt (adts.UnionId id) out = refl

      go : (d : ModuleDefId) → test_of (is_named_in (own t)) (reference_to d) ≡ false → through changed (new t) from others i segment item d
          ≡ through further (old t) from others i segment item d
      go (ModuleId m) out = λ j. cond (same_crate m.map.krate from.map.krate) (inside m out j) (crossing (across m out j))
      go (AnyAdt x) out = adt x out
      go other out = refl

  -- what is left of a path after what lies in other maps
  pub rest_out : (ss : List (List ℕ)) (i : ℕ) (from : AnyModule) → Here t from → (p : PerNs) → Outside p → rest (new t) from ss i p ≡ rest (old t) from ss i p
  rest_out [] i from here p outside = refl
  rest_out (s ∷ ss) i from here p outside =
      through_out (λ f q. rest (old t) f ss (i + 1) q) (λ f q. rest (new t) f ss (i + 1) q) (λ f q h o. rest_out ss (i + 1) f h q o) from here ss i s p.types
      outside.types

  -- ---- preludes

  -- the prelude module of another map, if it has one, lies in another map
  prelude_name_by : (at : AnyModule) (name : List ℕ) → Out t at → (o : Option AnyModule) → prelude_module_of (map_in (old t) at.map) ≡ o
      → (bound_in (λ m. entry_in (new t) m name) o ≡ bound_in (λ m. entry_in (old t) m name) o) × Outside (bound_in (λ m. entry_in (old t) m name) o)
  prelude_name_by at name out None e = (refl, Fails-nothing (is_named_in (own t)))
  prelude_name_by at name out (Some p) e =
      let out_too : Out t p = prelude_out t at.map out p e in (entry_out t p name out_too, names_out t p name out_too)

  prelude_name_out : (at : AnyModule) (name : List ℕ) → Out t at → (prelude_name (new t) at name ≡ prelude_name (old t) at name)
      × Outside (prelude_name (old t) at name)
  prelude_name_out at name out =
      let module_ : Option AnyModule = prelude_module_of (map_in (old t) at.map) in
      let both = prelude_name_by at name out module_ refl in
      let before : prelude_name (old t) at name ≡ bound_in (λ m. entry_in (old t) m name) module_ = bound-in (old t) (map_in (old t) at.map) name in (
        bound-in (new t) (map_in (new t) at.map) name
            ∙ ap (bound_in (λ m. entry_in (new t) m name)) (same_prelude_module t at.map)
            ∙ both.0 ∙ sym before,
        subst Outside (sym before) both.1,
      )

  -- ---- whole paths that are asked outside a block's map

  module _ (asking : Asking) (local : Local) (begins : BeginsOutside t.one.id asking.local) where
    abbrev asked : Asking
    asked = with_crates asking local

    -- a first segment stands for the same in the preludes
    abbrev pub SameFirst : PathKind → List (List ℕ) → Type 0
    SameFirst kinds.Plain (s ∷ ss) = SameInPreludes t.one asking.local t.other local s
    SameFirst kinds.Plain [] = Unit {0}
    SameFirst kinds.Abs (s ∷ ss) = SameInPreludes t.one asking.local t.other local s
    SameFirst kinds.Abs [] = Unit {0}
    SameFirst kinds.Crate ss = Unit {0}
    SameFirst (kinds.DollarCrate c) ss = Unit {0}
    SameFirst (kinds.Super n) ss = Unit {0}

    module _ (b : BlockId) (in_block : t.one.id.block ≡ Some b) where
      -- a module of a crate's map lies outside
      crates_out : (m : AnyModule) → m.map.block ≡ None → Out t m
      crates_out m none = go (is_in (own t) m) refl
        where
          go : (c : Bool) → is_in (own t) m ≡ c → Out t m
          go true e = let same : None ≡ Some b = sym none ∙ ap (λ (id : MapId). id.block) (is_own t m e) ∙ in_block in absurd cc
          go false e = e

      externs_out : (name : List ℕ) → Outside (extern_name asking.local name)
      externs_out name = go (at_name asking.local name) refl
        where
          go : (o : Option (AnyModule × Option ExternCrateId)) → at_name asking.local name ≡ o → Outside (extern_bound o)
          go None e = Fails-nothing (is_named_in (own t))
          go (Some entry) e =
              Fails-public (is_named_in (own t)) (ModuleId entry.0) (option_map ways.ExternCrate entry.1)
              (ap (λ (o : Option BlockId). is_some o && is_in (own t) entry.0) (sym in_block) ∙ begins name entry e)

      module _ (h : AnyModule) (out : Out t h) where
        here : Here t h
        here = here_out t h out

        module _ (s : List ℕ) (ss : List (List ℕ)) (same : SameInPreludes t.one asking.local t.other local s) where
          same_extern : extern_name local s ≡ extern_name asking.local s
          same_extern = ap extern_bound same.crates

          same_macro_use : macro_use_name (new t) h s ≡ macro_use_name (old t) h s
          same_macro_use = ap (λ (o : Option Map). macro_use_bound (macro_use_of o s)) (map_in-out t h.map out)

          plain_out : rest (new t) h ss 1 (name_in_module (new t) local asking.sub_ns (shadow_before ss asking.shadow) h s)
              ≡ rest (old t) h ss 1 (name_in_module (old t) asking.local asking.sub_ns (shadow_before ss asking.shadow) h s)
          plain_out =
              let prelude = prelude_name_out h s out in
              let names : name_in_module (new t) local asking.sub_ns (shadow_before ss asking.shadow) h s ≡ name_in_module (old t) asking.local asking.sub_ns
              (shadow_before ss asking.shadow) h s = λ i.
              or_of (or_of (or_of (or_of (legacy_bound asking.sub_ns (legacy_out t h s out i))
              (with_builtin (shadow_before ss asking.shadow) (of_style asking.sub_ns (entry_out t h s out i)) (builtin_name h s)))
              (unless_block_root h (same_extern i)))
              (same_macro_use i))
              (unless_block_root h (prelude.0 i)) in
              ap (rest (new t) h ss 1) names
              ∙ rest_out ss 1 h here (name_in_module (old t) asking.local asking.sub_ns (shadow_before ss asking.shadow) h s)
              (Fails-in_module (is_named_in (own t)) (old t) asking.local h s (externs_out s) asking.sub_ns (shadow_before ss asking.shadow)
              (names_out t h s out) prelude.1)

          root_out : rest (new t) h ss 1 (name_in_crate_root_or_extern_prelude (new t) local h s)
              ≡ rest (old t) h ss 1 (name_in_crate_root_or_extern_prelude (old t) asking.local h s)
          root_out =
              let root : AnyModule = crate_root h.map.krate in
              let outside : Out t root = crates_out root refl in
              let names : name_in_crate_root_or_extern_prelude (new t) local h s ≡ name_in_crate_root_or_extern_prelude (old t) asking.local h s = λ i.
              or_of (entry_out t root s outside i) (unless_block_root h (same_extern i)) in
              ap (rest (new t) h ss 1) names
              ∙ rest_out ss 1 h here (name_in_crate_root_or_extern_prelude (old t) asking.local h s)
              (Fails-in_root (is_named_in (own t)) (old t) asking.local h s (externs_out s) (names_out t root s outside))

          extern_out : rest (new t) h ss 1 (extern_name local s) ≡ rest (old t) h ss 1 (extern_name asking.local s)
          extern_out = ap (rest (new t) h ss 1) same_extern ∙ rest_out ss 1 h here (extern_name asking.local s) (externs_out s)

          abs_out : abs_from (new t) h ss (extern_name local s) ≡ abs_from (old t) h ss (extern_name asking.local s)
          abs_out =
              ap (abs_from (new t) h ss) same_extern
              ∙ ap (λ (r : ResolvePathResult). cond (is_some (extern_name asking.local s).types) r (unresolved No))
              (rest_out ss 1 h here (extern_name asking.local s) (externs_out s))

          preludes_out : rest (new t) h ss 1 (name_in_preludes (new t) local h s) ≡ rest (old t) h ss 1 (name_in_preludes (old t) asking.local h s)
          preludes_out =
              let prelude = prelude_name_out h s out in
              let names : name_in_preludes (new t) local h s ≡ name_in_preludes (old t) asking.local h s = λ i. or_of (or_of (same_extern i) (same_macro_use i))
              (prelude.0 i) in
              ap (rest (new t) h ss 1) names
              ∙ rest_out ss 1 h here (name_in_preludes (old t) asking.local h s) (Fails-in_preludes (is_named_in (own t)) (old t) asking.local h s
              (externs_out s) prelude.1)

        super_out : (segs : List (List ℕ)) (o : Option AnyModule) → ((m : AnyModule) → o ≡ Some m → Out t m) → super_from (new t) h segs o
            ≡ super_from (old t) h segs o
        super_out segs None climbed = refl
        super_out segs (Some m) climbed =
            let outside : Out t m = climbed m refl in
            λ i.
            cond (same_block m.map.block h.map.block)
            (rest_out segs 0 h here (module_bound m) (bound_outside m outside) i)
            (settled_in_block m (rest_out segs 0 m (here_out t m outside) (module_bound m) (bound_outside m outside) i))

        pub start_out : (kind : PathKind) (segs : List (List ℕ)) → SameFirst kind segs → from_start (new t) asked h kind segs ≡ from_start (old t) asking h kind
            segs
        start_out kinds.Crate segs same =
            rest_out segs 0 h here (module_bound (crate_root h.map.krate)) (bound_outside (crate_root h.map.krate) (crates_out (crate_root h.map.krate) refl))
        start_out (kinds.DollarCrate c) segs same = λ i.
            cond (same_reach t h c i) (rest_out segs 0 h here (module_bound (crate_root c)) (bound_outside (crate_root c) (crates_out (crate_root c) refl)) i)
            (unresolved No)
        start_out (kinds.Super n) segs same =
            let near : AnyModule = nearest_non_block_module (old t) h in
            let near_out : Out t near = nearest_out t h out in
            ap (super_from (new t) h segs) (ap (climb (new t) n) (same_nearest t h) ∙ same_climb t n near (here_out t near near_out))
            ∙ super_out segs (climb (old t) n near) (λ m e. climb_out t n near m near_out e)
        start_out kinds.Plain [] same = refl
        start_out kinds.Plain (s ∷ ss) same = λ i. cond (same_2015 t h.map i && is_import asking.mode) (root_out s ss same i) (plain_out s ss same i)
        start_out kinds.Abs [] same = refl
        start_out kinds.Abs (s ∷ ss) same = λ i. cond (same_2015 t h.map i) (root_out s ss same i) (abs_out s ss same i)

        pub in_preludes_out : (kind : PathKind) (segs : List (List ℕ)) → SameFirst kind segs → in_preludes (new t) asked h kind segs
            ≡ in_preludes (old t) asking h kind segs
        in_preludes_out kinds.Crate segs same = refl
        in_preludes_out (kinds.DollarCrate c) segs same = refl
        in_preludes_out (kinds.Super n) segs same = refl
        in_preludes_out kinds.Plain [] same = refl
        in_preludes_out kinds.Plain (s ∷ ss) same = λ i. cond (same_2015 t h.map i && is_import asking.mode) (extern_out s ss same i) (preludes_out s ss same i)
        in_preludes_out kinds.Abs [] same = refl
        in_preludes_out kinds.Abs (s ∷ ss) same = λ i. cond (same_2015 t h.map i) (extern_out s ss same i) (abs_out s ss same i)

      module _ (kind : PathKind) (segs : List (List ℕ)) (same : SameFirst kind segs) where
        with_preludes_out : (r q : ResolvePathResult) → r ≡ q → (m : AnyModule) → with_preludes (new t) asked kind segs r m ≡ with_preludes (old t) asking kind
            segs q m
        with_preludes_out r q e m = λ i.
            cond (is_some m.map.block && not (is_block_root m))
            (joined (e i) (in_preludes_out (crate_root m.map.krate) (crates_out (crate_root m.map.krate) refl) kind segs same i)) (e i)

        -- what is asked of the modules that hold the block
        pub inherited_out : (hs : List AnyModule) → All (Out t) hs → (r q : ResolvePathResult) → r ≡ q → (m : AnyModule) → inherited (new t) asked kind segs r m
            hs ≡ inherited (old t) asking kind segs q m hs
        inherited_out [] all r q e m = with_preludes_out r q e m
        inherited_out (h ∷ hs) all r q e m =
            let outwards : _ ≡ _ = inherited_out hs (All-tail (Out t) h hs all) (joined r (from_start (new t) asked h kind segs))
            (joined q (from_start (old t) asking h kind segs))
            (λ i. joined (e i) (start_out h (All-head (Out t) h hs all) kind segs same i)) h in
            λ i. cond (is_block_root m) (outwards i) (with_preludes_out r q e m i)
