-- Paths that are asked inside a map that changes.
use Rattle.std.proofs.Common.{◌≡◌, ◌∙◌, ap, sym, subst, refl, ℕ, ◌+◌, List, [], ◌∷◌, Bool, true, false, ◌&&◌, cond, Option, None, Some}
use Rattle.std.specs.Cmp.{unsigned_Decides}
use Rattle.std.specs.List.{All}
use Rattle.std.specs.Prelude.{is_some, option_and_then, option_map}
use Rattle.std.proofs.lemmas.List.Elements.{All-head, All-tail}
use Rattle.hir_nameres.specs.HirBase.ModPath.{Path}
use Rattle.hir_nameres.specs.HirIds.declared.ids.AdtId.{AdtId}
use Rattle.hir_nameres.specs.HirIds.declared.ast_id.BlockId.{BlockId}
use Rattle.hir_nameres.specs.HirIds.declared.ids.EnumId.{EnumId}
use Rattle.hir_nameres.specs.HirIds.declared.ids.ExternCrateId.{ExternCrateId}
use Rattle.hir_nameres.specs.HirIds.declared.ids.MapId.{MapId}
use Rattle.hir_nameres.specs.HirIds.declared.ids.ModuleDefId.{ModuleDefId}
use Rattle.hir_nameres.specs.HirBase.declared.mod_path.PathKind.{PathKind}
use Rattle.hir_nameres.specs.HirIds.declared.ids.AdtId.TheVariants as adts
use Rattle.hir_nameres.specs.HirIds.declared.ids.ModuleId.{ModuleId as AnyModule}
use Rattle.hir_nameres.specs.HirIds.declared.ids.ModuleDefId.TheVariants.{ModuleId, FunctionId, AdtId as AnyAdt, EnumVariantId}
use Rattle.hir_nameres.specs.HirIds.declared.ids.ModuleDefId.TheVariants.{ConstId, StaticId, TraitId, TypeAliasId}
use Rattle.hir_nameres.specs.HirIds.declared.ids.ModuleDefId.TheVariants.{BuiltinType, MacroId}
use Rattle.hir_nameres.specs.HirBase.declared.mod_path.PathKind.TheVariants as kinds
use Rattle.hir_nameres.specs.HirIds.contracts.ids.MapIdPartialEq.TheImpl as map_id
use Rattle.hir_nameres.specs.HirPerNs.ModuleTree.{same_block, same_crate}
use Rattle.hir_nameres.specs.HirPerNs.PerNs.{Item, or_of}
use Rattle.hir_nameres.specs.HirPerNs.Visibility.{is_visible}
use Rattle.hir_nameres.specs.HirPerNs.declared.imports.ImportOrExternCrate.{ImportOrExternCrate}
use Rattle.hir_nameres.specs.HirPerNs.declared.per_ns.PerNs.{PerNs}
use Rattle.hir_nameres.specs.HirPerNs.declared.imports.ImportOrExternCrate.TheVariants as ways
use Rattle.hir_nameres.specs.HirDefMapRules.Inner.OverlayLaws.{same_id}
use Rattle.hir_nameres.specs.HirDefMapRules.Ancestors.{above_in, holders_in}
use Rattle.hir_nameres.specs.HirDefMapRules.References.{reference_to, test_of, test_visibility, Fails, FailsAtItem}
use Rattle.hir_nameres.specs.HirDefMapRules.Scoping.Asking.{Asking}
use Rattle.hir_nameres.specs.HirDefMapRules.Scoping.Blocks.{from_blocks, inherited}
use Rattle.hir_nameres.specs.HirDefMapRules.Scoping.FirstSegment.{builtin_name, extern_bound, extern_name, legacy_bound}
use Rattle.hir_nameres.specs.HirDefMapRules.Scoping.FirstSegment.{legacy_of, macro_use_bound, macro_use_name}
use Rattle.hir_nameres.specs.HirDefMapRules.Scoping.FirstSegment.{macro_use_of, name_in_crate_root_or_extern_prelude, name_in_module, of_style, prelude_name}
use Rattle.hir_nameres.specs.HirDefMapRules.Scoping.FirstSegment.{shadow_before, unless_block_root, with_builtin}
use Rattle.hir_nameres.specs.HirDefMapRules.Scoping.Segments.{after_enum, crossing, nearest_non_block_module, rest, seen, through, through_adt, through_module}
use Rattle.hir_nameres.specs.HirDefMapRules.Scoping.Segments.{through_type, unresolved}
use Rattle.hir_nameres.specs.HirDefMapRules.Scoping.Start.{abs_from, climb, from_start, is_import, is_in_edition_2015}
use Rattle.hir_nameres.specs.HirDefMapRules.Scoping.Start.{module_bound, settled_in_block, super_from}
use Rattle.hir_nameres.specs.HirDefMapRules.State.{Local, Map, at_name, crate_root, numbered}
use Rattle.hir_nameres.specs.HirDefMapRules.Overlay.{Maps, entry_in, map_in, module_in}
use Rattle.hir_nameres.specs.HirDefMapRules.declared.path_result.ReachedFixedPoint.TheVariants.{No}
use Rattle.hir_nameres.specs.HirDefMapRules.declared.reference.Reference.{Reference}
use Rattle.hir_nameres.specs.HirDefMapRules.declared.path_result.ResolvePathResult.{ResolvePathResult}
use Rattle.hir_nameres.specs.HirDefMapRules.declared.reference.Reference.TheVariants as named
use Rattle.hir_def_map_laws.proofs.Agreement.{bound-in, bound_in}
use Rattle.hir_def_map_laws.proofs.Growing.{grown}
use Rattle.hir_def_map_laws.proofs.InScopes.{crates_outside, in_scopes}
use Rattle.hir_nameres.proofs.HirDefMapRules.Fails.{Fails-in_module, Fails-in_root, Fails-keep, Fails-nothing, Fails-public, Fails-weaker}
use Rattle.hir_nameres.proofs.HirDefMapRules.NoneOf.{not_first}
use Rattle.hir_def_map_laws.proofs.Changed.{Change, Here, IsBelow, Out, either-false, entry_here, entry_out, has_other_variants, here_out, holders_out, is_own}
use Rattle.hir_def_map_laws.proofs.Changed.{legacy_here, legacy_out, names_here, names_out, nearest_here, new, new_map, old, old_map, own, same_2015}
use Rattle.hir_def_map_laws.proofs.Changed.{same_climb, same_holders, same_nearest, same_prelude_module, same_reach, same_seen, variant_here, variant_out}
use Rattle.hir_def_map_laws.proofs.Holders.{start-of_crate}
use Rattle.hir_def_map_laws.proofs.ReadOutside.{Outside, SameFirst, bound_outside, inherited_out, rest_out, through_out}
use Rattle.hir_def_map_laws.specs.ReadLaw.{AgreeAt, BeginsOutside, IsReadAlike, ReadsDecide, SameInModule, SameInPreludes, ScopesReadAlike, is_named_in}
use Rattle.hir_def_map_laws.specs.ReadLaw.{with_crates}
use Rattle.hir_nameres.specs.declared.nameres.path_resolution.slots.Slot.{Slot}
use Rattle.hir_nameres.specs.declared.nameres.path_resolution.slots.Slot.TheVariants.{Module as of_module, Preludes as of_preludes}
use Rattle.hir_nameres.specs.Scoping.Slots.{further_slots, is_in, kept_in, module_among, module_by, prelude_module_of, reads, slots_after, slots_from_crates}
use Rattle.hir_nameres.specs.Scoping.Slots.{slots_from_module, slots_from_root, slots_of, with_prelude_slot, with_slot}

same_block_itself : (b : Option BlockId) → same_block b b ≡ true
same_block_itself None = refl
same_block_itself (Some b) = (unsigned_Decides b.0 b.0).1 refl

and-false : (a b : Bool) → a ≡ false → (a && b) ≡ false
and-false a b e = ap (λ (x : Bool). x && b) e

-- of two lists a test tells which one agrees
either_way : {X Q : Type 0} (b : Bool) (s k : X) (P : X → Type 0) → (P s → Q) → (P k → Q) → P (cond b s k) → Q
either_way true s k P f g a = f a
either_way false s k P f g a = g a

either_alike : {X Y : Type 0} (c b : Bool) → c ≡ b → (p q r u : X) (k l m n : Y) (P : Y → Type 0) → (P l → (p ≡ q) × (k ≡ l)) → (P n → (r ≡ u) × (m ≡ n))
    → P (cond b l n)
    → (cond c p r ≡ cond b q u) × (cond c k m ≡ cond b l n)
either_alike c true e p q r u k l m n P f g a = (ap (λ (x : Bool). cond x p r) e ∙ (f a).0, ap (λ (x : Bool). cond x k m) e ∙ (f a).1)
either_alike c false e p q r u k l m n P f g a = (ap (λ (x : Bool). cond x p r) e ∙ (g a).0, ap (λ (x : Bool). cond x k m) e ∙ (g a).1)

module _ (t : Change) (asking : Asking) (local : Local) (begins : BeginsOutside t.one.id asking.local) (at : ℕ) (low : IsBelow t.bound at) where
  abbrev asked : Asking
  asked = with_crates asking local

  abbrev from : AnyModule
  from = numbered t.one.id at

  from_here : Here t from
  from_here inside = low

  abbrev Agree : List Slot → Type 0
  Agree slots = All (AgreeAt t.one asking.local t.other local) slots

  first_agrees : (slot : Slot) (slots : List Slot) → Agree (slot ∷ slots) → AgreeAt t.one asking.local t.other local slot
  first_agrees slot slots agree = All-head (AgreeAt t.one asking.local t.other local) slot slots agree

  others_agree : (slot : Slot) (slots : List Slot) → Agree (slot ∷ slots) → Agree slots
  others_agree slot slots agree = All-tail (AgreeAt t.one asking.local t.other local) slot slots agree

  -- each enum of the map among the items keeps its variants
  abbrev Known : PerNs → Type 0
  Known p = Fails (has_other_variants t) p

  known_out : (p : PerNs) → Outside t p → Known p
  known_out p outside = Fails-weaker (is_named_in (own t)) (has_other_variants t) weaker p outside
    where
      weaker : (n : Reference) → is_named_in (own t) n ≡ false → has_other_variants t n ≡ false
      weaker (named.Module m) e = refl
      weaker (named.Enum id) e = and-false (map_id.ghosts.eq id.loc.container.map (own t)) (t.changes id) e
      weaker (named.Map id) e = refl

  known : (m : AnyModule) (name : List ℕ) → Known (entry_in (old t) m name)
  known m name = go (is_in (own t) m) refl
    where
      go : (b : Bool) → is_in (own t) m ≡ b → Known (entry_in (old t) m name)
      go true e = names_here t m name e
      go false e = known_out (entry_in (old t) m name) (names_out t m name e)

  -- ---- further segments

  record Alike (ss : List (List ℕ)) (i : ℕ) (p : PerNs) : Type 0 where
    answers : rest (new t) from ss i p ≡ rest (old t) from ss i p
    slots : slots_after (new t) (own t) from ss p ≡ slots_after (old t) (own t) from ss p

  module _ (ss : List (List ℕ)) (i : ℕ) (s : List ℕ) (alike : (p : PerNs) → Known p → Agree (slots_after (old t) (own t) from ss p) → Alike ss (i + 1) p) where
    abbrev before : AnyModule → PerNs → ResolvePathResult
    before f q = rest (old t) f ss (i + 1) q

    abbrev after : AnyModule → PerNs → ResolvePathResult
    after f q = rest (new t) f ss (i + 1) q

    module_alike : (m : AnyModule) (b : Bool) → is_in (own t) m ≡ b → Agree (further_slots (old t) (own t) from (s ∷ ss) (cond b (Some m) None))
        → (through_module after (new t) from s m ≡ through_module before (old t) from s m)
        × (further_slots (new t) (own t) from (s ∷ ss) (cond b (Some m) None) ≡ further_slots (old t) (own t) from (s ∷ ss) (cond b (Some m) None))
    module_alike m false e agree =
        let outside : through_module after (new t) from s m ≡ through_module before (old t) from s m =
        through_out t before after (λ f q h o. rest_out t ss (i + 1) f h q o) from from_here ss i s (module_bound m).types (bound_outside t m e).types in
        (outside, refl)
    module_alike m true e agree =
        let here : SameInModule t.one t.other m.index s = first_agrees (of_module m.index s) (slots_after (old t) (own t) from ss (seen (old t) from m s)) agree
        in
        let same : seen (new t) from m s ≡ seen (old t) from m s = same_seen t from m s from_here (entry_here t m s e here.entries) in
        let next : Alike ss (i + 1) (seen (old t) from m s) =
        alike (seen (old t) from m s) (Fails-keep (has_other_variants t) (λ v. is_visible (above_in (old t)) (holders_in (old t)) v from) (entry_in (old t) m s)
        (names_here t m s e))
        (others_agree (of_module m.index s) (slots_after (old t) (own t) from ss (seen (old t) from m s)) agree) in
        let own_crate : same_crate m.map.krate from.map.krate ≡ true = ap (λ (id : MapId). same_crate id.krate from.map.krate) (is_own t m e) ∙
        (unsigned_Decides from.map.krate.0 from.map.krate.0).1 refl in
        let within : after from (seen (new t) from m s) ≡ before from (seen (old t) from m s) = ap (after from) same ∙ next.answers in (
          ap (λ (b : Bool). cond b (after from (seen (new t) from m s))
              (crossing (after (nearest_non_block_module (new t) m) (seen (new t) (nearest_non_block_module (new t) m) (nearest_non_block_module (new t) m) s))))
              own_crate
              ∙ within
              ∙ sym (ap (λ (b : Bool). cond b (before from (seen (old t) from m s))
              (crossing (before (nearest_non_block_module (old t) m) (seen (old t) (nearest_non_block_module (old t) m) (nearest_non_block_module (old t) m)
              s)))) own_crate),
          ap (λ (xs : List Slot). of_module m.index s ∷ xs) (ap (slots_after (new t) (own t) from ss) same ∙ next.slots),
        )

    type_alike : (o : Option (Item ModuleDefId ImportOrExternCrate)) → FailsAtItem (has_other_variants t) o
        → Agree (further_slots (old t) (own t) from (s ∷ ss) (module_among (own t) o))
        → (through_type after (new t) from ss i s o ≡ through_type before (old t) from ss i s o)
        × (further_slots (new t) (own t) from (s ∷ ss) (module_among (own t) o) ≡ further_slots (old t) (own t) from (s ∷ ss) (module_among (own t) o))
    type_alike None fails agree = (refl, refl)
    type_alike (Some item) fails agree =
        go item.def (not_first (test_of (has_other_variants t) (reference_to item.def)) (test_visibility (has_other_variants t) item.vis) fails) agree
      where
        enum_alike : (id : EnumId) (b : Bool) → map_id.ghosts.eq id.loc.container.map (own t) ≡ b → (c : Bool) → t.changes id ≡ c → (b && c) ≡ false
            → through_adt (new t) ss i s item (adts.EnumId id) ≡ through_adt (old t) ss i s item (adts.EnumId id)
        enum_alike id true e true f none = absurd cc
        enum_alike id true e false f none = ap (after_enum ss i item) (variant_here t id s e f)
        enum_alike id false e c f none = ap (after_enum ss i item) (variant_out t id s e)

        adt : (a : AdtId) → test_of (has_other_variants t) (reference_to (AnyAdt a)) ≡ false → through_adt (new t) ss i s item a
            ≡ through_adt (old t) ss i s item a
        adt (adts.EnumId id) none = enum_alike id (map_id.ghosts.eq id.loc.container.map (own t)) refl (t.changes id) refl none
        adt (adts.StructId id) none = refl
        adt (adts.UnionId id) none = refl

        go : (d : ModuleDefId) → test_of (has_other_variants t) (reference_to d) ≡ false
            → Agree (further_slots (old t) (own t) from (s ∷ ss) (module_by (own t) d))
            → (through after (new t) from ss i s item d ≡ through before (old t) from ss i s item d)
            × (further_slots (new t) (own t) from (s ∷ ss) (module_by (own t) d) ≡ further_slots (old t) (own t) from (s ∷ ss) (module_by (own t) d))
        go (ModuleId m) none a = module_alike m (is_in (own t) m) refl a
        go (AnyAdt x) none a = (adt x none, refl)
        go other none a = (refl, refl)

  rest_alike : (ss : List (List ℕ)) (i : ℕ) (p : PerNs) → Known p → Agree (slots_after (old t) (own t) from ss p) → Alike ss i p
  rest_alike [] i p k agree = record { answers = refl; slots = refl }
  rest_alike (s ∷ ss) i p k agree =
      let both = type_alike ss i s (λ q l a. rest_alike ss (i + 1) q l a) p.types k.types agree in
      record { answers = both.0; slots = both.1 }

  -- ---- a first segment

  record Looked (m : AnyModule) (name : List ℕ) (slots : List Slot) : Type 0 where
    entries : entry_in (new t) m name ≡ entry_in (old t) m name
    legacy : legacy_of (module_in (new t) m) name ≡ legacy_of (module_in (old t) m) name
    left : Agree slots

  look : (m : AnyModule) (name : List ℕ) (slots : List Slot) → Agree (with_slot (own t) m name slots) → Looked m name slots
  look m name slots agree = go (is_in (own t) m) refl agree
    where
      go : (b : Bool) → is_in (own t) m ≡ b → Agree (cond b (of_module m.index name ∷ slots) slots) → Looked m name slots
      go true e a =
          let here : SameInModule t.one t.other m.index name = first_agrees (of_module m.index name) slots a in
          record {
            entries = entry_here t m name e here.entries;
            legacy = legacy_here t m name e here.legacy;
            left = others_agree (of_module m.index name) slots
                a;
          }
      go false e a = record { entries = entry_out t m name e; legacy = legacy_out t m name e; left = a }

  look_prelude : (o : Option AnyModule) (name : List ℕ) (slots : List Slot) → Agree (with_prelude_slot (own t) o name slots)
      → (bound_in (λ m. entry_in (new t) m name) o ≡ bound_in (λ m. entry_in (old t) m name) o) × Agree slots
  look_prelude None name slots agree = (refl, agree)
  look_prelude (Some m) name slots agree = let found : Looked m name slots = look m name slots agree in (found.entries, found.left)

  known_bound : (o : Option AnyModule) (name : List ℕ) → Known (bound_in (λ m. entry_in (old t) m name) o)
  known_bound None name = Fails-nothing (has_other_variants t)
  known_bound (Some m) name = known m name

  known_extern : (name : List ℕ) → Known (extern_name asking.local name)
  known_extern name = go (at_name asking.local name)
    where
      go : (o : Option (AnyModule × Option ExternCrateId)) → Known (extern_bound o)
      go None = Fails-nothing (has_other_variants t)
      go (Some entry) = Fails-public (has_other_variants t) (ModuleId entry.0) (option_map ways.ExternCrate entry.1) refl

  known_module : (m : AnyModule) → Known (module_bound m)
  known_module m = Fails-public (has_other_variants t) (ModuleId m) None refl

  abbrev prelude_before : Option AnyModule
  prelude_before = prelude_module_of (map_in (old t) from.map)

  prelude_by : (name : List ℕ) → prelude_name (old t) from name ≡ bound_in (λ m. entry_in (old t) m name) prelude_before
  prelude_by name = bound-in (old t) (map_in (old t) from.map) name

  module _ (s : List ℕ) (ss : List (List ℕ)) where
    same_extern : SameInPreludes t.one asking.local t.other local s → extern_name local s ≡ extern_name asking.local s
    same_extern same = ap extern_bound same.crates

    same_macro_use : SameInPreludes t.one asking.local t.other local s → macro_use_name (new t) from s ≡ macro_use_name (old t) from s
    same_macro_use same =
        ap (λ (o : Option Map). macro_use_bound (macro_use_of o s)) (new_map t from.map (same_id from.map))
        ∙ ap macro_use_bound same.macro_uses
        ∙ sym (ap (λ (o : Option Map). macro_use_bound (macro_use_of o s)) (old_map t from.map (same_id from.map)))

    root_alike : Agree (slots_from_root (old t) asking (own t) from s ss)
        → (rest (new t) from ss 1 (name_in_crate_root_or_extern_prelude (new t) local from s)
        ≡ rest (old t) from ss 1 (name_in_crate_root_or_extern_prelude (old t) asking.local from s))
        × (slots_from_root (new t) asked (own t) from s ss ≡ slots_from_root (old t) asking (own t) from s ss)
    root_alike agree =
        let root : AnyModule = crate_root from.map.krate in
        let names_before : PerNs = name_in_crate_root_or_extern_prelude (old t) asking.local from s in
        let behind : List Slot = slots_after (old t) (own t) from ss names_before in
        let found : Looked root s (of_preludes s ∷ behind) = look root s (of_preludes s ∷ behind) agree in
        let same : SameInPreludes t.one asking.local t.other local s = first_agrees (of_preludes s) behind found.left in
        let names : name_in_crate_root_or_extern_prelude (new t) local from s ≡ names_before = λ i. or_of (found.entries i)
        (unless_block_root from (same_extern same i)) in
        let next : Alike ss 1 names_before =
        rest_alike ss 1 names_before (Fails-in_root (has_other_variants t) (old t) asking.local from s (known_extern s) (known root s))
        (others_agree (of_preludes s) behind found.left) in (
          ap (rest (new t) from ss 1) names ∙ next.answers,
          ap (λ (xs : List Slot). with_slot (own t) root s (of_preludes s ∷ xs)) (ap (slots_after (new t) (own t) from ss) names ∙ next.slots),
        )

    inside_alike : Agree (slots_from_module (old t) asking (own t) from s ss)
        → (rest (new t) from ss 1 (name_in_module (new t) local asking.sub_ns (shadow_before ss asking.shadow) from s)
        ≡ rest (old t) from ss 1 (name_in_module (old t) asking.local asking.sub_ns (shadow_before ss asking.shadow) from s))
        × (slots_from_module (new t) asked (own t) from s ss ≡ slots_from_module (old t) asking (own t) from s ss)
    inside_alike agree =
        let names_before : PerNs = name_in_module (old t) asking.local asking.sub_ns (shadow_before ss asking.shadow) from s in
        let behind : List Slot = slots_after (old t) (own t) from ss names_before in
        let found : Looked from s (with_prelude_slot (own t) prelude_before s (of_preludes s ∷ behind)) = look from s
        (with_prelude_slot (own t) prelude_before s (of_preludes s ∷ behind)) agree in
        let prelude = look_prelude prelude_before s (of_preludes s ∷ behind) found.left in
        let same : SameInPreludes t.one asking.local t.other local s = first_agrees (of_preludes s) behind prelude.1 in
        let same_module : prelude_module_of (map_in (new t) from.map) ≡ prelude_before = same_prelude_module t from.map in
        let same_prelude : prelude_name (new t) from s ≡ prelude_name (old t) from s =
        bound-in (new t) (map_in (new t) from.map) s ∙ ap (bound_in (λ m. entry_in (new t) m s)) same_module ∙ prelude.0 ∙ sym (prelude_by s) in
        let names : name_in_module (new t) local asking.sub_ns (shadow_before ss asking.shadow) from s ≡ names_before = λ i.
        or_of (or_of (or_of (or_of (legacy_bound asking.sub_ns (found.legacy i))
        (with_builtin (shadow_before ss asking.shadow) (of_style asking.sub_ns (found.entries i)) (builtin_name from s)))
        (unless_block_root from (same_extern same i)))
        (same_macro_use same i))
        (unless_block_root from (same_prelude i)) in
        let next : Alike ss 1 names_before =
        rest_alike ss 1 names_before
        (Fails-in_module (has_other_variants t) (old t) asking.local from s (known_extern s) asking.sub_ns (shadow_before ss asking.shadow) (known from s)
        (subst Known (sym (prelude_by s)) (known_bound prelude_before s)))
        (others_agree (of_preludes s) behind prelude.1) in (
          ap (rest (new t) from ss 1) names ∙ next.answers,
          λ i. with_slot (own t) from s (with_prelude_slot (own t) (same_module i) s
              (of_preludes s ∷ (ap (slots_after (new t) (own t) from ss) names ∙ next.slots) i)),
        )

    crates_alike : Agree (slots_from_crates (old t) asking (own t) from s ss)
        → (abs_from (new t) from ss (extern_name local s) ≡ abs_from (old t) from ss (extern_name asking.local s))
        × (slots_from_crates (new t) asked (own t) from s ss ≡ slots_from_crates (old t) asking (own t) from s ss)
    crates_alike agree =
        let names_before : PerNs = extern_name asking.local s in
        let behind : List Slot = slots_after (old t) (own t) from ss names_before in
        let same : SameInPreludes t.one asking.local t.other local s = first_agrees (of_preludes s) behind agree in
        let next : Alike ss 1 names_before = rest_alike ss 1 names_before (known_extern s) (others_agree (of_preludes s) behind agree) in (
          ap (abs_from (new t) from ss) (same_extern same) ∙ ap (λ (r : ResolvePathResult). cond (is_some names_before.types) r (unresolved No)) next.answers,
          ap (λ (xs : List Slot). of_preludes s ∷ xs) (ap (slots_after (new t) (own t) from ss) (same_extern same) ∙ next.slots),
        )

  -- ---- a path from where it starts

  no_slots : (maps : Maps) (segs : List (List ℕ)) → further_slots maps (own t) from segs None ≡ []
  no_slots maps [] = refl
  no_slots maps (s ∷ ss) = refl

  abbrev slots_under : Maps → List (List ℕ) → Option AnyModule → List Slot
  slots_under maps segs o = further_slots maps (own t) from segs (option_and_then (kept_in (own t)) o)

  super_alike : (segs : List (List ℕ)) (o : Option AnyModule) → Agree (slots_under (old t) segs o)
      → (super_from (new t) from segs o ≡ super_from (old t) from segs o) × (slots_under (new t) segs o ≡ slots_under (old t) segs o)
  super_alike segs None agree = (refl, no_slots (new t) segs ∙ sym (no_slots (old t) segs))
  super_alike segs (Some m) agree =
      let next : Alike segs 0 (module_bound m) = rest_alike segs 0 (module_bound m) (known_module m) agree in
      (on (same_block m.map.block from.map.block) refl next.answers, next.slots)
    where
      elsewhere : same_block m.map.block from.map.block ≡ false → Out t m
      elsewhere e = go (is_in (own t) m) refl
        where
          go : (b : Bool) → is_in (own t) m ≡ b → Out t m
          go true s =
              either-false (same_block m.map.block from.map.block) (ap (λ (id : MapId). same_block id.block from.map.block) (is_own t m s) ∙ same_block_itself
              from.map.block) e
          go false s = s

      on : (b : Bool) → same_block m.map.block from.map.block ≡ b → rest (new t) from segs 0 (module_bound m) ≡ rest (old t) from segs 0 (module_bound m)
          → cond b (rest (new t) from segs 0 (module_bound m)) (settled_in_block m (rest (new t) m segs 0 (module_bound m)))
          ≡ cond b (rest (old t) from segs 0 (module_bound m)) (settled_in_block m (rest (old t) m segs 0 (module_bound m)))
      on true e same = same
      on false e same = ap (settled_in_block m) (rest_out t segs 0 m (here_out t m (elsewhere e)) (module_bound m) (bound_outside t m (elsewhere e)))

  start_alike : (kind : PathKind) (segs : List (List ℕ)) → Agree (slots_of (old t) asking (own t) from kind segs)
      → (from_start (new t) asked from kind segs ≡ from_start (old t) asking from kind segs)
      × (slots_of (new t) asked (own t) from kind segs ≡ slots_of (old t) asking (own t) from kind segs)
  start_alike kinds.Crate segs agree =
      let next : Alike segs 0 (module_bound (crate_root from.map.krate)) = rest_alike segs 0 (module_bound (crate_root from.map.krate))
      (known_module (crate_root from.map.krate)) agree in (next.answers, next.slots)
  start_alike (kinds.DollarCrate c) segs agree =
      let next : Alike segs 0 (module_bound (crate_root c)) = rest_alike segs 0 (module_bound (crate_root c)) (known_module (crate_root c)) agree in
      (λ i. cond (same_reach t from c i) (next.answers i) (unresolved No), next.slots)
  start_alike (kinds.Super n) segs agree =
      let near : AnyModule = nearest_non_block_module (old t) from in
      let climbed : climb (new t) n (nearest_non_block_module (new t) from) ≡ climb (old t) n near = ap (climb (new t) n) (same_nearest t from) ∙ same_climb t n
      near (nearest_here t from from_here) in
      let both = super_alike segs (climb (old t) n near) agree in
      (ap (super_from (new t) from segs) climbed ∙ both.0, ap (slots_under (new t) segs) climbed ∙ both.1)
  start_alike kinds.Plain [] agree = (refl, refl)
  start_alike kinds.Plain (s ∷ ss) agree =
      let same : (is_in_edition_2015 (map_in (new t) from.map) && is_import asking.mode)
      ≡ (is_in_edition_2015 (map_in (old t) from.map) && is_import asking.mode) =
      ap (λ (b : Bool). b && is_import asking.mode) (same_2015 t from.map) in
      either_alike _ _ same _ _ _ _ _ _ _ _ Agree (root_alike s ss) (inside_alike s ss) agree
  start_alike kinds.Abs [] agree = (refl, refl)
  start_alike kinds.Abs (s ∷ ss) agree = either_alike _ _ (same_2015 t from.map) _ _ _ _ _ _ _ _ Agree (root_alike s ss) (crates_alike s ss) agree

  -- ---- a path from inside a block

  root_first : (s : List ℕ) (ss : List (List ℕ)) → Agree (slots_from_root (old t) asking (own t) from s ss) → SameInPreludes t.one asking.local t.other local s
  root_first s ss agree =
      let behind : List Slot = slots_after (old t) (own t) from ss (name_in_crate_root_or_extern_prelude (old t) asking.local from s) in
      let found : Looked (crate_root from.map.krate) s (of_preludes s ∷ behind) = look (crate_root from.map.krate) s (of_preludes s ∷ behind) agree in
      first_agrees (of_preludes s) behind found.left

  inside_first : (s : List ℕ) (ss : List (List ℕ)) → Agree (slots_from_module (old t) asking (own t) from s ss) → SameInPreludes t.one asking.local t.other
      local s
  inside_first s ss agree =
      let behind : List Slot = slots_after (old t) (own t) from ss (name_in_module (old t) asking.local asking.sub_ns (shadow_before ss asking.shadow) from s)
      in
      let found : Looked from s (with_prelude_slot (own t) prelude_before s (of_preludes s ∷ behind)) = look from s
      (with_prelude_slot (own t) prelude_before s (of_preludes s ∷ behind)) agree in
      first_agrees (of_preludes s) behind (look_prelude prelude_before s (of_preludes s ∷ behind) found.left).1

  crates_first : (s : List ℕ) (ss : List (List ℕ)) → Agree (slots_from_crates (old t) asking (own t) from s ss) → SameInPreludes t.one asking.local t.other
      local s
  crates_first s ss agree = first_agrees (of_preludes s) (slots_after (old t) (own t) from ss (extern_name asking.local s)) agree

  first_same : (kind : PathKind) (segs : List (List ℕ)) → Agree (slots_of (old t) asking (own t) from kind segs) → SameFirst t asking local begins kind segs
  first_same kinds.Crate segs agree = tt
  first_same (kinds.DollarCrate c) segs agree = tt
  first_same (kinds.Super n) segs agree = tt
  first_same kinds.Plain [] agree = tt
  first_same kinds.Plain (s ∷ ss) agree =
      either_way (is_in_edition_2015 (map_in (old t) from.map) && is_import asking.mode) _ _ Agree (root_first s ss) (inside_first s ss) agree
  first_same kinds.Abs [] agree = tt
  first_same kinds.Abs (s ∷ ss) agree = either_way (is_in_edition_2015 (map_in (old t) from.map)) _ _ Agree (root_first s ss) (crates_first s ss) agree

  pub reads_alike : (path : Path) → Agree (reads t.finished asking t.one from path) → IsReadAlike t.finished t.one asking t.other local from path
  reads_alike path agree = record {
    answers = go t.one.id.block refl;
    slots = ap (λ (id : MapId). slots_of (new t) asked id from path.kind path.segments) t.id ∙ start.1;
  }
    where
      start : (from_start (new t) asked from path.kind path.segments ≡ from_start (old t) asking from path.kind path.segments)
          × (slots_of (new t) asked (own t) from path.kind path.segments ≡ slots_of (old t) asking (own t) from path.kind path.segments)
      start = start_alike path.kind path.segments agree

      go : (o : Option BlockId) → t.one.id.block ≡ o → from_blocks (new t) asked from path.kind path.segments ≡ from_blocks (old t) asking from path.kind
          path.segments
      go None e = start-of_crate (new t) asked from path.kind path.segments e ∙ start.0 ∙ sym (start-of_crate (old t) asking from path.kind path.segments e)
      go (Some b) e =
          ap (inherited (new t) asked path.kind path.segments (from_start (new t) asked from path.kind path.segments) from) (same_holders t from)
          ∙ inherited_out t asking local begins b e path.kind path.segments (first_same path.kind path.segments agree) (holders_in (old t) from)
          (holders_out t from)
          (from_start (new t) asked from path.kind path.segments) (from_start (old t) asking from path.kind path.segments) start.0 from

pub reads_decide : ReadsDecide
reads_decide finished one other asking local at path stands begins low grows agree =
    reads_alike (grown finished one other stands grows) asking local (crates_outside one.id asking.local begins) at low path agree

pub scopes_read : ScopesReadAlike
scopes_read finished one other asking at path apart begins differs agree =
    reads_alike (in_scopes finished one other apart differs) asking asking.local begins at tt path agree
