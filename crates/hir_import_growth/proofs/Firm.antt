-- What a path means stays as modules and enums come.
use Rattle.std.proofs.Common.{◌≡◌, ◌∙◌, ap, sym, subst, refl, ℕ, ◌≤◌, List, length, Bool, true, false, ◌&&◌, not, Option, None, Some, get_or, arith}
use Rattle.std.proofs.lemmas.List.{length-map}
use Rattle.std.specs.List.{All}
use Rattle.std.specs.Option.{option_and_then}
use Rattle.std.specs.Prelude.{is_some, slice_get}
use Rattle.hir_nameres.specs.HirIds.contracts.ids.MapIdPartialEq.TheImpl as map_id
use Rattle.hir_nameres.specs.HirIds.declared.ids.AdtId.TheVariants as adts
use Rattle.hir_nameres.specs.HirIds.declared.ids.MapId.{MapId}
use Rattle.hir_nameres.specs.HirIds.declared.ids.ModuleDefId.{ModuleDefId}
use Rattle.hir_nameres.specs.HirIds.declared.ids.ModuleDefId.TheVariants.{ModuleId, FunctionId, AdtId as AnyAdt, EnumVariantId}
use Rattle.hir_nameres.specs.HirIds.declared.ids.ModuleDefId.TheVariants.{ConstId, StaticId, TraitId, TypeAliasId}
use Rattle.hir_nameres.specs.HirIds.declared.ids.ModuleDefId.TheVariants.{BuiltinType, MacroId}
use Rattle.hir_nameres.specs.HirIds.declared.ids.ModuleId.{ModuleId as AnyModule}
use Rattle.hir_nameres.specs.HirPerNs.PerNs.{Item}
use Rattle.hir_nameres.specs.HirPerNs.declared.imports.ImportOrExternCrate.{ImportOrExternCrate}
use Rattle.hir_nameres.specs.HirDefMapRules.Overlay.{Maps, holders_or, holders_under, placed_in}
use Rattle.hir_nameres.specs.HirDefMapRules.Scoping.{Resolution}
use Rattle.hir_nameres.specs.Scoping.Slots.{is_in}
use Rattle.hir_nameres.proofs.HirDefMapRules.WellFormed.{parent_listed}
use Rattle.hir_nameres.specs.HirDefMapRules.State.{IsBefore, IsInOrder, Map, ModuleValue, Variants, module_at, parent_of, variants_at}
use Rattle.hir_nameres.specs.declared.nameres.path_resolution.slots.Slot.{Slot as PathSlot}
use Rattle.hir_nameres.specs.declared.nameres.path_resolution.slots.Slot.TheVariants.{Module as of_module, Preludes as of_preludes}
use Rattle.hir_nameres.specs.HirDefMapRules.declared.reference.Reference.{Reference}
use Rattle.hir_nameres.specs.HirDefMapRules.declared.reference.Reference.TheVariants as named
use Rattle.hir_def_map_laws.specs.ReadLaw.{DiffersInScopes, Grows, has_no_variants, is_bare, is_bare_def, stops_bare}
use Rattle.hir_glob_imports.specs.declared.edge.Target.{Target}
use Rattle.hir_glob_imports.specs.declared.edge.Target.TheVariants as targets
use Rattle.hir_import_rules.specs.Lasting.{HasVariants, IsOrdered, IsThere}

either_no : (a b c d : Bool) → (a && b) ≡ false → (b ≡ false → d ≡ false) → c ≡ a → (c && d) ≡ false
either_no true b c d e keeps same = ap (λ (x : Bool). x && d) same ∙ keeps e
either_no false b c d e keeps same = ap (λ (x : Bool). x && d) same

-- ---- enums without variants

-- where none lacks its variants that didn't, no path stops at one that didn't
module _ (s t : Map) (keeps : (n : Reference) → has_no_variants s n ≡ false → has_no_variants t n ≡ false) where
  still_filled : (d : ModuleDefId) → is_bare_def s d ≡ false → is_bare_def t d ≡ false
  still_filled (AnyAdt (adts.EnumId id)) e = keeps (named.Enum id) e
  still_filled (AnyAdt (adts.StructId id)) e = refl
  still_filled (AnyAdt (adts.UnionId id)) e = refl
  still_filled (ModuleId x) e = refl
  still_filled (FunctionId x) e = refl
  still_filled (EnumVariantId x) e = refl
  still_filled (ConstId x) e = refl
  still_filled (StaticId x) e = refl
  still_filled (TraitId x) e = refl
  still_filled (TypeAliasId x) e = refl
  still_filled (BuiltinType x) e = refl
  still_filled (MacroId x) e = refl

  still_filled_type : (o : Option (Item ModuleDefId ImportOrExternCrate)) → is_bare s o ≡ false → is_bare t o ≡ false
  still_filled_type None e = refl
  still_filled_type (Some item) e = still_filled item.def e

  pub still_unstopped : (a : Resolution) → stops_bare s a ≡ false → stops_bare t a ≡ false
  still_unstopped a e =
      either_no (is_some a.segment_index) (is_bare s a.resolved_def.types) (is_some a.segment_index) (is_bare t a.resolved_def.types) e
      (still_filled_type a.resolved_def.types) refl

  -- a target that had its variants has them
  pub still_has : (of : Target) → HasVariants s of → HasVariants t of
  still_has (targets.Own at) has = tt
  still_has (targets.Module m) has = tt
  still_has (targets.Enum id) has = keeps (named.Enum id) has

-- ---- scopes change

module _ (s t : Map) (differs : DiffersInScopes s t) where
  pub same_variants : (n : Reference) → has_no_variants s n ≡ false → has_no_variants t n ≡ false
  same_variants (named.Module m) e = refl
  same_variants (named.Enum id) e = (λ i. map_id.ghosts.eq id.loc.container.map (differs.id i) && not (is_some (differs.enums id i))) ∙ e
  same_variants (named.Map id) e = refl

  pub as_many : length t.modules ≡ length s.modules
  as_many = sym (length-map t.modules (λ (m : ModuleValue). m.parent)) ∙ ap length differs.parents ∙ length-map s.modules (λ (m : ModuleValue). m.parent)

  same_parent : (at : ℕ) → parent_of (module_at s at) ≡ parent_of (module_at t at)
  same_parent at =
      sym (parent_listed s.modules at)
      ∙ ap (λ (ps : List (Option AnyModule)). option_and_then (λ (p : Option AnyModule). p) (slice_get ps at)) (sym differs.parents)
      ∙ parent_listed t.modules at

  before_parent : IsInOrder s → (at : ℕ) (o : Option ModuleValue) → module_at s at ≡ o → IsBefore s.id at (parent_of o)
  before_parent in_order at None e = tt
  before_parent in_order at (Some m) e = in_order at m e

  still_in_order : IsInOrder s → IsInOrder t
  still_in_order in_order at m e =
      subst (λ (id : MapId). IsBefore id at m.parent) (sym differs.id)
      (subst (IsBefore s.id at) (same_parent at ∙ ap parent_of e) (before_parent in_order at (module_at s at) refl))

  same_holders : (finished : Maps) → (placed_in finished t).holders ≡ (placed_in finished s).holders
  same_holders finished = λ i. holders_or (finished (differs.id i)) (holders_under finished (differs.id i) (differs.holder i))

  pub still_ordered : (finished : Maps) → IsOrdered finished s → IsOrdered finished t
  still_ordered finished ordered = record {
    in_order = still_in_order ordered.in_order;
    holders =
        subst (λ (id : MapId). All (λ (h : AnyModule). is_in id h ≡ false) (placed_in finished t).holders) (sym differs.id)
        (subst (All (λ (h : AnyModule). is_in s.id h ≡ false)) (sym (same_holders finished)) ordered.holders);
  }

-- ---- maps grow

module _ (s t : Map) (grows : Grows s t) where
  pub more_variants : (n : Reference) → has_no_variants s n ≡ false → has_no_variants t n ≡ false
  more_variants (named.Module m) e = refl
  more_variants (named.Enum id) e =
      either_no (map_id.ghosts.eq id.loc.container.map s.id) (not (is_some (variants_at s id))) (map_id.ghosts.eq id.loc.container.map t.id)
      (not (is_some (variants_at t id))) e
      (stays (variants_at s id) refl) (ap (map_id.ghosts.eq id.loc.container.map) grows.id)
    where
      stays : (o : Option Variants) → variants_at s id ≡ o → not (is_some (variants_at s id)) ≡ false → not (is_some (variants_at t id)) ≡ false
      stays None f g = let none : not (is_some (variants_at s id)) ≡ true = ap (λ (o : Option Variants). not (is_some o)) f in absurd cc
      stays (Some variants) f g = ap (λ (o : Option Variants). not (is_some o)) (grows.enums id variants f)
  more_variants (named.Map id) e = refl

  pub grown_ordered : (finished : Maps) → IsOrdered finished s → IsInOrder t → IsOrdered finished t
  grown_ordered finished ordered in_order = record {
    in_order = in_order;
    holders =
        subst (λ (id : MapId). All (λ (h : AnyModule). is_in id h ≡ false) (placed_in finished t).holders) (sym grows.id)
        (subst (All (λ (h : AnyModule). is_in s.id h ≡ false)) (sym same) ordered.holders);
  }
    where
      same : (placed_in finished t).holders ≡ (placed_in finished s).holders
      same = λ i. holders_or (finished (grows.id i)) (holders_under finished (grows.id i) (grows.holder i))

-- ---- slots of modules that are there

pub there_still : (m n : ℕ) → m ≤ n → (slot : PathSlot) → IsThere m slot → IsThere n slot
there_still m n low (of_module at name) there = omega (arith, low, there)
there_still m n low (of_preludes name) there = tt

pub all_there_still : (m n : ℕ) → m ≤ n → (slots : List PathSlot) → All (IsThere m) slots → All (IsThere n) slots
all_there_still m n low slots there = λ k d l. there_still m n low (get_or slots k d) (there k d l)
