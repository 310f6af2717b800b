-- An enum that gets its variants is there, and they are its own.
use Rattle.std.specs.Prelude.{◌≡◌, List, [], ◌∷◌, Bool, true, false, not, is_some, Option, None, Some, cond, fold, option_and_then}
use Rattle.std.specs.BTreeMap.{insert_entry, is_at}
use Rattle.std.specs.Cmp.Lexicographic.{slice_cmp}
use Rattle.std.specs.Cmp.{IsTotalOrder, first_so, second_so, tied_itself}
use Rattle.std.specs.List.{list_all}
use Rattle.std.specs.Map.{lookup}
use Rattle.std.specs.Ordering.{is_eq, match_ordering, nat_cmp}
use Rattle.std.specs.declared.cmp.Ordering.{Ordering}
use Rattle.std.specs.declared.cmp.Ordering.TheVariants.{Less, Equal, Greater}
use Rattle.std.proofs.Common.{ap, refl, ◌∙◌}
use Rattle.hir_collector_rules.specs.HirIds.contracts.ids.EnumIdOrd.TheImpl as enum_order
use Rattle.hir_collector_rules.specs.HirIds.contracts.ids.EnumIdOrd.TheImpl.Laws.{matches_eq-law as enum_ties, total-law as enum_total}
use Rattle.hir_collector_rules.specs.HirIds.contracts.ids.EnumIdPartialEq.TheImpl as enum_id
use Rattle.hir_collector_rules.specs.HirIds.contracts.ids.MapIdPartialEq.TheImpl as map_id
use Rattle.hir_collector_rules.specs.HirIds.declared.ids.EnumId.{EnumId}
use Rattle.hir_collector_rules.specs.HirItemTree.declared.side_lists.VariantItem.{VariantItem}
use Rattle.hir_def_map.proofs.Joined.{both}
use Rattle.hir_collector_rules.specs.HirDefMapRules.References.{are_variants_of, is_missing}
use Rattle.hir_collector_rules.specs.HirDefMapRules.State.{Map, Variants, variants_at, with_enum}
use Rattle.hir_collector_rules.specs.HirDefMapRules.Overlay.{Maps, Placed, overlay, placed_in}
use Rattle.hir_collector_rules.specs.HirMapParts.declared.enum_variants.EnumVariant.{EnumVariant}
use Rattle.hir_collector_rules.specs.HirDefMapRules.declared.reference.Reference.TheVariants as named
use Rattle.hir_collector_rules.proofs.Entries.{there_or}
use Rattle.hir_collector_rules.specs.Enums.{variant_of, variants_of, with_variant}

-- ---- a list by keys, with one more value

module _ {K V : Type 0} (cmp : K → K → Ordering) where
  -- the value is
  now_there : IsTotalOrder cmp → (es : List (K × V)) (k : K) (v : V) → is_some (lookup (is_at (cmp k)) (insert_entry cmp es k v)) ≡ true
  now_there total [] k v = ap (λ (b : Bool). is_some (cond b (Some v) None)) (ap is_eq (tied_itself total k))
  now_there total (e ∷ es) k v = go (cmp k e.0) refl (now_there total es k v)
    where
      own : is_at (cmp k) k ≡ true
      own = ap is_eq (tied_itself total k)

      go : (o : Ordering) → cmp k e.0 ≡ o → is_some (lookup (is_at (cmp k)) (insert_entry cmp es k v)) ≡ true
          → is_some (lookup (is_at (cmp k)) (match_ordering o ((k, v) ∷ e ∷ es) ((e.0, v) ∷ es) (e ∷ insert_entry cmp es k v))) ≡ true
      go Less s below = ap (λ (b : Bool). is_some (cond b (Some v) (lookup (is_at (cmp k)) (e ∷ es)))) own
      go Equal s below = ap (λ (b : Bool). is_some (cond b (Some v) (lookup (is_at (cmp k)) es))) (ap is_eq s)
      go Greater s below = there_or (is_at (cmp k) e.0) e.1 (lookup (is_at (cmp k)) (insert_entry cmp es k v)) below

-- ---- a map with one more enum

module _ (finished : Maps) (map : Map) (id : EnumId) (variants : Variants) where
  abbrev grown : Map
  grown = with_enum map id variants

  -- an enum of the map itself is there
  pub enum_there : map_id.ghosts.eq id.loc.container.map map.id ≡ true → is_missing (overlay finished grown) (named.Enum id) ≡ false
  enum_there own =
      ap (λ (b : Bool). not (is_some (option_and_then (λ (p : Placed). variants_at p.map id)
      (cond b (Some (placed_in finished grown)) (finished id.loc.container.map))))) own
      ∙ ap not (now_there enum_order.ghosts.cmp enum_total map.enums id variants)

-- ---- the variants that are listed are the enum's

own_itself : (id : EnumId) → enum_id.ghosts.eq id id ≡ true
own_itself id = enum_ties id id ∙ ap is_eq (tied_itself enum_total id)

all_inserted : {K V : Type 0} (p : V → Bool) (cmp : K → K → Ordering) (es : List (K × V)) (k : K) (v : V) → list_all (λ (e : K × V). p e.1) es ≡ true → p v
    ≡ true
    → list_all (λ (e : K × V). p e.1) (insert_entry cmp es k v) ≡ true
all_inserted p cmp [] k v f g = both (p v) true g refl
all_inserted {K} {V} p cmp (e ∷ es) k v f g =
    let later : list_all (λ (x : K × V). p x.1) es ≡ true = second_so (p e.1) (list_all (λ (x : K × V). p x.1) es) f in
    go (cmp k e.0) later (all_inserted p cmp es k v later g)
  where
    go : (o : Ordering) → list_all (λ (x : K × V). p x.1) es ≡ true → list_all (λ (x : K × V). p x.1) (insert_entry cmp es k v) ≡ true
        → list_all (λ (x : K × V). p x.1) (match_ordering o ((k, v) ∷ e ∷ es) ((e.0, v) ∷ es) (e ∷ insert_entry cmp es k v)) ≡ true
    go Less later below = both (p v) (list_all (λ (x : K × V). p x.1) (e ∷ es)) g f
    go Equal later below = both (p v) (list_all (λ (x : K × V). p x.1) es) g later
    go Greater later below =
        both (p e.1) (list_all (λ (x : K × V). p x.1) (insert_entry cmp es k v)) (first_so (p e.1) (list_all (λ (x : K × V). p x.1) es) f) below

pub own_variants : (id : EnumId) (found : Option (List VariantItem)) → are_variants_of id (variants_of id found) ≡ true
own_variants id None = refl
own_variants id (Some items) = go [] items refl
  where
    go : (vs : Variants) (items : List VariantItem) → are_variants_of id vs ≡ true → are_variants_of id (fold (with_variant id) vs items) ≡ true
    go vs [] f = f
    go vs (i ∷ is) f =
        go (with_variant id vs i) is (all_inserted (λ (v : EnumVariant). enum_id.ghosts.eq v.id.parent id) (slice_cmp nat_cmp) vs i.name (variant_of id i) f
        (own_itself id))
