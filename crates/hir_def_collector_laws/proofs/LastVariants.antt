-- Of variants of one name the last prevails.
use Rattle.std.proofs.Common.{◌≡◌, ◌≢◌, ◌∙◌, ℕ, List, [], ◌∷◌, Option, None, Some, cond, fold, option_map, refl, sym, ap, subst}
use Rattle.std.specs.Option.{option_or}
use Rattle.std.specs.BTreeMap.{is_at}
use Rattle.std.specs.Cmp.Lexicographic.{slice_cmp}
use Rattle.std.specs.Ordering.{is_eq, nat_cmp}
use Rattle.std.specs.declared.cmp.Ordering.{Ordering}
use Rattle.std.specs.declared.cmp.Ordering.TheVariants.{Less, Equal, Greater}
use Rattle.std.proofs.lemmas.Map.Lookups.{exact_bytes}
use Rattle.hir_collector_rules.specs.HirIds.declared.ids.EnumId.{EnumId}
use Rattle.hir_collector_rules.specs.HirItemTree.declared.side_lists.VariantItem.{VariantItem}
use Rattle.hir_collector_rules.proofs.HirDefMapRules.Grown.{at_name-with_name, at_name-with_name_other}
use Rattle.hir_collector_rules.specs.HirDefMapRules.State.{Variants, at_name, with_name}
use Rattle.hir_collector_rules.specs.HirMapParts.declared.enum_variants.EnumVariant.{EnumVariant}
use Rattle.hir_collector_rules.specs.Enums.{last_named, variant_of, with_variant}
use Rattle.hir_collector_rules.proofs.Bound.{cmp_itself}

module _ (id : EnumId) (name : List ℕ) where
  -- one more variant: its name stands for it, and another for what it stood for
  at_name-with_variant : (known : Variants) (item : VariantItem)
      → at_name (with_variant id known item) name ≡ option_or (option_map (variant_of id) (cond (is_at (slice_cmp nat_cmp name) item.name) (Some item) None))
      (at_name known name)
  at_name-with_variant known item = go (slice_cmp nat_cmp name item.name) refl
    where
      other : (o : Ordering) → slice_cmp nat_cmp name item.name ≡ o → o ≢ Equal → name ≢ item.name
      other o s unequal same = unequal (sym s ∙ cmp_itself name item.name same)

      go : (o : Ordering) → slice_cmp nat_cmp name item.name ≡ o
          → at_name (with_variant id known item) name ≡ option_or (option_map (variant_of id) (cond (is_eq o) (Some item) None)) (at_name known name)
      go Less s = at_name-with_name_other known item.name name (variant_of id item) (other Less s (λ e. let no : ⊥ = cc in no))
      go Equal s =
          subst (λ (n : List ℕ). at_name (with_name known item.name (variant_of id item)) n ≡ Some (variant_of id item)) (sym (exact_bytes name item.name s))
          (at_name-with_name known item.name (variant_of id item))
      go Greater s = at_name-with_name_other known item.name name (variant_of id item) (other Greater s (λ e. let no : ⊥ = cc in no))

  or_or : (o p : Option VariantItem) (q : Option EnumVariant)
      → option_or (option_map (variant_of id) o) (option_or (option_map (variant_of id) p) q) ≡ option_or (option_map (variant_of id) (option_or o p)) q
  or_or None p q = refl
  or_or (Some x) p q = refl

  pub last_prevails : (items : List VariantItem) (known : Variants)
      → at_name (fold (with_variant id) known items) name ≡ option_or (option_map (variant_of id) (last_named items name)) (at_name known name)
  last_prevails [] known = refl
  last_prevails (item ∷ items) known =
      let own : Option VariantItem = cond (is_at (slice_cmp nat_cmp name) item.name) (Some item) None in
      last_prevails items (with_variant id known item)
      ∙ ap (λ (o : Option EnumVariant). option_or (option_map (variant_of id) (last_named items name)) o) (at_name-with_variant known item)
      ∙ or_or (last_named items name) own (at_name known name)

or_none : (o : Option EnumVariant) → option_or o None ≡ o
or_none None = refl
or_none (Some v) = refl

pub last_of_all : (id : EnumId) (items : List VariantItem) (name : List ℕ)
    → at_name (fold (with_variant id) [] items) name ≡ option_map (variant_of id) (last_named items name)
last_of_all id items name = last_prevails id name items [] ∙ or_none (option_map (variant_of id) (last_named items name))
