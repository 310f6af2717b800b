-- Which variants does an enum have?
use Rattle.std.specs.Prelude.{◌≡◌, ℕ, List, [], ◌∷◌, Option, None, Some, cond, fold, option_map}
use Rattle.std.specs.Option.{option_or}
use Rattle.std.specs.BTreeMap.{is_at}
use Rattle.std.specs.Cmp.Lexicographic.{slice_cmp}
use Rattle.std.specs.Ordering.{nat_cmp}
use Rattle.hir_nameres.specs.HirIds.declared.ids.EnumId.{EnumId}
use Rattle.hir_item_tree.specs.declared.side_lists.VariantItem.{VariantItem}
use Rattle.hir_nameres.specs.HirDefMapRules.State.{Variants, at_name, with_name}
use Rattle.hir_nameres.specs.HirMapParts.declared.enum_variants.EnumVariant.{EnumVariant}

-- a variant of an enum
abbrev pub variant_of : EnumId → VariantItem → EnumVariant
variant_of id item = record { id = record { parent = id; id = item.id }; shape = item.shape }

-- the variants with one more, in place of another of its name
abbrev pub with_variant : EnumId → Variants → VariantItem → Variants
with_variant id variants item = with_name variants item.name (variant_of id item)

-- variants by name
abbrev pub variants_by_name : EnumId → List VariantItem → Variants
variants_by_name id items = fold (with_variant id) [] items

-- the last variant of a name, if one has it
abbrev pub last_named : List VariantItem → List ℕ → Option VariantItem
last_named [] name = None
last_named (item ∷ items) name = option_or (last_named items name) (cond (is_at (slice_cmp nat_cmp name) item.name) (Some item) None)

-- so a name stands for the last variant that has it
abbrev pub LastVariantPrevails : Type 0
LastVariantPrevails =
    (id : EnumId) (items : List VariantItem) (name : List ℕ) → at_name (variants_by_name id items) name ≡ option_map (variant_of id) (last_named items name)

-- the variants of an enum; none of one that isn't there
abbrev pub variants_of : EnumId → Option (List VariantItem) → Variants
variants_of id None = []
variants_of id (Some items) = variants_by_name id items
