-- What do the further segments of a path name?
use Rattle.std.specs.Prelude.{ℕ, ◌+◌, List, [], ◌∷◌, true, false, Option, None, Some, cond, option_and_then}
use Rattle.hir_scope.specs.HirIds.declared.ids.ModuleId.{ModuleId as AnyModule}
use Rattle.hir_scope.specs.HirIds.declared.ids.AdtId.{AdtId}
use Rattle.hir_scope.specs.HirIds.declared.ids.EnumId.{EnumId}
use Rattle.hir_scope.specs.HirIds.declared.ids.ModuleDefId.{ModuleDefId}
use Rattle.hir_scope.specs.HirIds.declared.ids.ModuleDefId.TheVariants as definitions
use Rattle.hir_scope.specs.HirIds.declared.ids.AdtId.TheVariants as adts
use Rattle.hir_base.specs.Shape.{has_constructor}
use Rattle.hir_scope.specs.HirPerNs.declared.imports.ImportOrExternCrate.{ImportOrExternCrate}
use Rattle.hir_scope.specs.HirPerNs.declared.per_ns.PerNs.{PerNs}
use Rattle.hir_scope.specs.HirPerNs.declared.visibility.Visibility.{Visibility}
use Rattle.hir_scope.specs.HirPerNs.PerNs.{Item, nothing, keep_of, with_constructor}
use Rattle.hir_scope.specs.HirPerNs.ModuleTree.{same_crate}
use Rattle.hir_scope.specs.HirPerNs.Visibility.{is_visible}
use Rattle.hir_def_map_rules.specs.Overlay.{Maps, entry_in, variants_in}
use Rattle.hir_def_map_rules.specs.State.{Variants, at_name}
use Rattle.hir_def_map_rules.specs.Ancestors.{above_in, holders_in}
use Rattle.hir_def_map_rules.specs.Scoping.FirstSegment.{is_block_root}
use Rattle.hir_map_parts.specs.declared.enum_variants.EnumVariant.{EnumVariant}
use Rattle.hir_def_map_rules.specs.declared.path_result.ReachedFixedPoint.{ReachedFixedPoint}
use Rattle.hir_def_map_rules.specs.declared.path_result.ReachedFixedPoint.TheVariants.{Yes, No}
use Rattle.hir_def_map_rules.specs.declared.path_result.ResolvePathResult.{ResolvePathResult}
use Rattle.hir_def_map_rules.specs.declared.path_result.ResolvePathResultPrefixInfo.{ResolvePathResultPrefixInfo}

-- ---- answers

-- the path led through modules of this crate alone
abbrev pub own_crate : ResolvePathResultPrefixInfo
own_crate = record { differing_crate = false; enum_variant = false }

-- the path led through an enum
abbrev pub through_enum : ResolvePathResultPrefixInfo
through_enum = record { differing_crate = false; enum_variant = true }

-- the whole path was resolved
abbrev pub resolved : PerNs → ResolvePathResult
resolved items = record { resolved_def = items; segment_index = None; reached_fixedpoint = Yes; prefix_info = own_crate }

-- nothing was found
abbrev pub unresolved : ReachedFixedPoint → ResolvePathResult
unresolved reached = record { resolved_def = nothing; segment_index = None; reached_fixedpoint = reached; prefix_info = own_crate }

-- the path stopped at a type, before the segment of this number
abbrev pub stopped : ℕ → Item ModuleDefId ImportOrExternCrate → ResolvePathResult
stopped i item =
    record {
      resolved_def = record { types = Some item; values = None; macros = None };
      segment_index = Some i;
      reached_fixedpoint = Yes;
      prefix_info = own_crate;
    }

-- what was found in another crate, where nothing changes any more
abbrev pub crossing : ResolvePathResult → ResolvePathResult
crossing r = record {
  resolved_def = r.resolved_def;
  segment_index = r.segment_index;
  reached_fixedpoint = Yes;
  prefix_info = record { differing_crate = true; enum_variant = r.prefix_info.enum_variant };
}

-- ---- one segment

-- what a name stands for in a module, as far as another module may see it
abbrev pub seen : Maps → AnyModule → AnyModule → List ℕ → PerNs
seen maps from at name = keep_of (λ v. is_visible (above_in maps) (holders_in maps) v from) (entry_in maps at name)

-- the module, or the first of those that hold it that is no block's root
abbrev pub nearest_non_block_among : AnyModule → List AnyModule → AnyModule
nearest_non_block_among m [] = m
nearest_non_block_among m (h ∷ holders) = cond (is_block_root m) (nearest_non_block_among h holders) m

unfoldable pub nearest_non_block_module : Maps → AnyModule → AnyModule
nearest_non_block_module maps m = nearest_non_block_among m (holders_in maps m)

-- the variant of a name
abbrev pub variant_in : Maps → EnumId → List ℕ → Option EnumVariant
variant_in maps id name = option_and_then (λ (vs : Variants). at_name vs name) (variants_in maps id)

-- a variant, a type and a value where it has a constructor
abbrev pub variant_bound : Visibility → EnumVariant → PerNs
variant_bound vis variant = with_constructor (definitions.EnumVariantId variant.id) vis (cond (has_constructor variant.shape) (Some vis) None) None

-- a variant, with the visibility of the name that led to its enum; nothing comes after a variant
abbrev pub after_variant : List (List ℕ) → Visibility → EnumVariant → ResolvePathResult
after_variant [] vis variant = record { resolved_def = variant_bound vis variant; segment_index = None; reached_fixedpoint = Yes; prefix_info = through_enum }
after_variant (segment ∷ others) vis variant = unresolved No

-- a variant and what comes after it; the path stops before a name that no variant has
abbrev pub after_enum : List (List ℕ) → ℕ → Item ModuleDefId ImportOrExternCrate → Option EnumVariant → ResolvePathResult
after_enum others i item None = stopped i item
after_enum others i item (Some variant) = after_variant others item.vis variant

-- a segment after what names a struct, a union or an enum
abbrev pub through_adt : Maps → List (List ℕ) → ℕ → List ℕ → Item ModuleDefId ImportOrExternCrate → AdtId → ResolvePathResult
through_adt maps others i segment item (adts.EnumId id) = after_enum others i item (variant_in maps id segment)
through_adt maps others i segment item (adts.StructId id) = stopped i item
through_adt maps others i segment item (adts.UnionId id) = stopped i item

-- ---- segments one after another

-- a segment after what names a module: of this crate, a name of it that the asking module may see; of another crate
-- the path goes on from the module that is entered, or from the nearest that holds it as a block's root
abbrev pub through_module : (AnyModule → PerNs → ResolvePathResult) → Maps → AnyModule → List ℕ → AnyModule → ResolvePathResult
through_module further maps from segment m =
    cond (same_crate m.map.krate from.map.krate)
    (further from (seen maps from m segment))
    (crossing (further (nearest_non_block_module maps m) (seen maps (nearest_non_block_module maps m) (nearest_non_block_module maps m) segment)))

-- a segment after what names a definition; the path ends before it where that has no names of its own
abbrev pub through : (AnyModule → PerNs → ResolvePathResult) → Maps → AnyModule → List (List ℕ) → ℕ → List ℕ → Item ModuleDefId ImportOrExternCrate
    → ModuleDefId → ResolvePathResult
through further maps from others i segment item (definitions.ModuleId m) = through_module further maps from segment m
through further maps from others i segment item (definitions.AdtId adt) = through_adt maps others i segment item adt
through further maps from others i segment item _ = stopped i item

-- a segment after what names a type, or else none
abbrev pub through_type : (AnyModule → PerNs → ResolvePathResult) → Maps → AnyModule → List (List ℕ) → ℕ → List ℕ
    → Option (Item ModuleDefId ImportOrExternCrate) → ResolvePathResult
through_type further maps from others i segment None = unresolved No
through_type further maps from others i segment (Some item) = through further maps from others i segment item item.def

-- the segments that are left, the first of which has this number, after what names these items, asked from a module
abbrev pub rest : Maps → AnyModule → List (List ℕ) → ℕ → PerNs → ResolvePathResult
rest maps from [] i now = resolved now
rest maps from (segment ∷ others) i now = through_type (λ next_from next. rest maps next_from others (i + 1) next) maps from others i segment now.types
