-- Whose are variants?
use Rattle.std.specs.Prelude.{ℕ, Bool, List}
use Rattle.std.specs.List.{list_all}
use Rattle.hir_ids.specs.declared.ids.EnumId.{EnumId}
use Rattle.hir_ids.specs.contracts.ids.EnumIdPartialEq.TheImpl as enum_id
use Rattle.hir_map_parts.specs.declared.enum_variants.EnumVariant.{EnumVariant}
use Rattle.hir_map_parts.specs.State.{Variants}

-- whether variants are those of an enum
abbrev pub are_variants_of : EnumId → Variants → Bool
are_variants_of id variants = list_all (λ (v : List ℕ × EnumVariant). enum_id.ghosts.eq v.1.id.parent id) variants
