-- Attributes that say the same are as many.
use Rattle.std.proofs.Common.{◌≡◌, ◌∙◌, ap, sym, refl, ℕ, suc, List, [], ◌∷◌, length}
use Rattle.hir_item_tree.specs.Types.{RawAttr}
use Rattle.hir_item_tree.specs.Attributes.{Attributes, no_attributes, attribute, attributes_view}

abbrev how_many : Attributes → ℕ
how_many no_attributes = 0
how_many (attribute a rest) = suc (how_many rest)

how_many-view : (attrs : List RawAttr) → how_many (attributes_view attrs) ≡ length attrs
how_many-view [] = refl
how_many-view (a ∷ rest) = ap suc (how_many-view rest)

pub length_of_alike : (a b : List RawAttr) → attributes_view a ≡ attributes_view b → length a ≡ length b
length_of_alike a b alike = sym (how_many-view a) ∙ ap how_many alike ∙ how_many-view b
