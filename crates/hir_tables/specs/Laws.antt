-- What stays as tables grow?
use Rattle.std.specs.Prelude.{◌≡◌, Some}
use Rattle.hir_base.specs.declared.tree_id.TreeId.{TreeId}
use Rattle.hir_tables.specs.SourcePlaces.{SourcePlaceValue}
use Rattle.hir_tables.specs.Tables.{TablesValue, source_of, KeepsTables}

-- where a tree's source stands stays
abbrev pub GrowthKeepsSources : Type 0
GrowthKeepsSources =
    (old new : TablesValue) (id : TreeId) (place : SourcePlaceValue) → KeepsTables old new → source_of old id ≡ Some place → source_of new id ≡ Some place

-- tables to which nothing comes keep what they have
abbrev pub NoGrowthIsGrowth : Type 0
NoGrowthIsGrowth = (t : TablesValue) → KeepsTables t t

-- what is kept at each of two steps is kept over both
abbrev pub GrowthIsTransitive : Type 0
GrowthIsTransitive = (old mid new : TablesValue) → KeepsTables old mid → KeepsTables mid new → KeepsTables old new
