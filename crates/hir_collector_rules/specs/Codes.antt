-- How is a run stored?
use Rattle.std.specs.Coded.{Coded, codes}
use Rattle.hir_item_tree.specs.SideCodes.{coded_source_tree}
use Rattle.hir_nameres.specs.HirDefMapRules.Inner.Codes.{coded_map}
use Rattle.hir_collector_rules.specs.State.{Run}

-- a run is stored as its parts
pub coded_run : Coded Run
coded_run = hlevel (codes, coded_map, coded_source_tree)
