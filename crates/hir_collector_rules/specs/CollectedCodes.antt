-- How is what a run answers stored?
use Rattle.std.specs.Coded.{Coded, codes}
use Rattle.hir_nameres.specs.HirDefMapRules.Inner.Codes.{coded_map}
use Rattle.hir_collector_rules.specs.Derivation.{CollectedValue}

-- an answer is stored as its parts
pub coded_collected : Coded CollectedValue
coded_collected = hlevel (codes, coded_map)
