-- How are kept resolutions stored?
use Rattle.std.specs.Coded.{Coded, codes}
use Rattle.hir_collector_rules.specs.HirDefMapRules.Inner.Codes.{coded_map}
use Rattle.hir_session_state.specs.Kept.{Resolutions}

-- they are stored as the list of their ids and parts
pub coded_kept : Coded Resolutions
coded_kept = hlevel (codes, coded_map)
