-- How are the values of a session stored?
use Rattle.std.specs.Coded.{Coded, codes}
use Rattle.hir_collector_rules.specs.HirDefMapRules.Inner.Codes.{coded_map}
use Rattle.hir_session_state.specs.SourceCodes.{coded_source}
use Rattle.hir_session_state.specs.CrateCodes.{coded_crate}
use Rattle.hir_session_state.specs.Files.{Files}
use Rattle.hir_session_state.specs.SessionState.{SessionState}

-- files are stored as the list of their paths and sources
pub coded_files : Coded Files
coded_files = hlevel (codes, coded_source)

-- a session is stored as its parts
pub coded_session : Coded SessionState
coded_session = hlevel (codes, coded_source, coded_crate, coded_map)
