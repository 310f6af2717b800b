-- How are inputs stored?
use Rattle.std.specs.Coded.{Coded, codes}
use Rattle.hir_session_state.specs.SourceCodes.{coded_source}
use Rattle.hir_session_state.specs.CrateCodes.{coded_crate}
use Rattle.hir_session_state.specs.Inputs.{InputsValue}

-- they are stored as their parts
pub coded_inputs : Coded InputsValue
coded_inputs = hlevel (codes, coded_source, coded_crate)
