-- How is what answers lines stored?
use Rattle.std.specs.Coded.{Coded, coded_option}
use Rattle.hir_session_core.specs.HirSessionState.Codes.{coded_session}
use Rattle.hir_session_machine.specs.Machine.{MachineState}

-- a session, or none
pub coded_machine : Coded MachineState
coded_machine = coded_option coded_session
