-- How do the answers at a place stand?
use Rattle.std.specs.Prelude.{length, nat_lt, if◌then◌else◌}
use Rattle.hir_session_state.specs.HirBase.Place.{PlaceValue}
use Rattle.hir_session_state.specs.HirMessages.declared.reply.Status.{Status}
use Rattle.hir_session_state.specs.HirMessages.declared.reply.Status.TheVariants as status
use Rattle.hir_session_state.specs.Standing.{Standing}
use Rattle.hir_session_state.specs.Standing.Standing.{at, lacks, stale, unset}
use Rattle.hir_session_state.specs.SessionState.{SessionState, standing_of}

-- how answers stand where the steps lead
abbrev pub status_by : Standing → Status
status_by (at m) = status.Current
status_by (lacks id) = status.Unknown
status_by stale = status.Stale
status_by unset = status.Unknown

-- how the answers at a place stand: unknown where the crate isn't there, a block isn't set, or the current map has no such module
abbrev pub status_of : SessionState → PlaceValue → Status
status_of s place = if nat_lt place.krate.0 (length s.crates) then status_by (standing_of s place) else status.Unknown
