-- What is seen is kept of what is bound.
use Rattle.hir_def_map_laws.proofs.SeenSegments.{takes_here, takes_there}
use Rattle.hir_def_map_laws.proofs.segments_are_seen.Goals as goal

pub returns-clause-later : goal.returns-clause-later
returns-clause-later c = λ maps from m s. (takes_here maps from m s, takes_there maps from m s)
