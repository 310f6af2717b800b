-- Each part by itself.
use Rattle.hir_nameres.proofs.HirDefMapRules.WellFormed.{complete, IsClosed-well_formed}
use Rattle.hir_def_map_laws.proofs.whole_maps_are_closed.Goals as goal

pub returns-clause-closed : goal.returns-clause-closed
returns-clause-closed c = IsClosed-well_formed

pub returns-clause-complete : goal.returns-clause-complete
returns-clause-complete c = complete
