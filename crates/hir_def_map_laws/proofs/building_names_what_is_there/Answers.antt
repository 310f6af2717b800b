-- Each part by itself.
use Rattle.hir_nameres.proofs.HirDefMapRules.StaysWellFormed.{HasNoDanglingReference-enum, HasNoDanglingReference-listed, HasNoDanglingReference-made}
use Rattle.hir_nameres.proofs.HirDefMapRules.StaysWellFormed.{HasNoDanglingReference-pushed, HasNoDanglingReference-scope}
use Rattle.hir_def_map_laws.proofs.Updates.{updates_name}
use Rattle.hir_def_map_laws.proofs.building_names_what_is_there.Goals as goal

pub returns-clause-pushed : goal.returns-clause-pushed
returns-clause-pushed c = HasNoDanglingReference-pushed

pub returns-clause-listed : goal.returns-clause-listed
returns-clause-listed c = HasNoDanglingReference-listed

pub returns-clause-made : goal.returns-clause-made
returns-clause-made c = HasNoDanglingReference-made

pub returns-clause-enums : goal.returns-clause-enums
returns-clause-enums c = HasNoDanglingReference-enum

pub returns-clause-scopes : goal.returns-clause-scopes
returns-clause-scopes c = HasNoDanglingReference-scope

pub returns-clause-updates : goal.returns-clause-updates
returns-clause-updates c = updates_name
