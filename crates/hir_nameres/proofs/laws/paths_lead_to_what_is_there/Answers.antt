-- Each place where a path looks has only what is there.
use Rattle.hir_def_map_rules.proofs.Reached.{paths_lead_there}
use Rattle.hir_nameres.proofs.laws.paths_lead_to_what_is_there.Goals as goal

pub returns : goal.returns
returns c = record { there = λ maps asking from path closed local e. paths_lead_there maps closed asking local from e path.kind path.segments }
