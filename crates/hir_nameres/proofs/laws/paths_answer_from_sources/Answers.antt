-- Each place where a path looks has only what is written where the maps bind.
use Rattle.hir_def_map_rules.proofs.Sourced.{paths_from_sources}
use Rattle.hir_nameres.proofs.laws.paths_answer_from_sources.Goals as goal

pub returns : goal.returns
returns c = record { sources = λ t maps asking from path nowhere externs. paths_from_sources t maps nowhere asking externs from path.kind path.segments }
