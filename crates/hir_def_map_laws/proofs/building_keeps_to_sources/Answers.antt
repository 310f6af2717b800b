-- Each change of a map adds only what the test doesn't hold of.
use Rattle.hir_nameres.proofs.HirDefMapRules.StaysSourced.{HoldsNowhereIn-enum, HoldsNowhereIn-listed, HoldsNowhereIn-made, HoldsNowhereIn-pushed}
use Rattle.hir_def_map_laws.proofs.building_keeps_to_sources.Goals as goal

pub returns : goal.returns
returns c = record {
  pushed = λ t map globs at name items by none brought f. HoldsNowhereIn-pushed t map globs at name items by none brought f;
  listed = λ t map at d f. HoldsNowhereIn-listed t map at d f;
  made = λ t map at name origin visibility parent written f. HoldsNowhereIn-made t map at name origin visibility parent written f;
  enums = λ t map id variants none f. HoldsNowhereIn-enum t map id variants none f;
}
