-- A path is followed in both maps at once.
use Rattle.hir_nameres.specs.HirDefMapRules.Reaches.{by_import}
use Rattle.hir_def_map_laws.proofs.ReadLaw.{reads_decide}
use Rattle.hir_def_map_laws.proofs.Whole.{StandsBeside-whole}
use Rattle.hir_def_map_laws.proofs.reads_decide_answers.Goals as goal

pub returns : goal.returns
returns c = record {
  paths = reads_decide;
  imports = λ finished one one_local other other_local at path stands begins low grows agree.
      (reads_decide finished one other (by_import one_local) other_local at path stands begins low grows agree).answers;
  whole = StandsBeside-whole;
}
