use Rattle.hir_wire.specs.UseTrees.{single_in}
use Rattle.hir_wire.proofs.ReadingLemmas.{both_refused}
use Rattle.hir_wire.proofs.read.use_tree.read_single.Goals as goal

-- what is made of two parts fails as they do
pub returns-in-Err : goal.returns-in-Err
unfolding single_in
returns-in-Err c = record { value = both_refused _ c.required.ensures.value c.maybe.ensures.value c.in-Err.ensures.value }
