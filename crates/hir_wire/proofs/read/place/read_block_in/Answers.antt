use Rattle.hir_wire.proofs.ReadingLemmas.{both_refused}
use Rattle.hir_wire.proofs.read.place.read_block_in.Goals as goal

-- what is made of two parts fails as they do
pub returns-in-Err : goal.returns-in-Err
returns-in-Err c = record { value = both_refused _ c.read_steps.ensures.value c.read_block_step.ensures.value c.in-Err.ensures.value }
