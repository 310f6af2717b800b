use Rattle.hir_wire.proofs.BlockLemmas.{block_place-pushed, block_place-none}
use Rattle.hir_wire.proofs.read.place.read_block_steps.Goals as goal

-- the last of the items is a step behind the others
pub returns-in-Some : goal.returns-in-Some
returns-in-Some c = record { value = rw (block_place-pushed _ _ _ c.in-Some.ensures.cases.0) c.read_block_in.ensures.value }

-- without items there is no step
pub returns-in-None : goal.returns-in-None
returns-in-None c = record { value = record { told = block_place-none _ c.in-None.ensures.cases } }
