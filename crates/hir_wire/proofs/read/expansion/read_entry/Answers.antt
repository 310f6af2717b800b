use Rattle.hir_wire.specs.Expansions.{entry_in}
use Rattle.hir_wire.proofs.ReadingLemmas.{both_refused}
use Rattle.hir_wire.proofs.read.expansion.read_entry.Goals as goal

-- what is made of two parts fails as they do
pub returns-in-Err : goal.returns-in-Err
unfolding entry_in
returns-in-Err c = record { value = both_refused _ c.required.ensures.value c.maybe.ensures.value c.in-Err.ensures.value }
