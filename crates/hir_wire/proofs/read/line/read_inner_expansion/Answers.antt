use Rattle.hir_wire.specs.Commands.{inner_expansion_in}
use Rattle.hir_wire.proofs.ReadingLemmas.{both_read, both_refused}
use Rattle.hir_wire.proofs.read.line.read_inner_expansion.Goals as goal

-- what is made of two parts fails as they do
pub returns-in-Err : goal.returns-in-Err
unfolding inner_expansion_in
returns-in-Err c = record { value = both_refused _ c.required.ensures.value c.read_inner.ensures.value c.in-Err.ensures.value }
