use Rattle.hir_wire.specs.Commands.{unit_expansion_in}
use Rattle.hir_wire.proofs.ReadingLemmas.{both_refused}
use Rattle.hir_wire.proofs.read.line.read_unit_expansion.Goals as goal

-- what is made of two parts fails as they do
pub returns-in-Err : goal.returns-in-Err
unfolding unit_expansion_in
returns-in-Err c = record { value = both_refused _ c.required.ensures.value c.read_entry.ensures.value c.in-Err.ensures.value }
