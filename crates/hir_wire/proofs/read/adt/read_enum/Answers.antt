use Rattle.hir_wire.specs.Structs.{enum_in}
use Rattle.hir_wire.proofs.ReadingLemmas.{both_refused}
use Rattle.hir_wire.proofs.read.adt.read_enum.Goals as goal

-- what is made of two parts fails as they do
pub returns-in-Err : goal.returns-in-Err
unfolding enum_in
returns-in-Err c = record { value = both_refused _ c.required.ensures.value c.required-2.ensures.value c.in-Err.ensures.value }
