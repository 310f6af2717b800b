use Rattle.hir_wire.specs.Attributes.{meta_in}
use Rattle.hir_wire.proofs.ReadingLemmas.{both_refused}
use Rattle.hir_wire.proofs.read.attribute.read_meta.Goals as goal

-- what is made of two parts fails as they do
pub returns-in-Err : goal.returns-in-Err
unfolding meta_in
returns-in-Err c = record { value = both_refused _ c.required.ensures.value c.read_input.ensures.value c.in-Err.ensures.value }
