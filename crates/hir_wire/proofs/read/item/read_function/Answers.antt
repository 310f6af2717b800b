use Rattle.hir_wire.specs.ItemParts.{function_in}
use Rattle.hir_wire.proofs.ReadingLemmas.{both_refused}
use Rattle.hir_wire.proofs.read.item.read_function.Goals as goal

-- what is made of two parts fails as they do
pub returns-in-Err : goal.returns-in-Err
unfolding function_in
returns-in-Err c = record { value = both_refused _ c.required.ensures.value c.text_or_empty.ensures.value c.in-Err.ensures.value }
