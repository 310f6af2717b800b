use Rattle.hir_wire.specs.ItemParts.{constant_in}
use Rattle.hir_wire.proofs.ReadingLemmas.{both_refused}
use Rattle.hir_wire.proofs.read.item.read_constant.Goals as goal

-- what is made of two parts fails as they do
pub returns-in-Err : goal.returns-in-Err
unfolding constant_in
returns-in-Err c = record { value = both_refused _ c.maybe.ensures.value c.text_or_empty.ensures.value c.in-Err.ensures.value }
