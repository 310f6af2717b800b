use Rattle.hir_wire.specs.Nodes.{unit_in}
use Rattle.hir_wire.proofs.ReadingLemmas.{both_refused}
use Rattle.hir_wire.proofs.read.node.read_unit.Goals as goal

-- what is made of two parts fails as they do
pub returns-in-Err : goal.returns-in-Err
unfolding unit_in
returns-in-Err c = record { value = both_refused _ c.attrs_field.ensures.value c.unit_nodes.ensures.value c.in-Err.ensures.value }
