use Rattle.std.proofs.Common.{Ok, ap, ◌∙◌}
use Rattle.hir_wire.specs.Structs.{union_in}
use Rattle.hir_wire.proofs.NodeLemmas.{union-view}
use Rattle.hir_wire.proofs.ReadingLemmas.{as_is, both_read, both_refused}
use Rattle.hir_wire.proofs.read.adt.read_union.Goals as goal

-- what is made of parts that were read
pub returns-in-Ok : goal.returns-in-Ok
unfolding union_in
returns-in-Ok c =
    record {
      value = record {
        told = both_read _ c.required.ensures.value (as_is c.list_or_empty.ensures.value) c.in-Ok.ensures.value ∙ ap Ok
            (union-view c.in-Ok.name c.in-Ok.fields);
      };
    }

-- what is made of two parts fails as they do
pub returns-in-Err : goal.returns-in-Err
unfolding union_in
returns-in-Err c = record { value = both_refused _ c.required.ensures.value (as_is c.list_or_empty.ensures.value) c.in-Err.ensures.value }
