use Rattle.std.proofs.Common.{Ok, ap, ◌∙◌}
use Rattle.hir_wire.specs.Structs.{struct_in}
use Rattle.hir_wire.proofs.NodeLemmas.{struct-view}
use Rattle.hir_wire.proofs.ReadingLemmas.{as_is, both_read, both_refused, reads_pair}
use Rattle.hir_wire.proofs.read.adt.read_struct.Goals as goal

-- what is made of parts that were read
pub returns-in-Ok : goal.returns-in-Ok
unfolding struct_in
returns-in-Ok c =
    record {
      value = record {
        told = both_read _ c.required.ensures.value (reads_pair c.optional_word.ensures.value (as_is c.list_or_empty.ensures.value)
            c.both.ensures.value) c.in-Ok.ensures.value ∙ ap Ok (struct-view _ _ _);
      };
    }

-- what is made of two parts fails as they do
pub returns-in-Err : goal.returns-in-Err
unfolding struct_in
returns-in-Err c =
    record {
      value = both_refused _ c.required.ensures.value (reads_pair c.optional_word.ensures.value (as_is c.list_or_empty.ensures.value)
          c.both.ensures.value) c.in-Err.ensures.value;
    }
