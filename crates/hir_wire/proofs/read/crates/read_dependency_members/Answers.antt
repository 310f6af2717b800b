use Rattle.hir_wire.specs.Commands.{dependency_in}
use Rattle.hir_wire.proofs.ReadingLemmas.{both_read, both_refused, reads_pair}
use Rattle.hir_wire.proofs.read.crates.read_dependency_members.Goals as goal

-- what is made of parts that were read
pub returns-in-Ok : goal.returns-in-Ok
unfolding dependency_in
returns-in-Ok c =
    record {
      value = record {
        told = both_read _ c.required.ensures.value (reads_pair c.required-2.ensures.value c.optional.ensures.value c.both.ensures.value)
            c.in-Ok.ensures.value;
      };
    }

-- what is made of two parts fails as they do
pub returns-in-Err : goal.returns-in-Err
unfolding dependency_in
returns-in-Err c =
    record {
      value = both_refused _ c.required.ensures.value (reads_pair c.required-2.ensures.value c.optional.ensures.value c.both.ensures.value)
          c.in-Err.ensures.value;
    }
