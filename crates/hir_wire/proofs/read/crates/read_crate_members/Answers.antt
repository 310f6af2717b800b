use Rattle.hir_wire.specs.Commands.{crate_input_in}
use Rattle.hir_wire.proofs.ReadingLemmas.{as_is, both_read, both_refused, reads_pair}
use Rattle.hir_wire.proofs.read.crates.read_crate_members.Goals as goal

-- what is made of parts that were read
pub returns-in-Ok : goal.returns-in-Ok
unfolding crate_input_in
returns-in-Ok c =
    record {
      value = record {
        told = rw c.new.ensures.value
            (both_read _ (reads_pair (reads_pair c.required.ensures.value c.required_word.ensures.value c.both.ensures.value)
            (reads_pair (as_is c.list_or_empty.ensures.value) c.optional.ensures.value c.both-2.ensures.value) c.both-3.ensures.value)
            (reads_pair c.attrs_field.ensures.value (as_is c.list_or_empty-2.ensures.value) c.both-4.ensures.value) c.in-Ok.ensures.value);
      };
    }

-- what is made of two parts fails as they do
pub returns-in-Err : goal.returns-in-Err
unfolding crate_input_in
returns-in-Err c =
    record {
      value = both_refused _ (reads_pair (reads_pair c.required.ensures.value c.required_word.ensures.value c.both.ensures.value)
          (reads_pair (as_is c.list_or_empty.ensures.value) c.optional.ensures.value c.both-2.ensures.value) c.both-3.ensures.value)
          (reads_pair c.attrs_field.ensures.value (as_is c.list_or_empty-2.ensures.value) c.both-4.ensures.value) c.in-Err.ensures.value;
    }
