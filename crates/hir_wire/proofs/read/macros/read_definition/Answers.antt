use Rattle.hir_wire.specs.Macros.{definition_in}
use Rattle.hir_wire.proofs.ReadingLemmas.{as_is, both_read, both_refused, reads_pair}
use Rattle.hir_wire.proofs.read.macros.read_definition.Goals as goal

-- what is made of parts that were read
pub returns-in-Ok : goal.returns-in-Ok
unfolding definition_in
returns-in-Ok c =
    record {
      value = record {
        told = rw c.expander_with.ensures.value
            (both_read _ (reads_pair c.text_or_empty.ensures.value (as_is c.list_or_empty.ensures.value) c.both.ensures.value)
            (reads_pair c.optional_word.ensures.value c.optional.ensures.value c.both-2.ensures.value) c.in-Ok.ensures.value);
      };
    }

-- what is made of two parts fails as they do
pub returns-in-Err : goal.returns-in-Err
unfolding definition_in
returns-in-Err c =
    record {
      value = both_refused _ (reads_pair c.text_or_empty.ensures.value (as_is c.list_or_empty.ensures.value) c.both.ensures.value)
          (reads_pair c.optional_word.ensures.value c.optional.ensures.value c.both-2.ensures.value) c.in-Err.ensures.value;
    }
