use Rattle.hir_wire.specs.Expansions.{key_in}
use Rattle.hir_wire.proofs.ReadingLemmas.{as_is, both_refused, reads_pair}
use Rattle.hir_wire.proofs.read.expansion.read_key_members.Goals as goal

-- what is made of two parts fails as they do
pub returns-in-Err : goal.returns-in-Err
unfolding key_in
returns-in-Err c =
    record {
      value = both_refused _
          (reads_pair (reads_pair c.required.ensures.value c.read_macro_text.ensures.value c.both.ensures.value)
          (reads_pair c.required-2.ensures.value c.required-3.ensures.value c.both-2.ensures.value) c.both-3.ensures.value)
          (as_is c.list_or_empty.ensures.value) c.in-Err.ensures.value;
    }
