use Rattle.std.proofs.Common.{ℕ, List, Option}
use Rattle.hir_base.specs.ModPath.{Path}
use Rattle.hir_messages.specs.Edits.{inner_entry}
use Rattle.hir_wire.specs.Expansions.{inner_in}
use Rattle.hir_wire.proofs.ReadingLemmas.{as_is, made_reads, maybe_as_is, reads_pair}
use Rattle.hir_wire.proofs.read.expansion.read_inner.Goals as goal

-- what is made of two parts is read as they are
pub returns : goal.returns
unfolding inner_in
returns c =
    record {
      value = made_reads (λ (p : List Path × Option (List ℕ)). inner_entry p.0 p.1)
          (reads_pair (as_is c.required.ensures.value) (maybe_as_is c.maybe.ensures.value) c.both.ensures.value);
    }
