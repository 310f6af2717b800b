use Rattle.std.proofs.Common.{arith, rules}
use Rattle.hir_ids.specs.Head.{AreBytes}
use Rattle.hir_ids.proofs.HeadLemmas.{head_by_bytes}
use Rattle.hir_ids.proofs.text.head_of.Goals as goal

pub returns-clause-value : goal.returns-clause-value
returns-clause-value c =
    let by_bytes = head_by_bytes c.args.text.now in
    search (rules, by_bytes)

pub returns-clause-bytes : goal.returns-clause-bytes
unfolding AreBytes
returns-clause-bytes c = λ i. omega (arith, c.type_inv.text i)
