use Rattle.std.proofs.Common.{arith, rules}
use Rattle.hir_ids.specs.Head.{rest_of}
use Rattle.hir_ids.proofs.HeadLemmas.{rest_by_bytes}
use Rattle.hir_ids.proofs.text.rest_of.Goals as goal

pub returns : goal.returns
unfolding rest_of
returns c =
    let by_bytes = rest_by_bytes c.args.text.now in
    search (rules, by_bytes)
