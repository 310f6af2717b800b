use Rattle.std.proofs.Common.{◌≡◌, length, inl, ap, arith}
use Rattle.hir_crate_graph.proofs.crate_set.CrateSet.len.Goals as goal

pub count-requires-clause-fits : goal.count-requires-clause-fits
count-requires-clause-fits c =
    let same : length c.iter.result ≡ length c.args.self.now = ap length c.iter.ensures.value in
    let few = c.iter.ensures.few in
    inl (omega arith)
