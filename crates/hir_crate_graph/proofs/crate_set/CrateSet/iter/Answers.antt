use Rattle.std.proofs.Common.{◌≤◌, vec_len, arith}
use Rattle.hir_crate_graph.proofs.Rows.{IsAscending-members, length-members}
use Rattle.hir_crate_graph.proofs.crate_set.CrateSet.iter.Goals as goal

pub returns-clause-ascending : goal.returns-clause-ascending
returns-clause-ascending c = rw (← c.self.view_is) (IsAscending-members c.self.inside.words.items)

pub returns-clause-few : goal.returns-clause-few
returns-clause-few c =
    let few : vec_len c.self.inside.words ≤ 67108864 = c.self.invariant in
    let own = c.self.inside.words.ok.0 in
    rw (← c.self.view_is) (length-members c.self.inside.words.items (omega arith))
