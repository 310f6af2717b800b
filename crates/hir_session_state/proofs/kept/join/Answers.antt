-- There is at most one map more.
use Rattle.std.proofs.Common.{arith}
use Rattle.hir_session_state.proofs.KeptLemmas.{joined_count}
use Rattle.hir_session_state.proofs.kept.join.Goals as goal

pub prove-unreachable-requires : goal.prove-unreachable-requires
prove-unreachable-requires c =
    let most =
    joined_count c.args.world.now.maps c.insert.new.world.maps c.args.map c.args.local c.in_ok-insert.ensures.maps c.len-after.ensures.ordered in
    omega (arith, most, c.len-before.ensures.len, c.len-after.ensures.len, c.if-prove.true)

pub returns-clause-len : goal.returns-clause-len
returns-clause-len c =
    joined_count c.args.world.now.maps c.insert.new.world.maps c.args.map c.args.local c.in_ok-insert.ensures.maps c.len-after.ensures.ordered
