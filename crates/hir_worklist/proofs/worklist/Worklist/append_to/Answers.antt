-- One more is appended in each turn.
use Rattle.std.proofs.Common.{arith}
use Rattle.hir_worklist.proofs.Passes.{as_long, counts_one, one_longer}
use Rattle.hir_worklist.proofs.worklist.Worklist.append_to.Goals as goal

pub things-init : goal.things-init
things-init c = record { longer = as_long c.args.self.now; within = λ below. below }

pub things-preserved : goal.things-preserved
things-preserved c = record {
  longer = one_longer c.args.self.now c.things.self c.push.new.self c.things.invariant.longer c.in_ok-push.ensures.ok;
  within = λ below. let one = counts_one c.things.self c.push.new.self c.in_ok-push.ensures.ok in omega (arith, one, c.len.ensures.value, c.things-test.true);
}

pub things-smaller : goal.things-smaller
things-smaller c = let one = counts_one c.things.self c.push.new.self c.in_ok-push.ensures.ok in omega (arith, one, c.len.ensures.value, c.things-test.true)

pub returns-clause-count : goal.returns-clause-count
returns-clause-count c = λ below. let within = c.things.invariant.within below in omega (arith, within, c.len.ensures.value, c.things-test.false)
