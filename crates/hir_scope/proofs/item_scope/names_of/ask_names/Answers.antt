use Rattle.std.proofs.Common.{rules, of_calls}
use Rattle.hir_scope.proofs.AskLemmas.{other_side, unanswered}
use Rattle.hir_scope.proofs.item_scope.names_of.ask_names.Goals as goal

pub next-preserved-in_default-cb : goal.next-preserved-in_default-cb
next-preserved-in_default-cb g c =
    let callable = c.next.invariant.0 in
    let called = c.cb.ensures in (
      search of_calls,
      λ outcome asks. c.next.invariant.1 outcome
          (unanswered (goal.F-step g) g.Def.PartialEq.eq c.args.def c.next.cb c.cb.new.self (c.in-Some.name.now, c.in-Some.item.now) c.next-in-next.new.self
          c.next.left
          c.in-Some.name c.is_none.result c.cb.result outcome (search rules) (search rules) (search rules) (other_side _ _ c.is_none.ensures) c.in_default-cb.is
          c.cb.ensures asks),
    )
