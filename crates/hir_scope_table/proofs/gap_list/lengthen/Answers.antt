use Rattle.std.proofs.Common.{◌∙◌, arith}
use Rattle.hir_scope_table.proofs.GapLists.{both_many}
use Rattle.hir_scope_table.proofs.gap_list.lengthen.Goals as goal

pub moves-preserved : goal.moves-preserved
moves-preserved g c =
    let step = both_many c.move_last.new.onto.items c.move_last.new.from.items c.moves.front.items c.moves.back.items c.move_last.ensures.back in
    record {
      same = c.move_last.ensures.back ∙ c.moves.invariant.same;
      within = omega (arith, step, c.moves.invariant.within);
      enough = λ fewer. omega (arith, step, c.in_ok-move_last.ensures.shorter, c.moves-test.true);
    }
