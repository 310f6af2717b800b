use Rattle.std.proofs.Common.{arith}
use Rattle.hir_scope_table.proofs.GapLists.{both_many}
use Rattle.hir_scope_table.proofs.gap_list.move_gap.Goals as goal

pub lengthen-requires : goal.lengthen-requires
lengthen-requires g c =
    let same = both_many c.shorten.new.front.items c.shorten.new.back.items c.args.front.now.items c.args.back.now.items c.shorten.ensures.same in
    record { within = omega (arith, same, c.requires.within) }
