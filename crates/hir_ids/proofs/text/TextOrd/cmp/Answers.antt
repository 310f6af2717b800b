use Rattle.std.proofs.Common.{sym, arith}
use Rattle.hir_ids.proofs.HeadLemmas.{below_by_head, above_by_head}
use Rattle.hir_ids.proofs.text.TextOrd.cmp.Goals as goal

pub returns-then-head-other_head : goal.returns-then-head-other_head
returns-then-head-other_head c =
    let mine = c.head-head.ensures in
    let its = c.head-other_head.ensures in
    rw (← c.self.view_is, ← c.other.view_is)
    (sym (below_by_head c.self.inside.kept c.other.inside.kept its.bytes (omega (arith, mine.value, its.value, c.if-head-other_head.true))))

pub returns-then-head-other_head-2 : goal.returns-then-head-other_head-2
returns-then-head-other_head-2 c =
    let mine = c.head-head.ensures in
    let its = c.head-other_head.ensures in
    rw (← c.self.view_is, ← c.other.view_is)
    (sym (above_by_head c.self.inside.kept c.other.inside.kept mine.bytes (omega (arith, mine.value, its.value, c.if-head-other_head-2.true))))
