use Rattle.std.proofs.Common.{sym, arith}
use Rattle.hir_ids.proofs.HeadLemmas.{above_by_rest, below_by_rest, equal_by_rest}
use Rattle.hir_ids.proofs.text.Text.cmp_behind.Goals as goal

pub returns-then-rest-other_rest : goal.returns-then-rest-other_rest
returns-then-rest-other_rest c =
    let mine = c.rest-rest.ensures in
    let its = c.rest-other_rest.ensures in
    rw (← c.self.view_is, ← c.other.view_is)
    (record {
      value = sym (below_by_rest c.self.inside.kept c.other.inside.kept mine.bytes its.bytes (rw (c.self.view_is, c.other.view_is) c.requires.heads)
          (omega (arith, mine.value, its.value, c.if-rest-other_rest.true)));
    })

pub returns-then-rest-other_rest-2 : goal.returns-then-rest-other_rest-2
returns-then-rest-other_rest-2 c =
    let mine = c.rest-rest.ensures in
    let its = c.rest-other_rest.ensures in
    rw (← c.self.view_is, ← c.other.view_is)
    (record {
      value = sym (above_by_rest c.self.inside.kept c.other.inside.kept mine.bytes its.bytes (rw (c.self.view_is, c.other.view_is) c.requires.heads)
          (omega (arith, mine.value, its.value, c.if-rest-other_rest-2.true)));
    })

pub returns-then-rest-lt16 : goal.returns-then-rest-lt16
returns-then-rest-lt16 c =
    let mine = c.rest-rest.ensures in
    let its = c.rest-other_rest.ensures in
    rw (← c.self.view_is, ← c.other.view_is)
    (record {
      value = sym (equal_by_rest c.self.inside.kept c.other.inside.kept mine.bytes its.bytes (rw (c.self.view_is, c.other.view_is) c.requires.heads)
          (omega (arith, mine.value, its.value, c.if-rest-other_rest.false, c.if-rest-other_rest-2.false)) (omega (arith, mine.value, c.if-rest-lt16.true)));
    })
