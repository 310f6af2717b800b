use Rattle.std.proofs.Common.{sym, arith}
use Rattle.hir_ids.proofs.HeadLemmas.{alike_by_rest}
use Rattle.hir_ids.proofs.text.Text.is_same_behind.Goals as goal

pub returns-then-rest-lt16 : goal.returns-then-rest-lt16
returns-then-rest-lt16 c =
    let mine = c.rest-rest.ensures in
    let its = c.rest.ensures in
    rw (← c.self.view_is, ← c.other.view_is)
    (record {
      value = sym (alike_by_rest c.self.inside.kept c.other.inside.kept mine.bytes its.bytes (rw (c.self.view_is, c.other.view_is) c.requires.heads)
          (omega (arith, mine.value, its.value, c.if-rest.false)) (omega (arith, mine.value, c.if-rest-lt16.true)));
    })
