use Rattle.hir_session_server.proofs.FateLemmas.{answered_kept, answered_refused, answered_too_large}
use Rattle.hir_session_server.proofs.server.Server.answer.Goals as goal
use Rattle.hir_session_server.proofs.server.Server.answer.Goals.{in-Kept, in-Refused, in-TooLarge}

-- a kept line was asked of the machine; of the others nothing was asked
pub returns-clause-step : goal.returns-clause-step
returns-clause-step g c line held = elim c.match-self.branch [
  | in-Kept w ↦ rw (w.self-is, w.reply-is) (answered_kept c.args.self.now.line line _ _ _ _ w.in-Kept.is w.as_slice.ensures.value held
      w.answer_by-reply.ensures.step)
  | in-Refused w ↦ rw (w.self-is, w.reply-is) (answered_refused c.args.self.now.line line _ w.in-Refused.is held)
  | in-TooLarge w ↦ rw (w.self-is, w.reply-is) (answered_too_large c.args.self.now.line line _ w.in-TooLarge.is held)
]

pub returns-clause-or_memory : goal.returns-clause-or_memory
returns-clause-or_memory g c line held loose = elim c.match-self.branch [
  | in-Kept w ↦ rw w.self-is (answered_kept c.args.self.now.line line _ _ _ _ w.in-Kept.is w.as_slice.ensures.value held
      (w.answer_by-reply.ensures.or_memory (rw w.reply-is at loose)))
  | in-Refused w ↦ rw w.self-is (answered_refused c.args.self.now.line line _ w.in-Refused.is held)
  | in-TooLarge w ↦ absurd (let fixed = rw w.reply-is at loose in cc)
]
