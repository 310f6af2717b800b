-- the line is answered by what its reply is told as
use Rattle.std.proofs.lemmas.Result.{on_ok_weaker, IfErr-weaker}
use Rattle.hir_session_server.proofs.RunLemmas.{told_of}
use Rattle.hir_session_server.proofs.server.Server.tell.Goals as goal

pub returns-clause-ok : goal.returns-clause-ok
returns-clause-ok g c = λ line h.
    let answered = c.answer-reply.ensures in
    on_ok_weaker c.write_reply-written.result
    (λ w. (w.told, told_of _ line _ w.told _ (answered.step line h) (answered.or_memory line h) w.told_as, w.written, answered.open))
    c.write_reply-written.ensures.ok

pub returns-clause-err : goal.returns-clause-err
returns-clause-err g c = λ line h.
    let answered = c.answer-reply.ensures in
    IfErr-weaker c.write_reply-written.result _ _
    (λ e p. (
      p.0,
      (
        p.1.told,
        c.answer-reply.new.self.machine,
        told_of _ line _ p.1.told _ (answered.step line h) (answered.or_memory line h) p.1.told_as,
        p.1.written,
      ),
    ))
    c.write_reply-written.ensures.err
