use Rattle.std.proofs.Common.{sym, ◌∙◌}
use Rattle.std.proofs.lemmas.Result.{on_ok_weaker, IfErr-weaker}
use Rattle.hir_session_server.proofs.RunLemmas.{told_last, broken_last, none_last}
use Rattle.hir_session_server.proofs.server.Server.finish.Goals as goal

pub returns-then-is_started-clause-ok : goal.returns-then-is_started-clause-ok
returns-then-is_started-clause-ok g c = λ part h.
    on_ok_weaker c.tell.result (told_last c.args.self.now c.tell.new.self part _ _ (sym (c.is_started.ensures.value part h) ∙ c.if-is_started.true))
    (c.tell.ensures.ok part h)

pub returns-then-is_started-clause-err : goal.returns-then-is_started-clause-err
returns-then-is_started-clause-err g c = λ part h.
    IfErr-weaker c.tell.result _ _ (λ e p. (p.0, broken_last c.args.self.now part _ _ (sym (c.is_started.ensures.value part h) ∙ c.if-is_started.true) p.1))
    (c.tell.ensures.err part h)

pub returns-else-is_started-clause-ok : goal.returns-else-is_started-clause-ok
returns-else-is_started-clause-ok g c = λ part h. none_last c.args.self.now part _ (sym (c.is_started.ensures.value part h) ∙ c.if-is_started.false)
