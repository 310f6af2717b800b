-- the piece lengthens the open line, which is then told
use Rattle.std.proofs.Common.{refl}
use Rattle.std.proofs.lemmas.Result.{on_ok_weaker, IfErr-weaker}
use Rattle.hir_session_server.specs.declared.server.Server.{Server}
use Rattle.hir_session_server.proofs.RunLemmas.{fed_one, broken_one}
use Rattle.hir_session_server.proofs.server.Server.end_line.Goals as goal

pub returns-clause-ok : goal.returns-clause-ok
returns-clause-ok g c = λ part h plain.
    let now : Server = record { machine = c.args.self.now.machine; line = c.extend.new.self } in
    on_ok_weaker c.tell.result (fed_one c.args.self.now now c.tell.new.self part c.args.piece.now _ _ plain refl)
    (c.tell.ensures.ok _ (c.extend.ensures.open part h))

pub returns-clause-err : goal.returns-clause-err
returns-clause-err g c = λ part h plain.
    let now : Server = record { machine = c.args.self.now.machine; line = c.extend.new.self } in
    IfErr-weaker c.tell.result _ _ (λ e p. (p.0, broken_one c.args.self.now now part c.args.piece.now _ _ plain refl p.1))
    (c.tell.ensures.err _ (c.extend.ensures.open part h))
