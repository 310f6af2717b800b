-- the lines that have ended so far, one more line, and at last a piece without a line end
use Rattle.std.proofs.Common.{◌≡◌, ℕ, List, [], ◌∷◌, ◌++◌, refl, sym, ap, ◌∙◌, subst, append_assoc}
use Rattle.hir_session_machine.specs.HirLines.Lines.{EndsLine, cut_from}
use Rattle.hir_session_server.specs.Runs.{BrokenAt}
use Rattle.hir_session_server.specs.Serving.{Fed}
use Rattle.hir_session_server.specs.declared.server.Server.{Server}
use Rattle.hir_session_server.proofs.RunLemmas.{Fed-append, BrokenAt-after, BrokenAt-longer, fed_rest}
use Rattle.hir_session_server.proofs.server.Server.feed.Goals as goal

more_done : (all done line more rest : List ℕ) → all ≡ done ++ rest → rest ≡ line ++ more → all ≡ (done ++ line) ++ more
more_done all done line more rest split e = split ∙ ap (λ r. done ++ r) e ∙ sym (append_assoc done line more)

pub loop-line-preserved : goal.loop-line-preserved
loop-line-preserved g c = λ part h.
    let (done, split, fed) = c.loop-line.invariant part h in
    let line = c.in-Some.line.now ++ 10 ∷ [] in
    let ends : EndsLine c.loop-line.rest.now c.in-Some.line.now c.in-Some.more.now = rw (← c.in-Some.line-is, ← c.in-Some.more-is) c.in-Some.ensures.answer in (
      done ++ line,
      more_done _ done line _ _ split ends.whole,
      Fed-append c.args.self.now c.loop-line.self c.end_line.new.self part done line _ _ _ fed (c.in-Ok.ensures.ok _ fed.open_line ends.plain),
    )

pub returns-in-Err-clause-err : goal.returns-in-Err-clause-err
returns-in-Err-clause-err g c = λ part h.
    let (done, split, fed) = c.loop-line.invariant part h in
    let w0 = g.W.Write.contents c.args.writer.now in
    let w2 = g.W.Write.contents c.end_line.new.writer in
    let line = c.in-Some.line.now ++ 10 ∷ [] in
    let more = c.in-Some.more.now in
    let ends : EndsLine c.loop-line.rest.now c.in-Some.line.now more = rw (← c.in-Some.line-is, ← c.in-Some.more-is) c.in-Some.ensures.answer in
    let failed = c.in-Err.ensures.err _ fed.open_line ends.plain in
    let here = BrokenAt-after c.args.self.now c.loop-line.self part done line _ _ _ fed failed.1 in
    let whole : c.args.bytes.now ≡ (done ++ line) ++ more = more_done _ done line _ _ split ends.whole in
    (failed.0, subst (λ xs. BrokenAt c.args.self.now.machine (cut_from part xs).0 w0 w2) (sym whole) (BrokenAt-longer _ part (done ++ line) more _ _ here))

pub returns-clause-ok : goal.returns-clause-ok
returns-clause-ok g c = λ part h.
    let (done, split, fed) = c.loop-line.invariant part h in
    let rest = c.loop-line.rest.now in
    let w0 = g.W.Write.contents c.args.writer.now in
    let w1 = g.W.Write.contents c.loop-line.writer in
    let last : Server = record { machine = c.loop-line.self.machine; line = c.extend.new.self } in
    subst (λ xs. Fed c.args.self.now part xs last w0 w1) (sym split)
    (Fed-append c.args.self.now c.loop-line.self last part done rest _ _ _ fed
    (fed_rest c.loop-line.self last _ rest _ c.in_default.ensures.answer refl (c.extend.ensures.open _ fed.open_line)))
