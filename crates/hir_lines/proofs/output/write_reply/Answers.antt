-- a reply whose text found no memory has no fixed text, and the text written is that of want of memory
use Rattle.std.proofs.Common.{◌≡◌, ◌++◌, ◌∷◌, [], inr, refl, sym, subst}
use Rattle.std.proofs.lemmas.Result.{on_ok_weaker, IfErr-weaker}
use Rattle.std.specs.Io.KnownBytes.{Appends}
use Rattle.hir_messages.specs.declared.reply.Reply.TheVariants as reply
use Rattle.hir_wire.specs.Replies.{text_of}
use Rattle.hir_lines.specs.Output.{WritesPart}
use Rattle.hir_lines.proofs.output.write_reply.Goals as goal

pub returns-in-Err-clause-ok : goal.returns-in-Err-clause-ok
returns-in-Err-clause-ok g c =
    let w0 = g.W.Write.contents c.args.writer.now in
    let w2 = g.W.Write.contents c.write_line-in-Err.new.writer in
    let text : c.as_bytes-in-Err.result.now ≡ text_of reply.Memory = cc in
    on_ok_weaker c.write_line-in-Err.result
    (λ written. record {
      told = reply.Memory;
      told_as = inr (sym c.in_default.ensures.fixed, refl);
      written = subst (λ t. Appends w0 w2 (t ++ 10 ∷ [])) text written;
    })
    c.write_line-in-Err.ensures.ok

pub returns-in-Err-clause-err : goal.returns-in-Err-clause-err
returns-in-Err-clause-err g c =
    let w0 = g.W.Write.contents c.args.writer.now in
    let w2 = g.W.Write.contents c.write_line-in-Err.new.writer in
    let text : c.as_bytes-in-Err.result.now ≡ text_of reply.Memory = cc in
    IfErr-weaker c.write_line-in-Err.result _ _
    (λ e p. (
      p.0,
      record {
        told = reply.Memory;
        told_as = inr (sym c.in_default.ensures.fixed, refl);
        written = subst (λ t. WritesPart w0 w2 (t ++ 10 ∷ [])) text p.1;
      },
    ))
    c.write_line-in-Err.ensures.err
