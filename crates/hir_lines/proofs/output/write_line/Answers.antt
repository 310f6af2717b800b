use Rattle.std.proofs.Common.{[], ◌∷◌}
use Rattle.std.proofs.lemmas.Result.{IfErr-weaker}
use Rattle.hir_lines.proofs.PartLemmas.{WritesPart-after, WritesPart-longer}
use Rattle.hir_lines.proofs.output.write_line.Goals as goal

pub returns-in-Ok-clause-err : goal.returns-in-Ok-clause-err
returns-in-Ok-clause-err g c =
    IfErr-weaker c.send-in-Ok.result _ _ (λ e p. (p.0, WritesPart-after _ _ _ c.args.text.now (10 ∷ []) c.in-Ok.ensures.ok p.1)) c.send-in-Ok.ensures.err

pub returns-in-Err-clause-err : goal.returns-in-Err-clause-err
returns-in-Err-clause-err g c = (c.in-Err.ensures.err.0, WritesPart-longer _ _ c.args.text.now (10 ∷ []) c.in-Err.ensures.err.1)
