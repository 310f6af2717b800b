use Rattle.std.proofs.Common.{codes}
use Rattle.std.proofs.lemmas.Str.Pattern.{ends_text}
use Rattle.hir_mod_dir.proofs.candidate.is_mod_rs.Goals as goal

pub returns : goal.returns
returns c = record { value = ends_text _ (codes "/mod.rs") c.args.text.now c.ends_with.ensures.cases }
