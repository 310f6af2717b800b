use Rattle.std.proofs.Common.{◌∙◌, sym}
use Rattle.hir_glob_imports.proofs.SameSeen.{exact_seen}
use Rattle.hir_glob_imports.proofs.brought.shared.Goals as goal

pub returns-in_ok-clone-in-Some : goal.returns-in_ok-clone-in-Some
returns-in_ok-clone-in-Some c = record {
  same = c.in_ok-clone-in-Some.ensures.cases ∙ sym c.deref.ensures ∙ exact_seen c.deref.result.now c.args.wanted (sym c.eq.ensures ∙ c.if-eq.true);
}
