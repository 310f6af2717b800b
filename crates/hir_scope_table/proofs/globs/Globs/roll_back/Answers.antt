-- What was added was absent, so the places are without it as they were.
use Rattle.std.proofs.Common.{◌∙◌}
use Rattle.std.proofs.lemmas.Cmp.{tied_itself}
use Rattle.hir_scope_table.specs.Globs.{place_cmp}
use Rattle.hir_scope_table.proofs.NamesByModule.{place_total}
use Rattle.hir_scope_table.proofs.RollBack.{key_rolled_back}
use Rattle.hir_scope_table.proofs.globs.Globs.roll_back.Goals as goal

pub returns-then-added : goal.returns-then-added
returns-then-added c = record {
  back = λ earlier wanted reserved.
      c.remove.ensures.value
      ∙ key_rolled_back place_cmp (tied_itself place_total) earlier c.args.at.now wanted c.args.added c.args.self.now c.if-added.true reserved;
}
