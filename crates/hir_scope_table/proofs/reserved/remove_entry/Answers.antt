use Rattle.std.proofs.Common.{◌∙◌}
use Rattle.std.proofs.lemmas.Cmp.{tied_itself}
use Rattle.hir_scope_table.proofs.RollBack.{entry_rolled_back}
use Rattle.hir_scope_table.proofs.reserved.remove_entry.Goals as goal

-- what was added was absent, so the map is without it as it was
pub returns-then-added-clause-back : goal.returns-then-added-clause-back
returns-then-added-clause-back g c = λ earlier value reserved.
    c.remove.ensures.entries ∙ entry_rolled_back g.K.Ord.cmp (tied_itself g.met.K.Ord.total) earlier c.args.key.now value c.args.added c.args.map.now.entries
    c.if-added.true reserved
