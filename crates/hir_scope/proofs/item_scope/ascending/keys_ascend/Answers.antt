use Rattle.hir_scope.proofs.item_scope.ascending.keys_ascend.Goals as goal

pub returns : goal.returns
returns g c = record { ascends = c.len.ensures.ordered }
