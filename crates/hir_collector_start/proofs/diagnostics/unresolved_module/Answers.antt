use Rattle.hir_collector_start.proofs.diagnostics.unresolved_module.Goals as goal

pub returns : goal.returns
returns c = record { value = record { texts = c.in_ok-texts.texts; is = c.unresolved_module.ensures.value; are = c.in_ok-texts.ensures.value } }
