use Rattle.hir_def_collector_laws.proofs.LastVariants.{last_of_all}
use Rattle.hir_def_collector_laws.proofs.laws.last_variant_prevails.Goals as goal

pub returns : goal.returns
returns c = record { prevails = λ id items name. last_of_all id items name }
