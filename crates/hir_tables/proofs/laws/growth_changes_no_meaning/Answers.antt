use Rattle.hir_tables.proofs.Growth.{KeepsTables-refl, KeepsTables-trans, source_of-kept}
use Rattle.hir_tables.proofs.laws.growth_changes_no_meaning.Goals as goal

pub returns : goal.returns
returns c = record { sources = source_of-kept; none = KeepsTables-refl; in_steps = KeepsTables-trans }
