-- Each part by itself.
use Rattle.hir_nameres.proofs.HirDefMapRules.Listed.{KeepsNames-listed}
use Rattle.hir_def_map_laws.proofs.declarations_keep_names.Goals as goal

pub returns : goal.returns
returns c = record { keeps = KeepsNames-listed }
