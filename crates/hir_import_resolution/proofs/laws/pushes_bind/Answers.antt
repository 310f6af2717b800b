use Rattle.hir_import_growth.proofs.Binding.{push_binds}
use Rattle.hir_import_resolution.proofs.laws.pushes_bind.Goals as goal

pub returns : goal.returns
returns c = record { bind = push_binds }
