use Rattle.hir_scope_table.proofs.Prevails.{what_prevails}
use Rattle.hir_scope_table.proofs.laws.explicit_prevails.Goals as goal

pub returns : goal.returns
returns g c = record { law = what_prevails g.Def.PartialEq.eq g.Import.PartialEq.eq g.met.Def.Eq.laws g.met.Import.Eq.laws }
