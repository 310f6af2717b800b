use Rattle.hir_scope_table.proofs.Pushes.{last_record}
use Rattle.hir_scope_table.proofs.laws.last_record_stays.Goals as goal

pub returns : goal.returns
returns g c = record { law = λ records candidates import. last_record g.Import.Ord.cmp g.met.Import.Ord.total candidates records import }
