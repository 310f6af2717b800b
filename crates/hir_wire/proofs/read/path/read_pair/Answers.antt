use Rattle.std.proofs.Common.{sym, arith}
use Rattle.hir_wire.specs.Paths.{id_of_two}
use Rattle.hir_wire.proofs.PairLemmas.{of_two-short, of_two-long}
use Rattle.hir_wire.proofs.read.path.read_pair.Goals as goal

-- an id has two numbers
pub returns-in_default : goal.returns-in_default
returns-in_default c = record { value = sym (of_two-short id_of_two c.args.items.now c.in_default.len_below) }

pub returns-in_default-2 : goal.returns-in_default-2
returns-in_default-2 c = record { value = sym (of_two-long id_of_two c.args.items.now (omega arith)) }
