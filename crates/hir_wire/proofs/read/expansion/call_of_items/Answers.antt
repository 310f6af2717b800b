use Rattle.std.proofs.Common.{sym, arith}
use Rattle.hir_wire.specs.Expansions.{attribute_call}
use Rattle.hir_wire.proofs.PairLemmas.{of_two-short, of_two-long}
use Rattle.hir_wire.proofs.read.expansion.call_of_items.Goals as goal

-- the call of an attribute is a word and a number
pub returns-in_default : goal.returns-in_default
returns-in_default c = record { value = sym (of_two-short attribute_call c.args.items.now c.in_default.len_below) }

pub returns-in_default-2 : goal.returns-in_default-2
returns-in_default-2 c = record { value = sym (of_two-long attribute_call c.args.items.now (omega arith)) }
