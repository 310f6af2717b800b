use Rattle.hir_wire.specs.Macros.{macro_rules_in}
use Rattle.hir_wire.proofs.ReadingLemmas.{both_refused}
use Rattle.hir_wire.proofs.read.macros.read_macro_rules.Goals as goal

-- what is made of two parts fails as they do
pub returns-in-Err : goal.returns-in-Err
unfolding macro_rules_in
returns-in-Err c = record { value = both_refused _ c.required.ensures.value c.read_definition.ensures.value c.in-Err.ensures.value }
