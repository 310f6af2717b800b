use Rattle.hir_per_ns.proofs.FilterLemmas.{filtered_alike}
use Rattle.hir_per_ns.proofs.per_ns.PerNs.filter_visibility.Goals as goal

pub returns-clause-asked : goal.returns-clause-asked
returns-clause-asked g c = (
  c.passing-types.new.test,
  c.passing-values.new.test,
  c.passing-macros.new.test,
  c.passing-types.ensures.asked,
  c.passing-values.ensures.asked,
  c.passing-macros.ensures.asked,
)

pub returns-clause-value : goal.returns-clause-value
returns-clause-value g c = λ keep alike.
    filtered_alike (goal.F-step g) keep alike c.args.test c.args.self
    (record { types = c.passing-types.result; values = c.passing-values.result; macros = c.passing-macros.result }) (
      c.passing-types.new.test,
      c.passing-values.new.test,
      c.passing-macros.new.test,
      c.passing-types.ensures.asked,
      c.passing-values.ensures.asked,
      c.passing-macros.ensures.asked,
    )
