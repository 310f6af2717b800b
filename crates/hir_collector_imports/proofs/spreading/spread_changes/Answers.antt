-- Where nothing is to go along globs, no step is taken.
use Rattle.hir_collector_rules.specs.Steps.{none}
use Rattle.hir_collector_state.proofs.Noted.{noted_beside, noted_itself}
use Rattle.hir_collector_imports.proofs.spreading.spread_changes.Goals as goal

pub returns-then-is_settled-clause-ok : goal.returns-then-is_settled-clause-ok
returns-then-is_settled-clause-ok c = λ env rest. none

pub returns-then-is_settled-clause-noted : goal.returns-then-is_settled-clause-noted
returns-then-is_settled-clause-noted c = noted_beside (noted_itself c.args.run.now)
