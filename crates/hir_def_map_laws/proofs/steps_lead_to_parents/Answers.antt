-- A step isn't held back where the parent leads to a root or comes before.
use Rattle.hir_def_map_laws.proofs.Steps.{step-in_order, step-rooted}
use Rattle.hir_def_map_laws.proofs.steps_lead_to_parents.Goals as goal

pub returns : goal.returns
returns c = record { rooted = step-rooted; in_order = step-in_order }
