use Rattle.std.proofs.Common.{◌≡◌, take}
use Rattle.hir_session_sources.proofs.blocks.steps_to.Given as goal

abbrev pub invariant-loop-element : goal.invariant-loop-element
invariant-loop-element l = l.steps.items ≡ take l.element-index l.element-items
