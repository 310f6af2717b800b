-- The name is among those that are left.
use Rattle.std.proofs.Common.{◌≡◌, length}
use Rattle.hir_session_answers.specs.Modules.{name_among}
use Rattle.hir_session_answers.proofs.modules.name_among.Given as goal

abbrev pub invariant-children : goal.invariant-children
invariant-children l = name_among l.holder.children l.at ≡ name_among l.children l.at

abbrev pub decreases-children : goal.decreases-children
decreases-children l = length l.children
