use Rattle.std.proofs.Common.{◌≡◌, ◌++◌, take}
use Rattle.hir_raw_visibility.proofs.raw_visibility.push_visibilities.Given as goal

-- those so far are there
abbrev pub invariant-loop-visibility : goal.invariant-loop-visibility
invariant-loop-visibility l = l.out.items ≡ l.initial.out.items ++ take l.visibility-index l.more
