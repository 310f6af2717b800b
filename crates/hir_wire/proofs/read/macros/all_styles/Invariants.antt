use Rattle.std.proofs.Common.{◌≡◌, drop}
use Rattle.hir_wire.specs.Macros.{either_styles, all_styles}
use Rattle.hir_wire.proofs.read.macros.all_styles.Given as goal

-- the styles so far, and those of what is left, are those of all
abbrev pub invariant-loop-style : goal.invariant-loop-style
invariant-loop-style l = either_styles l.all (all_styles (drop l.style-index l.styles)) ≡ all_styles l.styles
