use Rattle.std.proofs.Common.{◌++◌, ◌-◌, replicate}
use Rattle.std.specs.Prelude.{codes}
use Rattle.std.specs.Fmt.{HasWritten, IsPlainFormatter}
use Rattle.std.specs.List.{flat_map}
use Rattle.hir_base.proofs.display.LevelsDisplay.fmt.Given as goal

abbrev pub invariant-loop-level : goal.invariant-loop-level
invariant-loop-level g l =
    IsPlainFormatter l.fn.f
    → HasWritten g.W.Write.write_str_gives l.fn.f (codes "super" ++ flat_map (λ part. part) (replicate (l.level - 1) (codes "::super"))) l.f
