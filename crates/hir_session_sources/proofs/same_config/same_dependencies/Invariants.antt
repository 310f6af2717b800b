use Rattle.std.proofs.Common.{◌≡◌, take}
use Rattle.hir_session_sources.proofs.same_config.same_dependencies.Given as goal

-- as many dependencies were found the same so far
abbrev pub invariant-loop-i : goal.invariant-loop-i
invariant-loop-i l = take l.i l.a ≡ take l.i l.b
