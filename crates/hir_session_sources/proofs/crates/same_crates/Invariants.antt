use Rattle.std.proofs.Common.{◌≡◌, take}
use Rattle.hir_session_sources.proofs.crates.same_crates.Given as goal

-- as many crates were found the same so far
abbrev pub invariant-loop-i : goal.invariant-loop-i
invariant-loop-i l = take l.i l.a ≡ take l.i l.b
