use Rattle.std.proofs.Common.{◌≡◌, take}
use Rattle.hir_session_sources.proofs.seen_entry.are_same_paths.Given as goal

-- as many paths were found the same so far
abbrev pub invariant-loop-i : goal.invariant-loop-i
invariant-loop-i l = take l.i l.one ≡ take l.i l.other
