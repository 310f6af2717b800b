use Rattle.std.proofs.Common.{◌≡◌, option_map}
use Rattle.hir_session_answers.specs.SourceCalls.{and_calls, source_of, source_within}
use Rattle.hir_session_answers.proofs.source_items.source_calls.source_at.Given as goal

-- what holds the syntax is what holds the outermost call so far, and those calls
abbrev pub invariant-calls : goal.invariant-calls
invariant-calls l = source_of l.tables l.fn.file l.fn.block ≡ option_map (and_calls l.calls.items) (source_within l.left l.tables l.at l.within)

-- each call uses one up
abbrev pub decreases-calls : goal.decreases-calls
decreases-calls l = l.left
