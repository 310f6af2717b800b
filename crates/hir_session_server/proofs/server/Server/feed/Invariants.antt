use Rattle.std.proofs.Common.{◌≡◌, ℕ, List, ◌++◌, length}
use Rattle.hir_session_server.specs.Serving.{Fed}
use Rattle.hir_session_machine.specs.HirLines.OpenLines.{Holds}
use Rattle.hir_session_server.proofs.server.Server.feed.Given as goal

abbrev pub invariant-loop-line : goal.invariant-loop-line
invariant-loop-line g l =
    (part : List ℕ) → Holds l.initial.self.line part
    → (done : List ℕ) × (l.initial.rest ≡ done ++ l.rest) × Fed l.initial.self part done l.self (g.W.Write.contents l.initial.writer)
    (g.W.Write.contents l.writer)

abbrev pub decreases-loop-line : goal.decreases-loop-line
decreases-loop-line g l = length l.rest
