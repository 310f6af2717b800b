use Rattle.std.proofs.Common.{ℕ, List, []}
use Rattle.std.specs.Io.KnownBytes.{Consumes}
use Rattle.hir_session_server.specs.Serving.{Fed}
use Rattle.hir_session_machine.specs.HirLines.OpenLines.{Holds}
use Rattle.hir_session_server.proofs.server.Server.converse.Given as goal

abbrev pub invariant-loop-turn : goal.invariant-loop-turn
invariant-loop-turn g l =
    Holds l.initial.self.line []
    → (input : List ℕ) × Consumes (g.R.Read.remaining l.initial.reader) (g.R.Read.remaining l.reader) input
    × Fed l.initial.self [] input l.self (g.W.Write.contents l.initial.writer) (g.W.Write.contents l.writer)
