use Rattle.std.proofs.Common.{◌≡◌, ◌++◌, drop, map}
use Rattle.hir_collector_rules.specs.HirModDir.declared.candidate.Candidate.{Candidate}
use Rattle.hir_collector_start.proofs.diagnostics.texts_of.Given as goal

-- with those of the candidates that are left, all are there
abbrev pub invariant-loop-candidate : goal.invariant-loop-candidate
invariant-loop-candidate l =
    l.texts.items ++ map (λ (c : Candidate). c.text) (drop l.candidate-index l.candidates) ≡ map (λ (c : Candidate). c.text) l.candidates
