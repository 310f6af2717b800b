use Rattle.hir_session_sources.proofs.Transitive.{AreListed}
use Rattle.hir_session_sources.proofs.crates.Crates.new.Given as goal

-- the lists of the crates so far are those of their transitive dependencies
abbrev pub invariant-loop-info : goal.invariant-loop-info
invariant-loop-info l = AreListed l.fn.list.items l.transitive l.info-index
