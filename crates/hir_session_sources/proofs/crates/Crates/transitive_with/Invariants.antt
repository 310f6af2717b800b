use Rattle.std.proofs.Common.{◌+◌}
use Rattle.hir_session_state.specs.HirCollectorRules.Workspace.{config_view}
use Rattle.hir_session_state.specs.Crates.{with_config}
use Rattle.hir_session_sources.proofs.Transitive.{AreListed}
use Rattle.hir_session_sources.proofs.crates.Crates.transitive_with.Given as goal

-- the lists of the crates so far are those of their transitive dependencies
abbrev pub invariant-loop-info : goal.invariant-loop-info
invariant-loop-info l = AreListed (with_config l.fn.self l.fn.k (config_view l.config)) l.transitive ((l.fn.k + 1) + l.info-index)
