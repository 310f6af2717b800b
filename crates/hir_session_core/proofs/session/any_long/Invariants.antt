use Rattle.std.proofs.Common.{◌≡◌, drop}
use Rattle.std.specs.List.{list_any}
use Rattle.hir_session_state.specs.HirItemTree.Limits.{is_long}
use Rattle.hir_session_core.proofs.session.any_long.Given as goal

-- there is one exactly where there is one among those that are left
abbrev pub invariant-loop-path : goal.invariant-loop-path
invariant-loop-path l = list_any is_long (drop l.path-index l.paths) ≡ list_any is_long l.paths
