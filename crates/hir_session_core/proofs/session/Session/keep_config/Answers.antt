-- Where the crate is handed in so already, it stays as it is.
use Rattle.std.proofs.Common.{subst, sym}
use Rattle.hir_session_state.specs.HirCollectorRules.Workspace.{config_view}
use Rattle.hir_session_state.specs.Beginning.{IsSameConfig}
use Rattle.hir_session_state.specs.Crates.{crate_in}
use Rattle.hir_session_state.specs.SessionState.{SessionState}
use Rattle.hir_session_core.specs.CrateEdits.{SetsConfig}
use Rattle.hir_session_core.proofs.CrateEdits.{same_set}
use Rattle.hir_session_core.proofs.session.Session.keep_config.Goals as goal

pub returns-then-has_config-clause-ok : goal.returns-then-has_config-clause-ok
returns-then-has_config-clause-ok c =
    let config = config_view c.args.config in
    let same = subst (λ (s : SessionState). IsSameConfig config (crate_in s.crates c.args.krate.0).config) (sym c.self.view_is)
    (c.has_config.ensures.exact.0 c.if-has_config.true) in
    subst (λ (s : SessionState). SetsConfig s c.args.krate config s) c.self.view_is (same_set _ c.self.invariant.0 c.args.krate config same)
