-- What does it do that a crate is handed in with other data? No public clause speaks of this.
use Rattle.std.specs.Prelude.{◌≡◌, ◌⊎◌, true}
use Rattle.hir_session_state.specs.HirIds.declared.ids.Crate.{Crate}
use Rattle.hir_session_state.specs.HirCollectorRules.Workspace.{ConfigValue}
use Rattle.hir_session_state.specs.HirDefMapRules.State.{crate_map}
use Rattle.hir_session_state.specs.Beginning.{IsSameConfig}
use Rattle.hir_session_state.specs.Changes.{IsHandedIn}
use Rattle.hir_session_state.specs.Crates.{crate_in, with_config}
use Rattle.hir_session_state.specs.SessionState.{SessionState, is_marked}

-- the crate is handed in with this, or with what is the same, and exactly what that touches is marked
pub record SetsConfig (old : SessionState) (krate : Crate) (given : ConfigValue) (new : SessionState) : Type 0 where
  pub config : ConfigValue
  pub is : IsSameConfig given config
  pub same : IsSameConfig given (crate_in old.crates krate.0).config → config ≡ (crate_in old.crates krate.0).config
  pub becomes : IsHandedIn old (record { crates = with_config old.crates krate.0 config; sources = old.sources }) new
  pub marks : (config ≡ (crate_in old.crates krate.0).config) ⊎ (is_marked new (crate_map krate) ≡ true)
