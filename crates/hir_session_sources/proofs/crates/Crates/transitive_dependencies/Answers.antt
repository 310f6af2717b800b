use Rattle.std.proofs.Common.{◌∙◌, ap, List}
use Rattle.hir_session_sources.proofs.Transitive.{listed_at}
use Rattle.hir_session_state.specs.Crates.{CrateValue}
use Rattle.hir_session_sources.proofs.crates.Crates.transitive_dependencies.Goals as goal

pub returns : goal.returns
returns c = record { value = c.get.ensures.value ∙ rw c.self.view_is at (listed_at _ _ c.self.invariant c.args.krate) }
