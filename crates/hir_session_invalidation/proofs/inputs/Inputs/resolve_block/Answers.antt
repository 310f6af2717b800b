-- A run that is too long, or meets an unknown source, over the parts does so over the inputs.
use Rattle.std.proofs.Common.{◌≡◌, subst, Err}
use Rattle.hir_session_state.specs.HirNameres.World.{finished_in}
use Rattle.hir_session_state.specs.HirCollectorRules.Derivation.{IsOverlong}
use Rattle.hir_session_state.specs.HirCollectorRules.UnknownSources.{MeetsUnknownSource}
use Rattle.hir_session_state.specs.HirCollectorRules.declared.start.CollectError.TheVariants as collect_error
use Rattle.hir_session_state.specs.Crates.{begins_in_block}
use Rattle.hir_session_state.specs.Inputs.{InputsValue, workspace_by}
use Rattle.hir_session_invalidation.proofs.inputs.Inputs.resolve_block.Goals as goal

pub returns-clause-many : goal.returns-clause-many
returns-clause-many g c = subst (λ (i : InputsValue). c.collect_block-found.result ≡ Err collect_error.TooMany
    → IsOverlong c.collect_block-found.new.tables (workspace_by i) (finished_in c.args.world.now.maps)
    (begins_in_block c.args.at.krate c.args.at.block c.args.at.holder c.args.at.file c.args.at.id))
    c.self.view_is c.collect_block-found.ensures.many

pub returns-clause-unknown : goal.returns-clause-unknown
returns-clause-unknown g c = subst (λ (i : InputsValue). c.collect_block-found.result ≡ Err collect_error.UnknownSource
    → MeetsUnknownSource c.collect_block-found.new.tables (workspace_by i) (finished_in c.args.world.now.maps)
    (begins_in_block c.args.at.krate c.args.at.block c.args.at.holder c.args.at.file c.args.at.id))
    c.self.view_is c.collect_block-found.ensures.unknown
