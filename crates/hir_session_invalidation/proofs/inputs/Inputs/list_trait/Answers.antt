-- A list that is too long over the parts is too long over the inputs.
use Rattle.std.proofs.Common.{◌≡◌, subst, Err}
use Rattle.hir_session_state.specs.HirIds.declared.ast_id.AstKind.TheVariants as kind
use Rattle.hir_session_state.specs.HirIds.declared.ids.ItemContainerId.TheVariants as container
use Rattle.hir_session_state.specs.HirNameres.DefMaps.{maps_of}
use Rattle.hir_session_state.specs.HirCollectorRules.Keys.{environment}
use Rattle.hir_assoc_items.specs.AssocItems.{IsTooMany, container_of, items_written}
use Rattle.hir_assoc_items.specs.declared.error.AssocItemsError.TheVariants as assoc_error
use Rattle.hir_session_state.specs.Inputs.{InputsValue, workspace_by}
use Rattle.hir_session_invalidation.proofs.inputs.Inputs.list_trait.Goals as goal

pub returns-clause-many : goal.returns-clause-many
returns-clause-many c = subst (λ (i : InputsValue). c.list_of_trait-list.result ≡ Err assoc_error.TooMany
    → IsTooMany (environment c.list_of_trait-list.new.tables (workspace_by i))
    (container_of (maps_of c.args.maps) c.args.local.now (container.TraitId c.args.id))
    (items_written c.args.tables.now (workspace_by i) c.args.id.loc kind.Trait))
    c.self.view_is c.list_of_trait-list.ensures.many
