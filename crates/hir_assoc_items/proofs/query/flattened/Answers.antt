use Rattle.std.proofs.Common.{List, subst}
use Rattle.hir_collector_rules.specs.Keys.{environment}
use Rattle.hir_collector_rules.specs.Workspace.{Workspace}
use Rattle.hir_assoc_items.specs.AssocItems.{IsTooMany, items_written}
use Rattle.hir_assoc_items.specs.Steps.{container_view}
use Rattle.hir_assoc_items.specs.Written.{WrittenValue}
use Rattle.hir_assoc_items.proofs.query.flattened.Goals as goal

pub returns-clause-many : goal.returns-clause-many
returns-clause-many g c = λ h.
    let w = g.D.SourceDatabase.workspace c.args.db.now in
    let of = container_view c.args.container.now in
    let later = c.flatten.new.locations in
    subst (λ (v : Workspace). IsTooMany (environment later v) of (items_written c.args.locations.now w c.args.loc c.args.kind)) c.in_ok-items.ensures.same
    (subst (λ (is : List WrittenValue). IsTooMany (environment later (g.D.SourceDatabase.workspace c.written_items.new.db)) of is) c.in_ok-items.ensures.value
    (c.flatten.ensures.many h))
