-- One more place beside the first.
use Rattle.std.proofs.Common.{◌∙◌, ap, Bool, ◌||◌}
use Rattle.std.specs.BTreeSet.{contains}
use Rattle.hir_collector_rules.specs.HirIds.contracts.ids.MapIdOrd.TheImpl as map_order
use Rattle.hir_session_state.specs.Askers.{is_first}
use Rattle.hir_session_state.proofs.Entering.{is_id, or-assoc, takes_one}
use Rattle.hir_session_state.proofs.askers.KeyPlaces.add.Goals as goal

pub returns-clause-ok : goal.returns-clause-ok
returns-clause-ok c j =
    let had : Bool = contains map_order.ghosts.cmp c.args.self.now.others j in
    ap (λ (a : Bool). is_first c.args.self.now.first j || a) (c.in_ok-insert.ensures.updates.0 j ∙ takes_one had (is_id c.args.id j))
    ∙ or-assoc (is_first c.args.self.now.first j) had (is_id c.args.id j)
