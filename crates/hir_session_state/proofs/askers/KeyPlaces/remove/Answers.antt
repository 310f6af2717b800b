-- The first place is another one.
use Rattle.std.proofs.Common.{◌∙◌, ap, sym, Bool, ◌||◌}
use Rattle.std.specs.BTreeSet.{contains}
use Rattle.hir_collector_rules.specs.HirIds.contracts.ids.MapIdOrd.TheImpl as map_order
use Rattle.hir_session_state.specs.Askers.{is_first}
use Rattle.hir_session_state.proofs.Entering.{is_id, loses_one, spared}
use Rattle.hir_session_state.proofs.askers.KeyPlaces.remove.Goals as goal

pub returns-else-is_first : goal.returns-else-is_first
returns-else-is_first c = record {
  left = λ j.
      let had : Bool = contains map_order.ghosts.cmp c.args.self.now.others j in
      ap (λ (a : Bool). is_first c.args.self.now.first j || a) (c.remove.ensures.updates.0 j ∙ loses_one had (is_id c.args.id j))
      ∙ spared c.args.self.now.first c.args.id j had (sym c.is_first.ensures.value ∙ c.if-is_first.false);
}
