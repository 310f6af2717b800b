-- The set at the id loses the other one, and goes where it is left empty.
use Rattle.std.proofs.Common.{◌∙◌, ap, sym, Bool, ◌&&◌, not, is_some, Option, Some}
use Rattle.std.specs.BTreeSet.{BTreeSet, contains}
use Rattle.hir_nameres.specs.HirIds.declared.ids.MapId.{MapId}
use Rattle.hir_nameres.specs.HirIds.contracts.ids.MapIdOrd.TheImpl as map_order
use Rattle.hir_def_map.specs.Inner.Dependents.{has_id}
use Rattle.hir_def_map.proofs.Entries.{and-true, changed_at, emptied_at, is_id, loses_one}
use Rattle.hir_def_map.proofs.world.dependents.Dependents.remove.Goals as goal

pub returns-then-is_empty : goal.returns-then-is_empty
returns-then-is_empty c = record {
  left =
      emptied_at c.args.self.now.ids (c.get_mut.follows.lender c.remove.new.self) c.remove-then-is_empty.new.self c.args.on c.args.id c.in-Some.ids.now
      c.remove.new.self
      c.in-Some.ensures.value c.remove.ensures.updates.0 (c.is_empty.ensures.0 c.if-is_empty.true)
      ((c.get_mut.follows.holds c.remove.new.self).3 (ap is_some (sym c.in-Some.ensures.value))).0
      c.remove-then-is_empty.ensures.updates.0;
}

pub returns-else-is_empty : goal.returns-else-is_empty
returns-else-is_empty c = record {
  left =
      changed_at (λ (a b : Bool). a && not b) and-true c.args.self.now.ids (c.get_mut.follows.lender c.remove.new.self) c.args.on c.args.id
      (Some c.remove.new.self)
      ((c.get_mut.follows.holds c.remove.new.self).3 (ap is_some (sym c.in-Some.ensures.value))).0
      (λ id.
      c.remove.ensures.updates.0 id
      ∙ loses_one (contains map_order.ghosts.cmp c.in-Some.ids.now id) (is_id c.args.id id)
      ∙ ap (λ (o : Option (BTreeSet MapId)). has_id o id && not (is_id c.args.id id)) c.in-Some.ensures.value);
}
