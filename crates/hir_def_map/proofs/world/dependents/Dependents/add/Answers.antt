-- The set at the id gains the other one.
use Rattle.std.proofs.Common.{◌∙◌, ap, sym, Bool, ◌||◌, is_some, Option, Some}
use Rattle.std.specs.BTreeSet.{BTreeSet, contains}
use Rattle.hir_nameres.specs.HirIds.declared.ids.MapId.{MapId}
use Rattle.hir_nameres.specs.HirIds.contracts.ids.MapIdOrd.TheImpl as map_order
use Rattle.hir_def_map.specs.Inner.Dependents.{has_id}
use Rattle.hir_def_map.proofs.Entries.{changed_at, is_id, or-false, takes_one}
use Rattle.hir_def_map.proofs.world.dependents.Dependents.add.Goals as goal

pub returns-in_ok-insert-in-Some-clause-ok : goal.returns-in_ok-insert-in-Some-clause-ok
returns-in_ok-insert-in-Some-clause-ok c =
    changed_at (λ (a b : Bool). a || b) or-false c.args.self.now.ids (c.get_mut.follows.lender c.insert.new.self) c.args.on c.args.id (Some c.insert.new.self)
    ((c.get_mut.follows.holds c.insert.new.self).3 (ap is_some (sym c.in-Some.ensures.value))).0
    (λ id.
    c.in_ok-insert-in-Some.ensures.updates.0 id
    ∙ takes_one (contains map_order.ghosts.cmp c.in-Some.ids.now id) (is_id c.args.id id)
    ∙ ap (λ (o : Option (BTreeSet MapId)). has_id o id || is_id c.args.id id) c.in-Some.ensures.value)
