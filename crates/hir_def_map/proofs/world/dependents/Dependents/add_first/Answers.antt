-- The new set has the id alone.
use Rattle.std.proofs.Common.{◌∙◌, ap, sym, Bool, ◌||◌, Some}
use Rattle.std.specs.List.{list_any}
use Rattle.std.specs.BTreeSet.{contains}
use Rattle.hir_nameres.specs.HirIds.contracts.ids.MapIdOrd.TheImpl as map_order
use Rattle.hir_def_map.proofs.Entries.{changed_at, is_id, or-false, takes_one}
use Rattle.hir_def_map.proofs.world.dependents.Dependents.add_first.Goals as goal

pub returns-clause-ok : goal.returns-clause-ok
returns-clause-ok c =
    changed_at (λ (a b : Bool). a || b) or-false c.args.self.now.ids c.insert-2.new.self c.args.on c.args.id (Some c.insert.new.self)
    c.in_ok-insert-2.ensures.updates.0
    (λ id.
    c.in_ok-insert.ensures.updates.0 id
    ∙ takes_one (contains map_order.ghosts.cmp c.new-ids.result id) (is_id c.args.id id)
    ∙ ap (λ (a : Bool). a || is_id c.args.id id) (ap (list_any (is_id id)) c.new-ids.ensures.empty ∙ sym (c.requires.absent id)))
