-- The index has what joins, and loses what doesn't.
use Rattle.std.proofs.Common.{subst, Some}
use Rattle.std.specs.BTreeMap.{Updates}
use Rattle.hir_nameres.specs.HirIds.declared.ids.MapId.{MapId}
use Rattle.hir_nameres.specs.HirIds.contracts.ids.MapIdOrd.TheImpl as map_order
use Rattle.hir_def_map.specs.Types.{Finished}
use Rattle.hir_def_map.specs.Inner.Dependents.{Leaves}
use Rattle.hir_def_map.proofs.Entries.{alike_index, joined_index, refused_index}
use Rattle.hir_def_map.proofs.world.insert.add_entered.Goals as goal

pub returns-in-Ok-clause-indexed : goal.returns-in-Ok-clause-indexed
returns-in-Ok-clause-indexed c =
    let P : MapId → Type 0 = λ x. Updates map_order.ghosts.cmp c.args.maps.now c.insert.new.self x (Some c.args.finished) in
    joined_index c.args.maps.now c.insert.new.self c.args.dependents.now c.args.finished c.requires.absent c.requires.entered
    (subst P c.id-id.ensures.value c.in-Ok.ensures.updates)

pub returns-clause-indexed : goal.returns-clause-indexed
returns-clause-indexed c =
    let P : MapId × Finished → Type 0 = λ x. Leaves c.args.dependents.now c.leave.new.self x.1.named.keys c.id-id.result in
    let Q : MapId → Type 0 = λ x. Leaves c.args.dependents.now c.leave.new.self c.args.finished.named.keys x in
    alike_index c.args.maps.now c.insert.new.self c.leave.new.self c.in-Err.ensures.err
    (refused_index c.args.maps.now c.args.dependents.now c.leave.new.self c.args.finished c.requires.absent c.requires.entered
    (subst Q c.id-id.ensures.value (subst P c.in-Err.ensures.value_returned c.leave.ensures.left)))
