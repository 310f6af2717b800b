-- The map that is taken away is taken out of the index.
use Rattle.std.proofs.Common.{sym}
use Rattle.hir_def_map.proofs.Entries.{removed_index}
use Rattle.hir_def_map.proofs.world.remove.take_one.Goals as goal

pub returns-clause-indexed : goal.returns-clause-indexed
returns-clause-indexed c =
    removed_index c.args.maps.now c.remove.new.self c.args.dependents.now c.leave.new.self c.in-Some.finished c.args.id (sym c.in-Some.ensures.value)
    c.requires.indexed
    c.in-Some.ensures.updates c.leave.ensures.left
