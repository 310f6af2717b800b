-- What is not there yet depends on none.
use Rattle.std.proofs.Common.{◌≡◌, sym, subst, false}
use Rattle.hir_nameres.specs.HirIds.declared.ids.MapId.{MapId}
use Rattle.hir_def_map.specs.Inner.Dependents.{Enters, is_dependent}
use Rattle.hir_def_map.proofs.Entries.{depends_on_none, entered}
use Rattle.hir_def_map.proofs.world.insert.add.Goals as goal

pub enter-requires : goal.enter-requires
enter-requires c =
    let P : MapId → Type 0 = λ x. (on : MapId) → is_dependent c.args.dependents.now on x ≡ false in
    record {
      fresh = subst P (sym c.id-id.ensures.value) (depends_on_none c.args.maps.now c.args.dependents.now c.args.finished.map.id c.requires.indexed
          c.requires.absent);
    }

pub add_entered-requires : goal.add_entered-requires
add_entered-requires c =
    let P : MapId → Type 0 = λ x. Enters c.args.dependents.now c.enter.new.self c.args.finished.named.keys x in
    record {
      absent = c.requires.absent;
      entered =
          entered c.args.maps.now c.args.dependents.now c.enter.new.self c.args.finished c.requires.indexed (subst P c.id-id.ensures.value c.in-Ok.ensures.ok);
    }
