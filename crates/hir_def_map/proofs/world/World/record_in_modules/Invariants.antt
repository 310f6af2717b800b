-- Those of all modules that are not left are recorded.
use Rattle.std.proofs.Common.{drop}
use Rattle.std.specs.List.{list_any}
use Rattle.hir_nameres.specs.HirIds.declared.ids.MapId.{MapId}
use Rattle.hir_def_map_rules.specs.Inner.ReferenceLists.{listed_in}
use Rattle.hir_def_map_rules.specs.References.{lies_in}
use Rattle.hir_def_map.proofs.Recorded.{IsRecording}
use Rattle.hir_def_map.proofs.world.World.record_in_modules.Given as goal

abbrev pub invariant-loop-module : goal.invariant-loop-module
invariant-loop-module l =
    IsRecording l.self.maps l.initial.recorded l.recorded l.own l.covered (λ (id : MapId). list_any (listed_in (lies_in id)) l.modules)
    (λ (id : MapId). list_any (listed_in (lies_in id)) (drop l.module-index l.modules))
