-- What keeps that which holds of imports and globs wherever steps lead?
use Rattle.std.specs.Prelude.{◌≡◌, ℕ, ◌<◌, ◌++◌, List, Option, None, Some, length, slice_get}
use Rattle.hir_def_map_rules.specs.Overlay.{Maps}
use Rattle.hir_def_map_rules.specs.State.{Local, Map}
use Rattle.hir_nameres.specs.HirPerNs.declared.per_ns.PerNs.{PerNs}
use Rattle.hir_import_rules.specs.declared.directive.ImportDirective.{ImportDirective}
use Rattle.hir_import_rules.specs.Changes.{act, pushes}
use Rattle.hir_import_rules.specs.Directives.{not_taken}
use Rattle.hir_import_rules.specs.Rest.{IsSound}
use Rattle.hir_import_growth.specs.Growth.{GrowsAround}
use Rattle.hir_import_rules.specs.Rules.{Step}
use Rattle.hir_import_rules.specs.State.{ImportState}

-- a step, where the modules of the imports are there
abbrev pub StepsKeepSound : Type 0
StepsKeepSound =
    (finished : Maps) (old new : ImportState) → ((i : ℕ) (r : ImportDirective) → slice_get old.imports i ≡ Some r → r.home < length old.map.modules)
    → Step finished old new → IsSound finished old → IsSound finished new

-- a map that grows around its names
abbrev pub GrowthKeepsSound : Type 0
GrowthKeepsSound = (finished : Maps) (s : ImportState) (m : Map) → GrowsAround s.map m → IsSound finished s → IsSound finished (record s { map = m })

-- a declaration that is bound
abbrev pub PushesKeepSound : Type 0
PushesKeepSound =
    (finished : Maps) (s : ImportState) (home : ℕ) (name : Option (List ℕ)) (items : PerNs) → IsSound finished s
    → IsSound finished (act s (pushes home name items None))

-- imports that come behind the others, with nothing taken
abbrev pub ReachedImportsKeepSound : Type 0
ReachedImportsKeepSound = (finished : Maps) (s : ImportState) (rs : List ImportDirective) → length s.taken ≡ length s.imports → IsSound finished s
    → IsSound finished (record s { imports = s.imports ++ rs; taken = s.taken ++ not_taken rs })

-- other crates that paths may begin with, and another count of steps
abbrev pub LocalKeepsSound : Type 0
LocalKeepsSound =
    (finished : Maps) (s : ImportState) (local : Local) (count : ℕ) → IsSound finished s → IsSound finished (record s { local = local; count = count })
