-- Does a path begin with a module of a run's own map?
use Rattle.std.specs.Prelude.{◌||◌, ℕ, Bool, List, Option, is_none, not}
use Rattle.std.specs.List.{list_any}
use Rattle.hir_collector_state.specs.HirIds.declared.ids.ExternCrateId.{ExternCrateId}
use Rattle.hir_collector_state.specs.HirIds.declared.ids.MapId.{MapId}
use Rattle.hir_collector_state.specs.HirIds.declared.ids.ModuleId.{ModuleId}
use Rattle.hir_collector_state.specs.HirNameres.Scoping.Slots.{is_in}
use Rattle.hir_collector_state.specs.HirDefMapRules.State.{Local}

-- whether one of the crates that paths begin with lies in a map
abbrev pub begins_inside : MapId → Local → Bool
begins_inside own local = list_any (λ (e : List ℕ × (ModuleId × Option ExternCrateId)). is_in own e.1.0) local

-- whether none does, where the map is a block's
abbrev pub begins_outside : MapId → Local → Bool
begins_outside own local = is_none own.block || not (begins_inside own local)
