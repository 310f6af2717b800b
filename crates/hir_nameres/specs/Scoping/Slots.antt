-- Which slots of the map that is built does a path read?
use Rattle.std.specs.Prelude.{ℕ, List, [], ◌∷◌, Bool, ◌&&◌, Option, None, Some, cond, option_and_then, option_map}
use Rattle.hir_def_map_rules.specs.HirBase.ModPath.{Path}
use Rattle.hir_def_map_rules.specs.HirIds.declared.ids.MapId.{MapId}
use Rattle.hir_def_map_rules.specs.HirIds.declared.ids.ModuleDefId.{ModuleDefId}
use Rattle.hir_def_map_rules.specs.HirIds.declared.ids.ModuleId.{ModuleId}
use Rattle.hir_def_map_rules.specs.HirBase.declared.mod_path.PathKind.{PathKind}
use Rattle.hir_def_map_rules.specs.HirIds.declared.ids.ModuleDefId.TheVariants as definitions
use Rattle.hir_def_map_rules.specs.HirBase.declared.mod_path.PathKind.TheVariants as kinds
use Rattle.hir_def_map_rules.specs.HirIds.contracts.ids.MapIdPartialEq.TheImpl as map_id
use Rattle.hir_def_map_rules.specs.HirPerNs.declared.imports.ImportOrExternCrate.{ImportOrExternCrate}
use Rattle.hir_def_map_rules.specs.HirPerNs.declared.per_ns.PerNs.{PerNs}
use Rattle.hir_def_map_rules.specs.HirPerNs.PerNs.{Item}
use Rattle.hir_def_map_rules.specs.State.{Map, crate_root}
use Rattle.hir_def_map_rules.specs.Overlay.{Maps, overlay, map_in}
use Rattle.hir_def_map_rules.specs.Scoping.Asking.{Asking}
use Rattle.hir_def_map_rules.specs.Scoping.FirstSegment.{extern_name, prelude_of, name_in_module, name_in_crate_root_or_extern_prelude, shadow_before}
use Rattle.hir_def_map_rules.specs.Scoping.Segments.{nearest_non_block_module, seen}
use Rattle.hir_def_map_rules.specs.Scoping.Start.{climb, is_import, is_in_edition_2015}
use Rattle.hir_nameres.specs.declared.nameres.path_resolution.slots.Slot.{Slot}
use Rattle.hir_nameres.specs.declared.nameres.path_resolution.slots.Slot.TheVariants.{Module as of_module, Preludes as of_preludes}
use Rattle.hir_nameres.specs.declared.nameres.path_resolution.slots.SlotRef.{SlotRef}
use Rattle.hir_nameres.specs.declared.nameres.path_resolution.slots.SlotRef.TheVariants as lent

-- the prelude module of a map
abbrev pub prelude_module_of : Option Map → Option ModuleId
prelude_module_of map = option_map (λ p. p.0) (prelude_of map)

-- a slot whose name is lent
abbrev pub slot_of : SlotRef → Slot
slot_of (lent.Module at name) = of_module at name.now
slot_of (lent.Preludes name) = of_preludes name.now

-- whether a module lies in the map of an id
abbrev pub is_in : MapId → ModuleId → Bool
is_in own m = map_id.ghosts.eq m.map own

-- these slots, and first that of a name in a module, which is one where the module lies in the map
abbrev pub with_slot : MapId → ModuleId → List ℕ → List Slot → List Slot
with_slot own m name slots = cond (is_in own m) (of_module m.index name ∷ slots) slots

-- ---- further segments

-- a module, where it lies in the map
abbrev pub kept_in : MapId → ModuleId → Option ModuleId
kept_in own m = cond (is_in own m) (Some m) None

-- the module of the map that a definition is, if it is one
abbrev pub module_by : MapId → ModuleDefId → Option ModuleId
module_by own (definitions.ModuleId m) = kept_in own m
module_by own _ = None

-- the module of the map that a type is, if it is one
abbrev pub module_among : MapId → Option (Item ModuleDefId ImportOrExternCrate) → Option ModuleId
module_among own None = None
module_among own (Some item) = module_by own item.def

-- the segments that are left, after what names a module of the map: each is looked up in the module to which those before
-- it led; after anything else nothing is looked up that may change, neither in other maps nor among the variants of an enum
abbrev pub further_slots : Maps → MapId → ModuleId → List (List ℕ) → Option ModuleId → List Slot
further_slots maps own from [] at = []
further_slots maps own from (segment ∷ others) None = []
further_slots maps own from (segment ∷ others) (Some m) =
    of_module m.index segment ∷ further_slots maps own from others (module_among own (seen maps from m segment).types)

-- the segments that are left, after what names these items
abbrev pub slots_after : Maps → MapId → ModuleId → List (List ℕ) → PerNs → List Slot
slots_after maps own from segments now = further_slots maps own from segments (module_among own now.types)

-- ---- where a path starts

-- these slots, and first that of a name in the prelude module, if there is one, where that lies in the map
abbrev pub with_prelude_slot : MapId → Option ModuleId → List ℕ → List Slot → List Slot
with_prelude_slot own None name slots = slots
with_prelude_slot own (Some prelude) name slots = with_slot own prelude name slots

-- a first segment in the root of the crate or among the crates, and the others
abbrev pub slots_from_root : Maps → Asking → MapId → ModuleId → List ℕ → List (List ℕ) → List Slot
slots_from_root maps asking own from segment others =
    with_slot own (crate_root from.map.krate) segment
    (of_preludes segment ∷ slots_after maps own from others (name_in_crate_root_or_extern_prelude maps asking.local from segment))

-- a first segment in the module and in the preludes, and the others
abbrev pub slots_from_module : Maps → Asking → MapId → ModuleId → List ℕ → List (List ℕ) → List Slot
slots_from_module maps asking own from segment others =
    with_slot own from segment
    (with_prelude_slot own (prelude_module_of (map_in maps from.map)) segment
    (of_preludes segment ∷ slots_after maps own from others (name_in_module maps asking.local asking.sub_ns (shadow_before others asking.shadow) from segment)))

-- a first segment among the crates alone, and the others
abbrev pub slots_from_crates : Maps → Asking → MapId → ModuleId → List ℕ → List (List ℕ) → List Slot
slots_from_crates maps asking own from segment others = of_preludes segment ∷ slots_after maps own from others (extern_name asking.local segment)

-- a path, its root and its segments apart; no root is looked up, since what a module is in doesn't change
abbrev pub slots_of : Maps → Asking → MapId → ModuleId → PathKind → List (List ℕ) → List Slot
slots_of maps asking own from kinds.Crate segments = further_slots maps own from segments (kept_in own (crate_root from.map.krate))
slots_of maps asking own from (kinds.DollarCrate c) segments = further_slots maps own from segments (kept_in own (crate_root c))
slots_of maps asking own from (kinds.Super n) segments =
    further_slots maps own from segments (option_and_then (kept_in own) (climb maps n (nearest_non_block_module maps from)))
slots_of maps asking own from kinds.Plain [] = []
slots_of maps asking own from kinds.Plain (segment ∷ others) =
    cond (is_in_edition_2015 (map_in maps from.map) && is_import asking.mode)
    (slots_from_root maps asking own from segment others)
    (slots_from_module maps asking own from segment others)
slots_of maps asking own from kinds.Abs [] = []
slots_of maps asking own from kinds.Abs (segment ∷ others) =
    cond (is_in_edition_2015 (map_in maps from.map))
    (slots_from_root maps asking own from segment others)
    (slots_from_crates maps asking own from segment others)

-- the slots that a path looks at which is asked from a module of the map that is built, also those that hold nothing;
-- the modules that hold a block lie in finished maps, so what is asked of them too looks at no more
abbrev pub reads : Maps → Asking → Map → ModuleId → Path → List Slot
reads finished asking map from path = slots_of (overlay finished map) asking map.id from path.kind path.segments

-- these slots, and first one where it's there
abbrev pub before : Option SlotRef → List Slot → List Slot
before None slots = slots
before (Some slot) slots = slot_of slot ∷ slots
