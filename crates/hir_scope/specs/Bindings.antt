-- What does a push bring to a name in each namespace, and what prevails there?
use Rattle.std.specs.Prelude.{Option, None, Some, option_map}
use Rattle.hir_ids.specs.declared.macro_kind.MacroId.{MacroId}
use Rattle.hir_ids.specs.declared.ids.ModuleDefId.{ModuleDefId}
use Rattle.hir_ids.specs.declared.ids.ModuleDefId.TheVariants as defs
use Rattle.hir_ids.specs.contracts.ids.ModuleDefIdPartialEq.TheImpl as module_def
use Rattle.hir_ids.specs.contracts.macro_kind.MacroIdPartialEq.TheImpl as makro
use Rattle.hir_scope_item.specs.declared.item.Candidate.{Candidate as TableCandidate}
use Rattle.hir_scope_item.specs.declared.item.Push.{Push as TablePush}
use Rattle.hir_scope_item.specs.Bindings.{Slot as TableSlot}
use Rattle.hir_per_ns.specs.contracts.imports.ImportOrExternCratePartialEq.TheImpl as import_or_extern_crate
use Rattle.hir_per_ns.specs.contracts.imports.ImportOrGlobPartialEq.TheImpl as import_or_glob
use Rattle.hir_per_ns.specs.declared.imports.ImportOrDef.{ImportOrDef}
use Rattle.hir_per_ns.specs.declared.imports.ImportOrExternCrate.{ImportOrExternCrate}
use Rattle.hir_per_ns.specs.declared.imports.ImportOrGlob.{ImportOrGlob}
use Rattle.hir_per_ns.specs.declared.per_ns.PerNs.{PerNs}
use Rattle.hir_per_ns.specs.declared.visibility.Visibility.{Visibility}
use Rattle.hir_scope.specs.ImportRecords.{is_glob, reached_by, value_reached_by}
use Rattle.hir_per_ns.specs.PerNs.{Item, item_of, value_import}
pub use Rattle.hir_scope_item.specs.Bindings.{first_of, is_same_import, is_reresolved_by, changes_slot, slot_after, takes, slot_after_push}
pub use Rattle.hir_scope_item.specs.Bindings.{with_item_visibility, with_item_definition, history_of, prevailing}
pub use Rattle.hir_scope_table.specs.Table.{slot_at, taken, written_items, written_places, written_records, slot_after_candidate, PushesSlot, Records}

-- a push to one namespace: an item, and whether a glob pushes it
abbrev pub Push : Type 0 → Type 0 → Type 0
Push D I = TablePush D Visibility I

-- a push, and what its import reached
abbrev pub Candidate : Type 0 → Type 0 → Type 0
Candidate D I = TableCandidate D Visibility I ImportOrDef

-- a name in one namespace of a module: what is bound there, and whether the glob table has the name
abbrev pub Slot : Type 0 → Type 0 → Type 0
Slot D I = TableSlot D Visibility I

-- ---- what is pushed

-- the candidate of an item by an import: its record is what had brought the item, or else its definition
abbrev pub type_candidate : Option (Item ModuleDefId ImportOrExternCrate) → Option ImportOrExternCrate
    → Option (Candidate ModuleDefId ImportOrExternCrate)
type_candidate None import = None
type_candidate (Some i) import = Some (record {
  push = record {
    item = record { def = i.def; vis = i.vis; import = import };
    is_glob = is_glob import;
  };
  source = reached_by i.import i.def;
})

-- in values an `extern crate` is stored as no import
abbrev pub value_candidate : Option (Item ModuleDefId ImportOrGlob) → Option ImportOrExternCrate
    → Option (Candidate ModuleDefId ImportOrGlob)
value_candidate None import = None
value_candidate (Some i) import = Some (record {
  push = record {
    item = record { def = i.def; vis = i.vis; import = value_import import };
    is_glob = is_glob import;
  };
  source = value_reached_by i.import i.def;
})

abbrev pub macro_candidate : Option (Item MacroId ImportOrExternCrate) → Option ImportOrExternCrate
    → Option (Candidate MacroId ImportOrExternCrate)
macro_candidate None import = None
macro_candidate (Some i) import = Some (record {
  push = record {
    item = record { def = i.def; vis = i.vis; import = import };
    is_glob = is_glob import;
  };
  source = reached_by i.import (defs.MacroId i.def);
})

-- the items as an import binds them
abbrev pub items_by : Option ImportOrExternCrate → PerNs → PerNs
items_by import items = record {
  types = option_map (λ (i : Item ModuleDefId ImportOrExternCrate). item_of i.def i.vis import) items.types;
  values = option_map (λ (i : Item ModuleDefId ImportOrGlob). item_of i.def i.vis (value_import import)) items.values;
  macros = option_map (λ (i : Item MacroId ImportOrExternCrate). item_of i.def i.vis import) items.macros;
}

-- ---- a push where no glob has brought anything

-- what a name stands for after a push
abbrev pub after_push : PerNs → PerNs → PerNs
after_push bound push = record {
  types = slot_after module_def.ghosts.eq import_or_extern_crate.ghosts.eq bound.types push.types;
  values = slot_after module_def.ghosts.eq import_or_glob.ghosts.eq bound.values push.values;
  macros = slot_after makro.ghosts.eq import_or_extern_crate.ghosts.eq bound.macros push.macros;
}
