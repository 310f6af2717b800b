-- What do the entries of a scope say of their names?
use Rattle.std.specs.Prelude.{ℕ, List, Option, None, Some, map}
use Rattle.hir_scope.specs.Slots.{Slots, NamedSlots}
use Rattle.hir_per_ns.specs.declared.per_ns.PerNs.{PerNs}
use Rattle.hir_ids.specs.declared.macro_kind.MacroId.{MacroId}
use Rattle.hir_ids.specs.declared.ids.ModuleDefId.{ModuleDefId}
use Rattle.hir_per_ns.specs.declared.imports.ImportOrExternCrate.{ImportOrExternCrate}
use Rattle.hir_per_ns.specs.declared.imports.ImportOrGlob.{ImportOrGlob}
use Rattle.hir_per_ns.specs.PerNs.{Item}

-- the slots of a name of a scope
abbrev pub ScopeSlots : Type 0
ScopeSlots = Slots (Item ModuleDefId ImportOrExternCrate) (Item ModuleDefId ImportOrGlob) (Item MacroId ImportOrExternCrate)

-- what the name stands for
abbrev pub items_of : ScopeSlots → PerNs
items_of slots = record { types = slots.types; values = slots.values; macros = slots.macros }

-- the names of entries, each with what it stands for
abbrev pub bindings_of : List (List ℕ × ScopeSlots) → List (List ℕ × PerNs)
bindings_of entries = map (λ entry. (entry.0, items_of entry.1)) entries

-- what the name of an entry that was looked for stands for, and nothing where it has none
abbrev pub items_found : Option ScopeSlots → PerNs
items_found None = record { types = None; values = None; macros = None }
items_found (Some slots) = items_of slots
