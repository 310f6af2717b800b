-- What has a session of each expansion?
use Rattle.std.specs.Prelude.{true, not, List, filter, map, option_map, Option, Some, None}
use Rattle.std.specs.Ordering.{nat_cmp, on, then_cmp}
use Rattle.std.specs.Cmp.Lexicographic.{slice_cmp}
use Rattle.std.specs.BTreeMap.{is_at, insert_entry}
use Rattle.std.specs.Map.{lookup}
use Rattle.std.specs.declared.cmp.Ordering.{Ordering}
use Rattle.hir_collector_rules.specs.HirIds.contracts.ids.CrateOrd.TheImpl as crate_order
use Rattle.hir_collector_rules.specs.HirBase.contracts.macro_kind.CallStyleOrd.TheImpl as style_order
use Rattle.hir_collector_rules.specs.HirBase.contracts.macro_kind.MacroTextOrd.TheImpl as text_order
use Rattle.hir_collector_rules.specs.HirBase.declared.macro_kind.ExpansionKey.{ExpansionKey}
use Rattle.hir_collector_rules.specs.HirItemTree.Source.{SourceValue}
use Rattle.hir_collector_rules.specs.HirTables.SourcePlaces.{ExpansionValue, expansion_value}
use Rattle.hir_collector_rules.specs.Workspace.{EntryLook}
use Rattle.hir_collector_rules.specs.Keys.{absent_entry}
use Rattle.hir_messages.specs.Edits.{EntryValue}

-- what one expansion depends on is before what another does by its caller, then by the input, by how the macro is called,
-- by the macro, and by the macros that the input reaches
abbrev pub expansion_cmp : ExpansionValue → ExpansionValue → Ordering
expansion_cmp =
    then_cmp (on (λ e. e.caller) crate_order.ghosts.cmp)
    (then_cmp (on (λ e. e.input) (slice_cmp nat_cmp))
    (then_cmp (on (λ e. e.call) style_order.ghosts.cmp)
    (then_cmp (on (λ e. e.called) text_order.ghosts.cmp) (on (λ e. e.reached) (slice_cmp text_order.ghosts.cmp)))))

-- the expansions that are there, as they were handed in, in the order of what they depend on
abbrev pub Entries : Type 0
Entries = List (ExpansionValue × EntryValue)

-- what is stored by keys, by what these say
abbrev pub by_value : {V : Type 0} → List (ExpansionKey × V) → List (ExpansionValue × V)
by_value es = map (λ e. (expansion_value e.0, e.1)) es

-- an expansion, if it is there
abbrev pub entry_at : Entries → ExpansionValue → Option EntryValue
entry_at entries key = lookup (is_at (expansion_cmp key)) entries

-- the expansions with this one set
abbrev pub with_entry : Entries → ExpansionValue → EntryValue → Entries
with_entry entries key entry = insert_entry expansion_cmp entries key entry

-- the expansions without this one
abbrev pub without_entry : Entries → ExpansionValue → Entries
without_entry entries key = filter (λ e. not (is_at (expansion_cmp key) e.0)) entries

-- the expansions where this one is so, or isn't there
abbrev pub entries_with : Entries → ExpansionValue → Option EntryValue → Entries
entries_with entries key (Some entry) = with_entry entries key entry
entries_with entries key None = without_entry entries key

-- the source of an expansion, where it is there
abbrev pub source_of : Option EntryValue → Option SourceValue
source_of entry = option_map (λ e. e.source) entry

-- what is seen of an expansion beside its items
abbrev pub look_of : Option EntryValue → EntryLook
look_of None = absent_entry
look_of (Some e) = record { present = true; error = e.error; inner = e.inner }
