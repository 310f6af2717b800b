-- What is to be done about what waits?
use Rattle.std.specs.Prelude.{◌≡◌, ◌<◌, ◌≤◌, ℕ, true, false, Option, None, Some}
use Rattle.hir_collector_state.specs.HirBase.ModPath.{Path}
use Rattle.hir_collector_state.specs.HirIds.declared.macro_kind.MacroId.{MacroId}
use Rattle.hir_collector_state.specs.HirDefMapRules.Overlay.{Maps}
use Rattle.hir_macro_calls.specs.declared.due.Due.{Due}
use Rattle.hir_macro_calls.specs.declared.due.Due.TheVariants.{Derives, Drops, Nothing, Reaches, Skips, TooDeep}
use Rattle.hir_collector_state.specs.HirCollectorRules.declared.macro_directive.MacroDirective.{MacroDirective}
use Rattle.hir_collector_state.specs.HirCollectorRules.declared.macro_directive.WaitingItem.{WaitingItem}
use Rattle.hir_collector_state.specs.HirCollectorRules.Calls.{LacksMacro, asked_before, called_macro, first_missing, is_call, is_inert_now, waiting_item}
use Rattle.hir_collector_state.specs.HirCollectorRules.State.{Core, at_rest, eager_at}
use Rattle.hir_collector_state.specs.HirCollectorRules.Steps.{IsPassedOver}
use Rattle.hir_collector_state.specs.HirCollectorRules.CallMoves.{FindsBuiltin, FindsMacro}

-- the first path that reaches nothing of those that the macro which a call at a place reaches was seen to ask for
abbrev pub missing_by : Maps → Core → ℕ → MacroDirective → Option MacroId → Option Path
missing_by finished c i d None = None
missing_by finished c i d (Some makro) = first_missing finished c.local c.map d.site.home (asked_before (eager_at c i) makro)

abbrev pub missing_at : Maps → Core → ℕ → MacroDirective → Option Path
missing_at finished c i d = missing_by finished c i d (called_macro finished c.local c.map d)

-- what is to be done about what waits: nothing where it reaches nothing, or its macro asks for a path that does; a call that is too deep is dropped; the item of an attribute goes on where that is
-- inert or builtin; a builtin derive stands for an impl; what reaches another macro is expanded, or dropped where it is too deep
abbrev pub IsDueOf : Maps → Core → ℕ → MacroDirective → Due → Type 0
IsDueOf finished c i d Nothing =
    (is_call d ≡ true → d.site.level < c.map.crate_data.recursion_limit) × LacksMacro finished c i d × (is_inert_now c.map d ≡ false)
IsDueOf finished c i d TooDeep = (is_call d ≡ true) × (c.map.crate_data.recursion_limit ≤ d.site.level)
IsDueOf finished c i d Skips = (k : WaitingItem) × (waiting_item d ≡ Some k) × IsPassedOver finished (at_rest c) d
IsDueOf finished c i d (Derives makro) = FindsBuiltin finished c d makro × (waiting_item d ≡ None)
IsDueOf finished c i d (Drops makro) = FindsMacro finished c d makro × (is_call d ≡ false) × (c.map.crate_data.recursion_limit ≤ d.site.level)
IsDueOf finished c i d (Reaches makro) = FindsMacro finished c d makro × (d.site.level < c.map.crate_data.recursion_limit)
