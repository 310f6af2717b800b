-- The names of the macros that are used are noted.
use Rattle.std.proofs.Common.{◌≡◌, ap, false, rules, subst, sym}
use Rattle.std.specs.Prelude.{ℕ, List, codes, map, Some}
use Rattle.hir_collector_rules.specs.HirIds.declared.macro_kind.MacroId.{MacroId}
use Rattle.hir_collector_rules.specs.HirNameres.WorldParts.{part_of}
use Rattle.hir_collector_rules.specs.CrateTop.{says}
use Rattle.hir_collector_rules.specs.HirItemTree.Collected.{numbered}
use Rattle.hir_collector_rules.specs.Macros.{wanted_among, with_macros_used}
use Rattle.hir_collector_rules.specs.TreeReads.{head_of}
use Rattle.hir_collector_state.proofs.MacroUses.{none_brought}
use Rattle.hir_collector_state.specs.contracts.def_collector.DefCollector.{the_view}
use Rattle.hir_collector_rules.specs.State.{Core, Run, core_in, with_map}
use Rattle.hir_collector_state.specs.Waiting.{IsNoted}
use Rattle.hir_collector_state.proofs.Noted.{noted_used}
use Rattle.hir_collector_state.proofs.def_collector.DefCollector.use_macros.Goals as goal

pub returns-clause-noted : goal.returns-clause-noted
returns-clause-noted c =
    let before : Run = the_view c.self.inside in
    let after : Run = record before { map = c.use_wanted.new.map; changed = c.note_wanted.new.changed } in
    let wanted : List (List ℕ × MacroId) = wanted_among (map numbered c.as_slice-attrs.result.now) c.in-Some.scope.now.macros in
    subst (λ (r : Run). IsNoted r after) c.self.view_is
    (noted_used before c.use_wanted.new.map c.note_wanted.new.changed wanted (Some c.args.by) c.in_ok-use_wanted.ensures.ok c.in_ok-note_wanted.ensures.ok)

pub returns-then-not-says-clause-ok : goal.returns-then-not-says-clause-ok
returns-then-not-says-clause-ok c =
    let now : Core = core_in c.args.self.now in
    let none : says (codes "macro_use") (head_of c.args.head).attributes.attributes
    ≡ false = search (rules, c.says.ensures.value, c.as_slice-attrs.ensures.value) in
    sym (ap (λ (macros : List (List ℕ × MacroId)). with_map now (with_macros_used now.map macros (Some c.args.by)))
    (none_brought (part_of c.args.world) now.map now.dependencies (head_of c.args.head) c.args.name.now none))
