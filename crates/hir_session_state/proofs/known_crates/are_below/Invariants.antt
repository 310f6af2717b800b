use Rattle.std.proofs.Common.{◌≡◌, drop, nat_lt}
use Rattle.std.specs.List.{list_all}
use Rattle.hir_collector_rules.specs.HirBase.declared.macro_kind.MacroText.{MacroText}
use Rattle.hir_session_state.proofs.known_crates.are_below.Given as goal

-- all are below exactly where all those are that are left
abbrev pub invariant-loop-makro : goal.invariant-loop-makro
invariant-loop-makro l =
    list_all (λ (m : MacroText). nat_lt m.krate.0 l.count) (drop l.makro-index l.macros) ≡ list_all (λ (m : MacroText). nat_lt m.krate.0 l.count) l.macros
