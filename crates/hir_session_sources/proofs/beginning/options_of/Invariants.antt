use Rattle.std.proofs.Common.{◌≡◌, ◌||◌, drop}
use Rattle.hir_session_state.specs.HirBase.CfgOptions.{is_set}
use Rattle.hir_session_state.specs.HirBase.declared.cfg.CfgAtom.{CfgAtom}
use Rattle.hir_session_sources.proofs.beginning.options_of.Given as goal

-- what is set, or is still to be, is what is handed in
abbrev pub invariant-loop-atom : goal.invariant-loop-atom
invariant-loop-atom l = (a : CfgAtom) → (is_set l.options a || is_set (drop l.atom-index l.atoms.items) a) ≡ is_set l.atoms.items a
