use Rattle.std.proofs.Common.{◌≡◌, drop, map}
use Rattle.hir_collector_state.specs.HirItemTree.Collected.{numbered}
use Rattle.hir_collector_state.specs.HirCollectorRules.ModuleFiles.{path_attribute}
use Rattle.hir_mod_resolution.proofs.mod_resolution.path_attr.Given as goal

-- those that are left say the same
abbrev pub invariant-loop-attr : goal.invariant-loop-attr
invariant-loop-attr l = path_attribute (map numbered (drop l.attr-index l.attrs)) ≡ path_attribute (map numbered l.attrs)
