-- What is left decides.
use Rattle.std.proofs.Common.{◌≡◌, length}
use Rattle.hir_def_map_rules.specs.Macros.{exporting_function}
use Rattle.hir_nameres.proofs.nameres.DefMap.proc_macro_as_fn.Given as goal

abbrev pub invariant-next : goal.invariant-next
invariant-next l = exporting_function l.makro l.initial.left ≡ exporting_function l.makro l.left

abbrev pub decreases-next : goal.decreases-next
decreases-next l = length l.left
