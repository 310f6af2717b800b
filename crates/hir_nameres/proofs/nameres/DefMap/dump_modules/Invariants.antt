-- What is written and what is left give the whole text.
use Rattle.std.proofs.Common.{◌≡◌}
use Rattle.std.specs.String.{string_bytes}
use Rattle.hir_def_map_rules.specs.Dump.{pages_of}
use Rattle.hir_def_map_rules.specs.Inner.Branches.{pages_left, with_pages}
use Rattle.hir_def_map_rules.proofs.Branches.{steps_left}
use Rattle.hir_nameres.proofs.nameres.DefMap.dump_modules.Given as goal

abbrev pub invariant-modules : goal.invariant-modules
invariant-modules l = with_pages (string_bytes l.initial.buf) (pages_of l.self) ≡ with_pages (string_bytes l.buf) (pages_left l.self l.left.items)

abbrev pub decreases-modules : goal.decreases-modules
decreases-modules l = steps_left l.self l.left.items
