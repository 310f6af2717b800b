use Rattle.hir_scope.proofs.AscendingLemmas.{entries_ascend}
use Rattle.hir_scope.proofs.walk_laws.entries_and_imports_ascend.Goals as goal

pub returns : goal.returns
returns c = record { entries = entries_ascend c.args.scope.now c.names_ascend.ensures.names; imports = c.imports_ascend.ensures.imports }
