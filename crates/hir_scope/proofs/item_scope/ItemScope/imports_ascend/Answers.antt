use Rattle.hir_per_ns.specs.contracts.imports.ImportIdOrd.TheImpl.Laws.{total-law as total}
use Rattle.hir_scope.specs.Scope.Entries.{import_order}
use Rattle.hir_scope_table.proofs.Ascending.{merge_ascends}
use Rattle.hir_scope.proofs.AscendingLemmas.{imports_among_ascend, value_imports_among_ascend}
use Rattle.hir_scope.proofs.item_scope.ItemScope.imports_ascend.Goals as goal

-- the imports of three tables, merged
pub returns : goal.returns
unfolding import_order
returns c = record {
  imports = rw (← c.self.view_is)
      (merge_ascends import_order total _ _
      (merge_ascends import_order total _ _
      (imports_among_ascend _ c.keys_ascend.ensures.ascends) (imports_among_ascend _ c.keys_ascend-2.ensures.ascends))
      (value_imports_among_ascend _ c.keys_ascend-3.ensures.ascends));
}
