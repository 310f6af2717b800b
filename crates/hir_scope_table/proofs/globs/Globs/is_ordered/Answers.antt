use Rattle.std.proofs.Common.{subst, List}
use Rattle.std.specs.Cmp.Lexicographic.{slice_cmp}
use Rattle.std.specs.List.Sorted.{IsStrictlySortedBy}
use Rattle.std.specs.Ordering.{nat_cmp}
use Rattle.hir_ids.specs.contracts.ids.ModuleIdOrd.TheImpl as module_id
use Rattle.hir_ids.specs.contracts.ids.ModuleIdOrd.TheImpl.Laws.{total-law as module_total}
use Rattle.hir_scope_table.specs.Globs.{Place, place_cmp}
use Rattle.hir_scope_table.specs.Inner.Places.{names_in}
use Rattle.hir_scope_table.proofs.ByModule.{pairs_sorted}
use Rattle.hir_scope_table.proofs.NamesByModule.{place_total}
use Rattle.hir_scope_table.proofs.globs.Globs.is_ordered.Goals as goal

pub returns : goal.returns
returns c = record {
  total = place_total;
  ordered =
      subst (λ (ps : List Place). IsStrictlySortedBy place_cmp ps) c.self.view_is
      (pairs_sorted module_id.ghosts.cmp module_total (slice_cmp nat_cmp) names_in c.self.inside.modules.entries c.len.ensures.ordered c.self.invariant);
}
