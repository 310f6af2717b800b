use Rattle.std.proofs.Common.{refl, subst, sym}
use Rattle.std.specs.Cmp.Lexicographic.{slice_cmp}
use Rattle.std.specs.List.Sorted.{IsStrictlySortedBy}
use Rattle.std.specs.Ordering.{nat_cmp}
use Rattle.hir_scope_table.proofs.Names.{names_of_entries}
use Rattle.hir_scope.proofs.item_scope.ItemScope.names_ascend.Goals as goal

-- the names of the entries
pub returns : goal.returns
returns c =
    let es = c.self.inside.names in
    record {
      names = rw (← c.self.view_is) (subst (IsStrictlySortedBy (slice_cmp nat_cmp))
          (sym (names_of_entries es (record { ascends = c.is_kept.ensures.ascends; says = c.is_kept.ensures.says }))) c.is_kept.ensures.ascends);
    }
