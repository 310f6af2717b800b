use Rattle.std.specs.Cmp.Lexicographic.{slice_cmp}
use Rattle.std.specs.Ordering.{nat_cmp}
use Rattle.hir_scope_table.proofs.Slots.{in_slot-sorted}
use Rattle.hir_scope.proofs.item_scope.ItemScope.bindings_ascend.Goals as goal

pub returns : goal.returns
returns c =
    let es = c.self.inside.names in
    let ascends = c.is_kept.ensures.ascends in
    rw (← c.self.view_is) (record {
      types = in_slot-sorted (slice_cmp nat_cmp) (λ s. s.types) es ascends;
      values = in_slot-sorted (slice_cmp nat_cmp) (λ s. s.values) es ascends;
      macros = in_slot-sorted (slice_cmp nat_cmp) (λ s. s.macros) es ascends;
    })
