use Rattle.std.proofs.Common.{◌∙◌, ap}
use Rattle.std.specs.Cmp.Lexicographic.{slice_cmp}
use Rattle.std.specs.Ordering.{nat_cmp}
use Rattle.hir_scope.specs.Entries.{with_some_entry}
use Rattle.hir_scope.specs.Slots.{types_in, values_in, macros_in, named}
use Rattle.hir_scope.proofs.EntryNames.{item_entry_named}
use Rattle.hir_scope.proofs.Updates.{all_bound}
use Rattle.hir_scope.proofs.item_scope.ItemScope.bind.Goals as goal

-- each namespace has what its candidate binds, and each record what its candidate reached
pub returns-in-Ok-written-clause-ok : goal.returns-in-Ok-written-clause-ok
returns-in-Ok-written-clause-ok c =
    let name = c.args.at.now.1 in
    let given = c.args.candidates in
    let es = c.self.inside.names in
    all_bound _ _ c.self.view_is name given _ _ _ _ _ _ _
    (c.in-Ok-written.ensures.types
    ∙ ap (with_some_entry (slice_cmp nat_cmp) (types_in es)) (ap (named name) c.pushed_item.ensures.value ∙ item_entry_named name given.types))
    (c.in-Ok-written.ensures.values
    ∙ ap (with_some_entry (slice_cmp nat_cmp) (values_in es)) (ap (named name) c.pushed_item-2.ensures.value ∙ item_entry_named name given.values))
    (c.in-Ok-written.ensures.macros
    ∙ ap (with_some_entry (slice_cmp nat_cmp) (macros_in es)) (ap (named name) c.pushed_item-3.ensures.value ∙ item_entry_named name given.macros))
    c.in-Ok-written.ensures.unresolved (c.write.ensures.records _ c.in_ok-for_types.ensures.records)
    (c.write-in-Ok-written.ensures.records _ c.in-Ok.ensures.records) (c.write-in-Ok-written-2.ensures.records _ c.in-Ok-reserve.ensures.records)
