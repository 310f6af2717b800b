use Rattle.std.proofs.Common.{sym, subst, List}
use Rattle.std.specs.List.Sorted.{IsStrictlySortedBy}
use Rattle.std.specs.Map.{keys_of}
use Rattle.hir_scope_table.proofs.GapMaps.{entry_added, entry_kept, entry_put}
use Rattle.hir_scope_table.proofs.Slots.{insert-sorted}
use Rattle.hir_scope_table.proofs.gap_map.GapMap.add.Goals as goal

pub returns-then-place-clause-ok : goal.returns-then-place-clause-ok
returns-then-place-clause-ok g c = rw (← c.self.view_is) (
    entry_kept g.K.Ord.cmp g.met.K.Ord.total _ _ _ _ c.place_of-place.ensures.belongs
    c.if-place.true c.args.value)

pub invariant_of-self-2 : goal.invariant_of-self-2
invariant_of-self-2 g c =
    subst (λ (es : List (g.row.K.Denot × g.row.V.Denot)). IsStrictlySortedBy g.K.Ord.cmp (keys_of es))
    (sym (entry_put g.K.Ord.cmp g.met.K.Ord.total _ _ _ _ c.place_of-place.ensures.belongs
    c.if-place.false c.args.value c.insert.new.self c.in_ok-insert.ensures.ok))
    (insert-sorted g.K.Ord.cmp g.met.K.Ord.total c.self.inside.entries c.args.key c.args.value c.self.invariant)

pub returns-clause-ok : goal.returns-clause-ok
returns-clause-ok g c = rw (← c.self.view_is) (
    entry_added g.K.Ord.cmp g.met.K.Ord.total _ _ _ _ c.place_of-place.ensures.belongs
    c.if-place.false c.self.invariant c.args.value c.insert.new.self c.in_ok-insert.ensures.ok)
