use Rattle.std.proofs.Common.{◌∙◌, ap, sym, subst, List}
use Rattle.std.specs.BTreeMap.{is_at}
use Rattle.std.specs.List.Sorted.{IsStrictlySortedBy}
use Rattle.std.specs.Map.{keys_of, lookup}
use Rattle.hir_scope_table.proofs.GapMaps.{entry_absent, entry_removed, lookup_removed}
use Rattle.hir_scope_table.proofs.Slots.{remove-sorted}
use Rattle.hir_scope_table.proofs.gap_map.GapMap.remove.Goals as goal

pub invariant_of-self : goal.invariant_of-self
invariant_of-self g c =
    subst (λ (es : List (g.row.K.Denot × g.row.V.Denot)). IsStrictlySortedBy g.K.Ord.cmp (keys_of es))
    (sym (c.remove.ensures.value ∙ entry_removed g.K.Ord.cmp g.met.K.Ord.total _ _ _ _ c.place_of-place.ensures.belongs
    c.if-place.true))
    (remove-sorted g.K.Ord.cmp (is_at (g.K.Ord.cmp c.args.key.now)) c.self.inside.entries c.self.invariant)

pub returns-then-place-clause-value : goal.returns-then-place-clause-value
returns-then-place-clause-value g c = rw (← c.self.view_is) (c.remove.ensures.value
    ∙ entry_removed g.K.Ord.cmp g.met.K.Ord.total _ _ _ _ c.place_of-place.ensures.belongs
    c.if-place.true)

pub returns-then-place-clause-found : goal.returns-then-place-clause-found
returns-then-place-clause-found g c = rw (← c.self.view_is) (λ q.
    ap (lookup (is_at (g.K.Ord.cmp q))) (c.remove.ensures.value ∙ entry_removed g.K.Ord.cmp g.met.K.Ord.total _ _ _ _ c.place_of-place.ensures.belongs
    c.if-place.true)
    ∙ lookup_removed g.K.Ord.cmp g.met.K.Ord.total c.self.inside.entries c.args.key.now c.self.invariant q)

pub returns-else-place-clause-value : goal.returns-else-place-clause-value
returns-else-place-clause-value g c = rw (← c.self.view_is) (entry_absent g.K.Ord.cmp g.met.K.Ord.total _ _ _ _ c.place_of-place.ensures.belongs
    c.if-place.false c.self.invariant)

pub returns-else-place-clause-found : goal.returns-else-place-clause-found
returns-else-place-clause-found g c = rw (← c.self.view_is) (λ q.
    ap (lookup (is_at (g.K.Ord.cmp q))) (entry_absent g.K.Ord.cmp g.met.K.Ord.total _ _ _ _ c.place_of-place.ensures.belongs
    c.if-place.false c.self.invariant)
    ∙ lookup_removed g.K.Ord.cmp g.met.K.Ord.total c.self.inside.entries c.args.key.now c.self.invariant q)
