use Rattle.std.proofs.Common.{◌∙◌, ap, sym, subst, List}
use Rattle.std.specs.BTreeMap.{is_at}
use Rattle.std.specs.List.Sorted.{IsStrictlySortedBy}
use Rattle.std.specs.Map.{keys_of, lookup}
use Rattle.hir_scope_table.proofs.GapMaps.{entry_put, entry_set, lookup_put, sorted_put}
use Rattle.hir_scope_table.proofs.Slots.{insert-sorted}
use Rattle.hir_scope_table.proofs.gap_map.GapMap.insert.Goals as goal

pub invariant_of-self : goal.invariant_of-self
invariant_of-self g c =
    subst (λ (es : List (g.row.K.Denot × g.row.V.Denot)). IsStrictlySortedBy g.K.Ord.cmp (keys_of es))
    (sym (entry_set g.K.Ord.cmp g.met.K.Ord.total _ _ _ _ c.place_of-place.ensures.belongs
    c.if-place.true c.args.value c.set_second.new.self c.set_second.ensures.value))
    (insert-sorted g.K.Ord.cmp g.met.K.Ord.total c.self.inside.entries c.args.key c.args.value c.self.invariant)

pub returns-then-place-clause-ok : goal.returns-then-place-clause-ok
returns-then-place-clause-ok g c = rw (← c.self.view_is) (entry_set g.K.Ord.cmp g.met.K.Ord.total _ _ _ _ c.place_of-place.ensures.belongs
    c.if-place.true c.args.value c.set_second.new.self c.set_second.ensures.value)

pub returns-then-place-clause-found : goal.returns-then-place-clause-found
returns-then-place-clause-found g c = rw (← c.self.view_is) (λ q. ap (lookup (is_at (g.K.Ord.cmp q)))
    (entry_set g.K.Ord.cmp g.met.K.Ord.total _ _ _ _ c.place_of-place.ensures.belongs
    c.if-place.true c.args.value c.set_second.new.self c.set_second.ensures.value)
    ∙ lookup_put g.K.Ord.cmp g.met.K.Ord.total c.self.inside.entries c.args.key c.args.value c.self.invariant q)

pub invariant_of-self-else-place : goal.invariant_of-self-else-place
invariant_of-self-else-place g c =
    sorted_put g.K.Ord.cmp g.met.K.Ord.total _ _ _ _ c.place_of-place.ensures.belongs
    c.insert.result c.if-place.false c.self.invariant c.args.value c.insert.new.self c.insert.ensures.ok c.insert.ensures.err

pub returns-in_ok-insert-clause-ok : goal.returns-in_ok-insert-clause-ok
returns-in_ok-insert-clause-ok g c = rw (← c.self.view_is) (entry_put g.K.Ord.cmp g.met.K.Ord.total _ _ _ _ c.place_of-place.ensures.belongs
    c.if-place.false c.args.value c.insert.new.self c.in_ok-insert.ensures.ok)

pub returns-in_ok-insert-clause-found : goal.returns-in_ok-insert-clause-found
returns-in_ok-insert-clause-found g c = rw (← c.self.view_is) (λ q. ap (lookup (is_at (g.K.Ord.cmp q)))
    (entry_put g.K.Ord.cmp g.met.K.Ord.total _ _ _ _ c.place_of-place.ensures.belongs
    c.if-place.false c.args.value c.insert.new.self c.in_ok-insert.ensures.ok)
    ∙ lookup_put g.K.Ord.cmp g.met.K.Ord.total c.self.inside.entries c.args.key c.args.value c.self.invariant q)
