-- The next source is lowered, if something is kept of it.
use Rattle.std.proofs.Common.{◌≡◌, ◌+◌, ◌∷◌, List, drop, map, subst, sym, Contains}
use Rattle.std.proofs.lemmas.List.{drop_all}
use Rattle.hir_session_state.specs.HirTables.SourcePlaces.{SourcePlaceValue, source_value}
use Rattle.hir_session_state.specs.HirTables.declared.source_place.SourcePlace.{SourcePlace}
use Rattle.hir_session_sources.specs.declared.source_trees.lowering.LoweredTree.{LoweredTree}
use Rattle.hir_session_sources.proofs.Lowering.{IsLowering, drop_next, lowering-end, lowering-more, lowering-start}
use Rattle.hir_session_sources.proofs.source_trees.SourceTrees.lowered.Goals as goal

pub loop-place-init : goal.loop-place-init
loop-place-init c =
    let places : List SourcePlaceValue = map source_value c.deref-place-items.result.now in
    subst (λ (ls : List LoweredTree). IsLowering c.args.info.now c.args.table.now c.args.krate c.args.self.now places ls) (sym c.new-lowered.ensures.items)
    (lowering-start c.args.info.now c.args.table.now c.args.krate c.args.self.now places
    (λ p there. subst (λ (ps : List SourcePlace). Contains (map source_value ps) p) (sym c.deref-place-items.ensures.value)
    (c.in_ok-places.ensures.all p there)))

pub loop-place-preserved : goal.loop-place-preserved
loop-place-preserved c =
    let items : List SourcePlace = c.deref-place-items.result.now in
    let k = c.loop-place.place-index in
    let next : drop k items ≡ c.place-item.result ∷ drop (k + 1) items = drop_next k items c.place-item.result c.place-item.result c.loop-place-test.true
    c.place-item.is in
    lowering-more c.args.info.now c.args.table.now c.args.krate c.args.self.now (source_value c.place-item.result) (map source_value (drop (k + 1) items))
    c.loop-place.lowered.items c.lower.new.lowered.items c.in_ok-lower.ensures.ok
    (subst (λ (ps : List SourcePlace). IsLowering c.args.info.now c.args.table.now c.args.krate c.args.self.now (map source_value ps)
    c.loop-place.lowered.items) next c.loop-place.invariant)

pub returns : goal.returns
returns c = record {
  lowered = lowering-end c.args.info.now c.args.table.now c.args.krate c.args.self.now c.loop-place.lowered.items
      (subst (λ (ps : List SourcePlace). IsLowering c.args.info.now c.args.table.now c.args.krate c.args.self.now (map source_value ps)
      c.loop-place.lowered.items) (drop_all c.loop-place.place-index c.deref-place-items.result.now c.loop-place-test.false) c.loop-place.invariant);
}
