-- All that was lowered is put in place.
use Rattle.std.proofs.Common.{◌≡◌, ◌∙◌, ap, arith, length, List, rules, subst, sym}
use Rattle.std.proofs.lemmas.List.{nil_from_length}
use Rattle.std.specs.Vec.Iter.{into_iter_items}
use Rattle.hir_session_sources.specs.LoweredTrees.{AreLowered}
use Rattle.hir_session_sources.specs.declared.source_trees.lowering.LoweredTree.{LoweredTree}
use Rattle.hir_session_sources.proofs.Lowering.{IsReplacing, replacing-end, replacing-more, replacing-start}
use Rattle.hir_session_sources.proofs.source_trees.SourceTrees.replace_lowered.Goals as goal

pub loop-tree-init : goal.loop-tree-init
loop-tree-init c = record {
  replacing = λ krate t are. replacing-start krate t c.args.krate c.args.self.now (into_iter_items c.into_iter-tree-iterator.result) are;
  counted = search rules;
}

pub loop-tree-preserved : goal.loop-tree-preserved
loop-tree-preserved c = record {
  replacing = λ krate t are. replacing-more krate t c.args.krate c.args.self.now c.in-Some.tree (into_iter_items c.next.new.self) c.loop-tree.self
      c.put.new.trees (subst (λ (ls : List LoweredTree). IsReplacing krate t c.args.krate c.args.self.now ls c.loop-tree.self) c.in-Some.ensures.steps.0
      (c.loop-tree.invariant.replacing krate t are)) c.put.ensures.value;
  counted = omega (arith, c.loop-tree.invariant.counted, ap length c.in-Some.ensures.steps.0, c.in-Some.ensures.steps.1);
}

pub returns : goal.returns
returns c =
    let given : into_iter_items c.into_iter-tree-iterator.result ≡ c.args.lowered.items = c.into_iter-tree-iterator.ensures.into_iter_gives.0 in
    record {
      anew = λ krate t are. replacing-end krate t c.args.krate c.args.self.now c.loop-tree.self
          (subst (λ (ls : List LoweredTree). IsReplacing krate t c.args.krate c.args.self.now ls c.loop-tree.self)
          (nil_from_length (into_iter_items c.loop-tree.tree-iterator) (sym c.loop-tree.invariant.counted ∙ c.in-None.ensures.steps.0))
          (c.loop-tree.invariant.replacing krate t
          (subst (λ (ls : List LoweredTree). AreLowered krate t c.args.krate c.args.self.now ls) (sym given) are)));
    }
