-- One more edge is firm in each turn.
use Rattle.std.proofs.Common.{◌≡◌, Some, below_more, slice_get, rules, arith}
use Rattle.std.proofs.lemmas.Option.{slice_get_within}
use Rattle.hir_glob_imports.specs.declared.edge.Edge.{Edge}
use Rattle.hir_import_rules.specs.Lasting.{HasVariants, IsPlaced}
use Rattle.hir_import_resolution.proofs.Lists.{got_here}
use Rattle.hir_import_resolution.proofs.lasting.are_edges_firm.Goals as goal

pub returns-clause-placed : goal.returns-clause-placed
returns-clause-placed c =
    λ yes j e is. let low = slice_get_within c.args.edges.now j e is in let over = c.loop-edge-test.false in c.loop-edge.invariant.placed j
    (omega (arith, low, over)) e is

pub returns-clause-enums : goal.returns-clause-enums
returns-clause-enums c =
    λ yes j e is. let low = slice_get_within c.args.edges.now j e is in let over = c.loop-edge-test.false in c.loop-edge.invariant.enums j
    (omega (arith, low, over)) e is

pub loop-edge-preserved : goal.loop-edge-preserved
loop-edge-preserved c = record {
  placed =
      below_more (λ k. (e : Edge) → slice_get c.args.edges.now k ≡ Some e → IsPlaced c.args.map.now e.vis) c.loop-edge.edge-index c.loop-edge.invariant.placed
      (λ e is. got_here (λ (x : Edge). IsPlaced c.args.map.now x.vis) c.args.edges.now c.loop-edge.edge-index _ e c.loop-edge-test.true is
      (c.is_edge_firm.ensures.placed (search rules)));
  enums =
      below_more (λ k. (e : Edge) → slice_get c.args.edges.now k ≡ Some e → HasVariants c.args.map.now e.source) c.loop-edge.edge-index
      c.loop-edge.invariant.enums
      (λ e is. got_here (λ (x : Edge). HasVariants c.args.map.now x.source) c.args.edges.now c.loop-edge.edge-index _ e c.loop-edge-test.true is
      (c.is_edge_firm.ensures.enums (search rules)));
}
