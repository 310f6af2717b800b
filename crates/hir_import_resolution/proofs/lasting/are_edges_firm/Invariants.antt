use Rattle.std.proofs.Common.{◌≡◌, ℕ, ◌<◌, Some, slice_get}
use Rattle.hir_glob_imports.specs.declared.edge.Edge.{Edge}
use Rattle.hir_import_rules.specs.Lasting.{HasVariants, IsPlaced}
use Rattle.hir_import_resolution.proofs.lasting.are_edges_firm.Given as goal

-- the edges before this one are firm
abbrev pub invariant-loop-edge : goal.invariant-loop-edge
invariant-loop-edge l = record {
  placed : (j : ℕ) → j < l.edge-index → (e : Edge) → slice_get l.edges j ≡ Some e → IsPlaced l.map e.vis;
  enums : (j : ℕ) → j < l.edge-index → (e : Edge) → slice_get l.edges j ≡ Some e → HasVariants l.map e.source;
}
