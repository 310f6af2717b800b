use Rattle.std.proofs.Common.{◌↔◌, ◌≤◌, drop}
use Rattle.hir_base.specs.Cfg.{cfgs_view}
use Rattle.hir_item_tree.specs.Limits.{cfgs_depth}
use Rattle.hir_item_tree.proofs.check.nesting.+cfgs.Given as goal

-- all fit exactly where those that are left do
abbrev pub invariant-fit_cfgs-loop-cfg : goal.invariant-fit_cfgs-loop-cfg
invariant-fit_cfgs-loop-cfg l =
    (cfgs_depth (cfgs_view (drop l.cfg-index l.cfg-items)) ≤ l.left) ↔ (cfgs_depth (cfgs_view l.cfg-items) ≤ l.left)
