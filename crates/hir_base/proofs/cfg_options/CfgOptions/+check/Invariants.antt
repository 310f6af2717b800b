use Rattle.std.proofs.Common.{◌≡◌, ◌&&◌, ◌||◌, drop, Some}
use Rattle.hir_base.specs.Cfg.{cfgs_view}
use Rattle.hir_base.specs.CfgOptions.{both, is_set, check_all, check_any}
use Rattle.hir_base.proofs.cfg_options.CfgOptions.+check.Given as goal

abbrev pub invariant-check_all-loop-part : goal.invariant-check_all-loop-part
invariant-check_all-loop-part l =
    both ◌&&◌ (Some l.holds) (check_all (is_set l.self) (cfgs_view (drop l.part-index l.part-items))) ≡ check_all (is_set l.self) (cfgs_view l.part-items)

abbrev pub invariant-check_any-loop-part : goal.invariant-check_any-loop-part
invariant-check_any-loop-part l =
    both ◌||◌ (Some l.holds) (check_any (is_set l.self) (cfgs_view (drop l.part-index l.part-items))) ≡ check_any (is_set l.self) (cfgs_view l.part-items)
