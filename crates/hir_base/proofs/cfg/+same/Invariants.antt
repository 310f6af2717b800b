use Rattle.std.proofs.Common.{◌≡◌, ◌↔◌, drop}
use Rattle.std.specs.Prelude.{vec_len}
use Rattle.hir_base.specs.Cfg.{cfgs_view}
use Rattle.hir_base.proofs.cfg.+same.Given as goal

abbrev pub invariant-same_all-loop-part : goal.invariant-same_all-loop-part
invariant-same_all-loop-part l = (l.i ≡ l.part-index) × (vec_len l.parts ≡ vec_len l.others)
    × ((cfgs_view (drop l.part-index l.part-items) ≡ cfgs_view (drop l.part-index l.others.items)) ↔ (cfgs_view l.part-items ≡ cfgs_view l.others.items))
