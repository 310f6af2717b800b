use Rattle.std.proofs.Common.{◌≡◌, take, map}
use Rattle.hir_base.specs.Cfg.{cfg_view}
use Rattle.hir_base.proofs.cfg.+clone.Given as goal

abbrev pub invariant-clone_all-loop-part : goal.invariant-clone_all-loop-part
invariant-clone_all-loop-part l = map cfg_view l.copies.items ≡ map cfg_view (take l.part-index l.part-items)
