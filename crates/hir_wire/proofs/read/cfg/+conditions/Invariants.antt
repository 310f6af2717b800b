use Rattle.std.proofs.Common.{drop}
use Rattle.hir_wire.specs.Values.{items_view}
use Rattle.hir_base.specs.Cfg.{cfg_view}
use Rattle.hir_wire.specs.Inner.Parts.{read_so_far}
use Rattle.hir_wire.specs.Conditions.{each_cfg_of}
use Rattle.hir_wire.proofs.ReadingLemmas.{Follows}
use Rattle.hir_wire.proofs.read.cfg.+conditions.Given as goal

-- the conditions so far, and those of what is left, are the conditions of all
abbrev pub invariant-read_cfg_items-loop-item : goal.invariant-read_cfg_items-loop-item
invariant-read_cfg_items-loop-item l =
    Follows cfg_view (each_cfg_of (items_view l.item-items)) (each_cfg_of (items_view (drop l.item-index l.item-items))) (read_so_far l.parts)
