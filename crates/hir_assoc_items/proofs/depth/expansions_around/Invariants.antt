-- Those that were counted and those around what is reached are all.
use Rattle.std.proofs.Common.{◌≡◌, ◌+◌, ◌<◌, ◌^◌}
use Rattle.hir_assoc_items.specs.Depth.{expansions_around, expansions_within}
use Rattle.hir_assoc_items.proofs.depth.expansions_around.Given as goal

abbrev pub invariant-outwards : goal.invariant-outwards
invariant-outwards l = record {
  all : l.around + expansions_within l.left l.locations l.at l.within ≡ expansions_around l.locations l.fn.file l.fn.block;
  most : l.around + l.left < 2 ^ 64;
}

abbrev pub decreases-outwards : goal.decreases-outwards
decreases-outwards l = l.left
