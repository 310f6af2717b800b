use Rattle.std.proofs.Common.{◌≡◌, map}
use Rattle.hir_session_sources.specs.BlockTables.{has_place}
use Rattle.hir_session_sources.proofs.blocks.CrateBlocks.has.Given as goal

-- none of those looked at has the place
abbrev pub invariant-loop-block : goal.invariant-loop-block
invariant-loop-block l = has_place (map (λ b. b.place) l.block-iterator) l.place ≡ has_place (map (λ e. e.1.place) l.fn.self) l.place
