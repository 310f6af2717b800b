use Rattle.std.proofs.Common.{◌≡◌, ◌++◌, map}
use Rattle.hir_session_sources.proofs.blocks.CrateBlocks.add_places.Given as goal

-- the places so far, and those that are left, are all
abbrev pub invariant-loop-block : goal.invariant-loop-block
invariant-loop-block l =
    map (λ p. p.now) l.places.items ++ map (λ b. b.place) l.block-iterator ≡ map (λ p. p.now) l.initial.places.items ++ map (λ e. e.1.place) l.fn.self
