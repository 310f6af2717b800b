use Rattle.std.proofs.Common.{◌≡◌, ◌++◌, map}
use Rattle.std.specs.List.{flat_map}
use Rattle.hir_session_state.specs.Blocks.{place_of_block}
use Rattle.hir_session_sources.specs.BlockPlaces.{places_of}
use Rattle.hir_session_sources.proofs.BlockLemmas.{roots_of}
use Rattle.hir_session_sources.proofs.blocks.Blocks.places.Given as goal

-- the places so far, and those of the crates that are left, are all
abbrev pub invariant-loop-own : goal.invariant-loop-own
invariant-loop-own l = map (λ p. place_of_block p.now) l.places.items ++ flat_map roots_of l.own-iterator ≡ places_of l.fn.self
