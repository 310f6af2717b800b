-- The table of the crate has none at the steps to the block.
use Rattle.std.proofs.Common.{◌∙◌, ap}
use Rattle.hir_session_state.specs.Blocks.{Blocks, place_of_block, without_block}
use Rattle.hir_session_sources.proofs.BlockLemmas.{in_place-gone, sources-gone}
use Rattle.hir_session_sources.proofs.blocks.Blocks.remove.Goals as goal

pub invariant_of-self : goal.invariant_of-self
invariant_of-self c =
    in_place-gone c.self.inside.by_crate.entries c.remove_of_crate.new.blocks.entries c.krate.result c.as_slice.result.now c.self.invariant
    c.remove_of_crate.ensures.value

pub returns-clause-ok : goal.returns-clause-ok
returns-clause-ok c =
    sources-gone c.self.inside.by_crate.entries c.remove_of_crate.new.blocks.entries c.args.place.now c.krate.result c.as_slice.result.now
    c.krate.ensures.value (c.as_slice.ensures.value ∙ c.in_ok-steps.ensures.value) c.remove_of_crate.ensures.value
    ∙ ap (λ (blocks : Blocks). without_block blocks (place_of_block c.args.place.now)) c.self.view_is
