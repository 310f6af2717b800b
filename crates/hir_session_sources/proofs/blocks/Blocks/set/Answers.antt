-- The table of the crate has the block, at the steps to it.
use Rattle.std.proofs.Common.{◌∙◌, ap}
use Rattle.hir_session_state.specs.HirItemTree.Source.{source_view}
use Rattle.hir_session_state.specs.Blocks.{Blocks, place_of_block, with_block}
use Rattle.hir_session_sources.proofs.BlockLemmas.{in_place-new, sources-new}
use Rattle.hir_session_sources.proofs.blocks.Blocks.set.Goals as goal

pub invariant_of-self-2 : goal.invariant_of-self-2
invariant_of-self-2 c =
    in_place-new c.self.inside.by_crate.entries c.set_of_crate.new.blocks.entries c.args.place (source_view c.args.source) c.krate-krate.result
    c.in_ok-steps.steps.items c.self.invariant
    c.krate-krate.ensures.value c.in_ok-steps.ensures.value c.in_ok-set_of_crate.ensures.ok

pub returns-clause-ok : goal.returns-clause-ok
returns-clause-ok c =
    sources-new c.self.inside.by_crate.entries c.set_of_crate.new.blocks.entries c.args.place (source_view c.args.source) c.krate-krate.result
    c.in_ok-steps.steps.items
    c.krate-krate.ensures.value c.in_ok-steps.ensures.value c.in_ok-set_of_crate.ensures.ok
    ∙ ap (λ (blocks : Blocks). with_block blocks (place_of_block c.args.place) (source_view c.args.source)) c.self.view_is
