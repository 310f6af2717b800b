-- The blocks that are gone over are those that are stored.
use Rattle.std.proofs.Common.{◌++◌, ◌∙◌, ap, map, List, Bor}
use Rattle.hir_session_state.specs.HirBase.declared.place.BlockPlace.{BlockPlace}
use Rattle.hir_session_sources.specs.BlockTables.{SetBlockValue, SetBlocks}
use Rattle.hir_session_sources.proofs.BlockLemmas.{places_by_steps}
use Rattle.hir_session_sources.proofs.blocks.CrateBlocks.add_places.Goals as goal

pub loop-block-init : goal.loop-block-init
loop-block-init c =
    ap (λ (ps : List BlockPlace). map (λ (p : Bor BlockPlace). p.now) c.args.places.now.items ++ ps)
    (ap (λ (bs : List SetBlockValue). map (λ (b : SetBlockValue). b.place) bs)
    (c.into_iter-block-iterator.ensures.into_iter_gives ∙ c.values-block-items.ensures.rest)
    ∙ places_by_steps c.self.inside.blocks.entries
    ∙ ap (λ (own : SetBlocks). map (λ e. e.1.place) own) c.self.view_is)
