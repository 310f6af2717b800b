-- The crates that are gone over are those that have a table.
use Rattle.std.proofs.Common.{◌∙◌, ◌++◌, ap, List, Bor}
use Rattle.std.specs.List.{flat_map}
use Rattle.hir_session_state.specs.HirBase.declared.place.BlockPlace.{BlockPlace}
use Rattle.hir_session_state.specs.Blocks.{Blocks}
use Rattle.hir_session_sources.specs.BlockPlaces.{places_of}
use Rattle.hir_session_sources.proofs.BlockLemmas.{all_roots, roots_lent, roots_of, roots_turn}
use Rattle.hir_session_sources.proofs.blocks.Blocks.places.Goals as goal

pub loop-own-init : goal.loop-own-init
loop-own-init c =
    ap (λ (ps : List (Bor BlockPlace)). roots_lent ps ++ flat_map roots_of c.into_iter-own-iterator.result) c.new-places.ensures.items
    ∙ ap (flat_map roots_of) (c.into_iter-own-iterator.ensures.into_iter_gives ∙ c.values-own-items.ensures.rest)
    ∙ all_roots c.self.inside.by_crate.entries c.self.invariant
    ∙ ap (λ (blocks : Blocks). places_of blocks) c.self.view_is

pub loop-own-preserved : goal.loop-own-preserved
loop-own-preserved c =
    roots_turn c.loop-own.places.items c.add_places.new.places.items c.in-Some.own.now c.loop-own.own-iterator c.next.new.self (places_of c.args.self.now)
    c.in-Some.ensures.steps c.in_ok-add_places.ensures.ok c.loop-own.invariant
