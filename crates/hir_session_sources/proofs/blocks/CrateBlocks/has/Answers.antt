-- The blocks that are gone over are those that are stored.
use Rattle.std.proofs.Common.{◌≡◌, ◌∙◌, ap, sym, map, true, false, List}
use Rattle.hir_session_state.specs.HirBase.contracts.place.BlockPlacePartialEq.TheImpl as block_eq
use Rattle.hir_session_state.specs.HirBase.declared.place.BlockPlace.{BlockPlace}
use Rattle.hir_session_sources.specs.BlockTables.{SetBlockValue, SetBlocks, has_place}
use Rattle.hir_session_sources.proofs.BlockLemmas.{has_first, has_later, places_by_steps}
use Rattle.hir_session_sources.proofs.blocks.CrateBlocks.has.Goals as goal

pub loop-block-init : goal.loop-block-init
loop-block-init c =
    ap (λ (ps : List BlockPlace). has_place ps c.args.place.now)
    (ap (λ (bs : List SetBlockValue). map (λ (b : SetBlockValue). b.place) bs)
    (c.into_iter-block-iterator.ensures.into_iter_gives ∙ c.values-block-items.ensures.rest)
    ∙ places_by_steps c.self.inside.blocks.entries
    ∙ ap (λ (own : SetBlocks). map (λ e. e.1.place) own) c.self.view_is)

pub loop-block-preserved : goal.loop-block-preserved
loop-block-preserved c =
    let off : block_eq.ghosts.eq c.in-Some.block.now.place c.args.place.now ≡ false =
    ap (λ (p : BlockPlace). block_eq.ghosts.eq p c.args.place.now) (sym c.place.ensures.value) ∙ sym c.eq.ensures ∙ c.if-eq.false in
    sym (has_later c.args.place.now c.in-Some.block.now c.loop-block.block-iterator c.next.new.self c.in-Some.ensures.steps off) ∙ c.loop-block.invariant

pub returns-then-eq : goal.returns-then-eq
returns-then-eq c =
    let on : block_eq.ghosts.eq c.in-Some.block.now.place c.args.place.now ≡ true =
    ap (λ (p : BlockPlace). block_eq.ghosts.eq p c.args.place.now) (sym c.place.ensures.value) ∙ sym c.eq.ensures ∙ c.if-eq.true in
    record {
      value = sym (has_first c.args.place.now c.in-Some.block.now c.loop-block.block-iterator c.next.new.self c.in-Some.ensures.steps on)
          ∙ c.loop-block.invariant;
    }

pub returns : goal.returns
returns c = record {
  value = ap (λ (bs : List SetBlockValue). has_place (map (λ (b : SetBlockValue). b.place) bs) c.args.place.now) (sym c.in-None.ensures.steps.0)
      ∙ c.loop-block.invariant;
}
