-- The block is found by its root.
use Rattle.std.specs.Prelude.{is_none}
use Rattle.std.proofs.Common.{◌≡◌, ◌∙◌, ap, refl, subst, sym, true, Option}
use Rattle.hir_session_state.specs.HirBase.declared.place.BlockPlace.{BlockPlace}
use Rattle.hir_session_state.specs.Blocks.{Blocks, place_of_block}
use Rattle.hir_session_state.specs.SessionState.{SessionState, Resolution, block_kept}
use Rattle.hir_session_state.specs.SourceTable.{SourceTable}
use Rattle.hir_session_state.specs.Standing.{is_set}
use Rattle.hir_session_state.proofs.Truth.{clash}
use Rattle.hir_session_sources.specs.BlockTables.{steps_in}
use Rattle.hir_session_sources.proofs.BlockLemmas.{same_root}
use Rattle.hir_session_core.proofs.Pending.{found_none, found_set, marked_none}
use Rattle.hir_session_core.proofs.session.Session.is_pending.Goals as goal

pub returns-in-Some : goal.returns-in-Some
returns-in-Some c =
    let same = c.blocks-blocks.ensures.value ∙ ap (λ (t : SourceTable). t.blocks) c.sources.ensures.value ∙ ap (λ (s : SessionState). s.sources.blocks)
    c.self.view_is in
    let found =
    found_set c.blocks-blocks.result.now c.in-Some.block.now (steps_in c.krate.result c.elements.result.now) c.in-Some.ensures.value in
    let root : place_of_block c.in-Some.block.now ≡ c.args.root.now =
    found.1 ∙ (λ i. steps_in (c.krate.ensures.value i) (c.elements.ensures.value i)) in
    record {
      on = λ is. record {
        block = c.in-Some.block.now;
        is = root;
        set = subst (λ (bs : Blocks). is_set bs c.in-Some.block.now ≡ true) same found.0;
        marked = marked_none (block_kept c.args.self.now c.in-Some.block.now) (sym c.is_block_marked.ensures.value ∙ is);
      };
      off = λ is p.
          let itself : p.block ≡ c.in-Some.block.now = same_root p.block c.in-Some.block.now (p.is ∙ sym root) in
          clash (ap (λ (b : BlockPlace). is_none (block_kept c.args.self.now b)) (sym itself) ∙ ap (λ (o : Option Resolution). is_none o) p.marked)
          (sym c.is_block_marked.ensures.value ∙ is);
    }

pub returns-in-None : goal.returns-in-None
returns-in-None c =
    let same = c.blocks-blocks.ensures.value ∙ ap (λ (t : SourceTable). t.blocks) c.sources.ensures.value ∙ ap (λ (s : SessionState). s.sources.blocks)
    c.self.view_is in
    record {
      on = λ is. clash is refl;
      off = λ is p. clash p.set (ap (λ (bs : Blocks). is_set bs p.block) (sym same)
          ∙ found_none c.blocks-blocks.result.now (steps_in c.krate.result c.elements.result.now) c.in-None.ensures.value p.block
          (p.is ∙ sym (λ i. steps_in (c.krate.ensures.value i) (c.elements.ensures.value i))));
    }
