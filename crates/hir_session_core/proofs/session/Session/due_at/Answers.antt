-- A block that isn't set isn't due.
use Rattle.std.proofs.Common.{◌≡◌, ◌∙◌, ap, sym, subst, true}
use Rattle.hir_session_state.specs.HirBase.declared.place.BlockPlace.{BlockPlace}
use Rattle.hir_session_state.specs.Blocks.{Blocks, place_of_block}
use Rattle.hir_session_state.specs.Due.{IsDueBlock}
use Rattle.hir_session_state.specs.SessionState.{SessionState, module_of, IsSound}
use Rattle.hir_session_state.specs.SourceTable.{SourceTable}
use Rattle.hir_session_state.specs.Standing.{is_set}
use Rattle.hir_session_state.proofs.Truth.{clash}
use Rattle.hir_session_sources.specs.BlockTables.{steps_in}
use Rattle.hir_session_sources.proofs.BlockLemmas.{same_root}
use Rattle.hir_session_core.proofs.Pending.{found_none, found_set, on_both, on_some}
use Rattle.hir_session_core.proofs.session.Session.due_at.Goals as goal

pub due_block-requires : goal.due_block-requires
due_block-requires c =
    let same = c.blocks-blocks.ensures.value ∙ ap (λ (t : SourceTable). t.blocks) c.sources.ensures.value ∙ ap (λ (s : SessionState). s.sources.blocks)
    c.self.view_is in
    record {
      set = subst (λ (bs : Blocks). is_set bs c.in-Some.place.now ≡ true) same
          (found_set c.blocks-blocks.result.now c.in-Some.place.now (steps_in c.krate.result c.elements.result.now) c.in-Some.ensures.value).0;
    }

pub returns-in-Some : goal.returns-in-Some
returns-in-Some c =
    let root : place_of_block c.in-Some.place.now ≡ c.args.root.now =
    (found_set c.blocks-blocks.result.now c.in-Some.place.now (steps_in c.krate.result c.elements.result.now) c.in-Some.ensures.value).1
    ∙ (λ i. steps_in (c.krate.ensures.value i) (c.elements.ensures.value i)) in
    record {
      sound = subst (λ (s : SessionState). IsSound s) c.self.view_is c.self.invariant.0;
      place = on_some c.due_block.result (λ due same. ap place_of_block same ∙ root) c.due_block.ensures.place;
      due =
          on_both c.due_block.result c.due_block.ensures.place c.due_block.ensures.due (λ due same is. subst (λ (b : BlockPlace). IsDueBlock c.args.self.now b)
          (sym same) is);
      held =
          on_both c.due_block.result c.due_block.ensures.place c.due_block.ensures.held
          (λ due same is. ap (λ (b : BlockPlace). module_of c.args.self.now b.holder) same ∙ is);
      none =
          λ is b of due. c.due_block.ensures.none is (subst (λ (x : BlockPlace). IsDueBlock c.args.self.now x) (same_root b c.in-Some.place.now (of ∙ sym root))
          due);
    }

pub returns-in-None : goal.returns-in-None
returns-in-None c =
    let same = c.blocks-blocks.ensures.value ∙ ap (λ (t : SourceTable). t.blocks) c.sources.ensures.value ∙ ap (λ (s : SessionState). s.sources.blocks)
    c.self.view_is in
    record {
      sound = subst (λ (s : SessionState). IsSound s) c.self.view_is c.self.invariant.0;
      place = tt;
      due = tt;
      held = tt;
      none = λ is b of due. clash due.set (ap (λ (bs : Blocks). is_set bs b) (sym same)
          ∙ found_none c.blocks-blocks.result.now (steps_in c.krate.result c.elements.result.now) c.in-None.ensures.value b
          (of ∙ sym (λ i. steps_in (c.krate.ensures.value i) (c.elements.ensures.value i))));
    }
