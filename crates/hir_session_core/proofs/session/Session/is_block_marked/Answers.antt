-- It has no number, or nothing stands under the number that it has.
use Rattle.std.proofs.Common.{◌∙◌, ap, Option, Some, None}
use Rattle.std.specs.Prelude.{is_none}
use Rattle.std.specs.Option.{option_and_then}
use Rattle.hir_session_state.specs.HirIds.declared.ast_id.BlockId.{BlockId}
use Rattle.hir_session_state.specs.HirIds.declared.ids.Crate.{Crate}
use Rattle.hir_session_state.specs.Kept.{kept_in}
use Rattle.hir_session_state.specs.SessionState.{SessionState, is_marked}
use Rattle.hir_session_state.specs.Standing.{block_map, block_number}
use Rattle.hir_session_answers.proofs.Walks.{number_found}
use Rattle.hir_session_core.proofs.session.Session.is_block_marked.Goals as goal

pub returns-in-Some : goal.returns-in-Some
returns-in-Some c =
    let b = c.args.block.now in
    let number = number_found c.self.inside.tables b (Some c.in-Some.number) c.in-Some.ensures.value c.in-Some.ensures.once ∙ ap
    (λ (s : SessionState). block_number s.tables b) c.self.view_is in
    record {
      value = c.is_marked.ensures.value
          ∙ ap (λ (k : Crate). is_marked c.args.self.now (block_map k c.in-Some.number)) c.krate.ensures.value
          ∙ ap (λ (o : Option BlockId). is_none (option_and_then (λ (n : BlockId). kept_in c.args.self.now.kept (block_map b.holder.krate n)) o)) number;
    }

pub returns-in-None : goal.returns-in-None
returns-in-None c =
    let b = c.args.block.now in
    let number = number_found c.self.inside.tables b None c.in-None.ensures.value c.in-None.ensures.once ∙ ap (λ (s : SessionState). block_number s.tables b)
    c.self.view_is in
    record {
      value = ap (λ (o : Option BlockId). is_none (option_and_then (λ (n : BlockId). kept_in c.args.self.now.kept (block_map b.holder.krate n)) o)) number;
    }
