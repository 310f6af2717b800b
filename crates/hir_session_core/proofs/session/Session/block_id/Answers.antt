-- It has the number that is found.
use Rattle.std.proofs.Common.{◌∙◌, ap, Option, Some, None, option_map}
use Rattle.hir_session_state.specs.HirIds.declared.ast_id.BlockId.{BlockId}
use Rattle.hir_session_state.specs.HirIds.declared.ids.Crate.{Crate}
use Rattle.hir_session_state.specs.SessionState.{SessionState}
use Rattle.hir_session_state.specs.Standing.{block_map, block_number}
use Rattle.hir_session_answers.proofs.Walks.{number_found}
use Rattle.hir_session_core.proofs.session.Session.block_id.Goals as goal

pub returns-in-Some : goal.returns-in-Some
returns-in-Some c =
    let b = c.args.block.now in
    let number = number_found c.self.inside.tables b (Some c.in-Some.number) c.in-Some.ensures.value c.in-Some.ensures.once ∙ ap
    (λ (s : SessionState). block_number s.tables b) c.self.view_is in
    record {
      value = ap (λ (k : Crate). Some (block_map k c.in-Some.number)) c.krate.ensures.value
          ∙ ap (λ (o : Option BlockId). option_map (block_map b.holder.krate) o) number;
    }

pub returns-in-None : goal.returns-in-None
returns-in-None c =
    let b = c.args.block.now in
    let number = number_found c.self.inside.tables b None c.in-None.ensures.value c.in-None.ensures.once ∙ ap (λ (s : SessionState). block_number s.tables b)
    c.self.view_is in
    record { value = ap (λ (o : Option BlockId). option_map (block_map b.holder.krate) o) number }
