-- What stands at the number of the source loses the place at one of its keys.
use Rattle.std.proofs.Common.{◌∙◌, ap, ℕ, ◌&&◌, not, nat_eq}
use Rattle.hir_session_state.specs.Askers.{is_asker}
use Rattle.hir_session_state.specs.NumberCodes.{number_code}
use Rattle.hir_session_state.proofs.Entering.{is_id, is_key}
use Rattle.hir_session_state.proofs.askers.Askers.remove.Goals as goal

pub returns : goal.returns
returns c = record {
  left = λ n k j.
      c.remove_at.ensures.left (number_code n) k j
      ∙ ap (λ (at : ℕ). is_asker c.args.self.now n k j && not (nat_eq at (number_code n) && (is_key c.args.key k && is_id c.args.id j)))
      c.code.ensures.value;
}
