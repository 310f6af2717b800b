-- What stands at the number of the source gains the place at one of its keys.
use Rattle.std.proofs.Common.{◌∙◌, ap, ℕ, ◌&&◌, ◌||◌, nat_eq}
use Rattle.hir_session_state.specs.Askers.{is_asker}
use Rattle.hir_session_state.specs.NumberCodes.{number_code}
use Rattle.hir_session_state.proofs.Entering.{is_id, is_key}
use Rattle.hir_session_state.proofs.Truth.{where_ok}
use Rattle.hir_session_state.proofs.askers.Askers.add.Goals as goal

pub returns-clause-ok : goal.returns-clause-ok
returns-clause-ok c = where_ok c.add_at.result c.add_at.ensures.ok (λ added n k j.
    added (number_code n) k j
    ∙ ap (λ (at : ℕ). is_asker c.args.self.now n k j || (nat_eq at (number_code n) && (is_key c.args.key k && is_id c.args.id j))) c.code.ensures.value)
