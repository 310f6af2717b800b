-- At a key that asks for a source the place is taken out there alone, and at one that asks for none nowhere.
use Rattle.std.proofs.Common.{◌∙◌, ap, sym, Bool, ◌&&◌, not}
use Rattle.hir_session_state.specs.Askers.{is_asker}
use Rattle.hir_session_state.proofs.Entering.{leaves_none, one_entry}
use Rattle.hir_session_state.proofs.askers.Askers.leave_at.Goals as goal

pub returns-in-Some : goal.returns-in-Some
returns-in-Some c = record {
  left = λ n k j. c.remove.ensures.left n k j ∙ ap (λ (b : Bool). is_asker c.args.self.now n k j && not b)
      (one_entry c.args.tables.now c.args.key c.in-Some.number c.args.id (sym c.in-Some.ensures.value) n k j);
}

pub returns-in_default : goal.returns-in_default
returns-in_default c = record {
  left = leaves_none c.args.tables.now c.args.self.now c.args.key c.args.id (sym c.asked_number.ensures.value ∙ c.in_default.is);
}
