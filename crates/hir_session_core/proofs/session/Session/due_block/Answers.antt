-- The steps to its holding place lead to a module, or they don't.
use Rattle.std.proofs.Common.{◌∙◌, ap, sym, Some}
use Rattle.hir_session_state.specs.HirIds.declared.ids.ModuleId.{ModuleId}
use Rattle.hir_session_state.specs.Standing.{module_by}
use Rattle.hir_session_state.proofs.Truth.{no_value}
use Rattle.hir_session_core.proofs.Pending.{on_some}
use Rattle.hir_session_core.proofs.session.Session.due_block.Goals as goal

pub due_in-requires-clause-set : goal.due_in-requires-clause-set
due_in-requires-clause-set c = c.requires.set

pub due_in-requires-clause-held : goal.due_in-requires-clause-held
due_in-requires-clause-held c = sym (c.in-Some.ensures.value ∙ ap module_by c.standing.ensures.value)

pub returns-in-Some : goal.returns-in-Some
returns-in-Some c = record {
  place = c.due_in.ensures.place;
  due = c.due_in.ensures.due;
  held = on_some c.due_in.result
      (λ due same. sym (c.in-Some.ensures.value ∙ ap module_by c.standing.ensures.value) ∙ ap (λ (m : ModuleId). Some m) (sym same))
      c.due_in.ensures.holder;
  none = c.due_in.ensures.none;
}

pub returns-in-None : goal.returns-in-None
returns-in-None c = record {
  place = tt;
  due = tt;
  held = tt;
  none = λ is due. no_value (c.in-None.ensures.value ∙ ap module_by c.standing.ensures.value ∙ due.held);
}
