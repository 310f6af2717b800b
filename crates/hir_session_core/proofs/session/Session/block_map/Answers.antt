-- It is that in which the module lies to which the steps lead.
use Rattle.std.proofs.Common.{◌∙◌, ap, Option, option_map}
use Rattle.std.specs.Option.{option_and_then}
use Rattle.hir_session_state.specs.HirIds.declared.ids.ModuleId.{ModuleId}
use Rattle.hir_session_state.specs.Kept.{Resolution}
use Rattle.hir_session_state.specs.SessionState.{kept_of}
use Rattle.hir_session_state.specs.Standing.{module_by}
use Rattle.hir_session_core.proofs.session.Session.block_map.Goals as goal

pub returns-in-Some : goal.returns-in-Some
returns-in-Some c = record {
  value = c.map_kept.ensures.value
      ∙ ap (λ (o : Option ModuleId). option_map (λ (r : Resolution). r.map) (option_and_then (λ (m : ModuleId). kept_of c.args.self.now m.map) o))
      (c.in-Some.ensures.value ∙ ap module_by c.standing.ensures.value);
}

pub returns-in-None : goal.returns-in-None
returns-in-None c = record {
  value = ap (λ (o : Option ModuleId). option_map (λ (r : Resolution). r.map) (option_and_then (λ (m : ModuleId). kept_of c.args.self.now m.map) o))
      (c.in-None.ensures.value ∙ ap module_by c.standing.ensures.value);
}
