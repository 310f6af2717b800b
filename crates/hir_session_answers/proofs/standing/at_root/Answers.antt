-- What is kept of a block is found by its number.
use Rattle.std.proofs.Common.{◌∙◌, ap, None, Some, refl}
use Rattle.hir_session_state.specs.HirIds.declared.ids.Crate.{Crate}
use Rattle.hir_session_state.specs.HirIds.declared.ids.MapId.{MapId}
use Rattle.hir_session_state.specs.Kept.{kept_in}
use Rattle.hir_session_state.specs.Standing.{Standing as way}
use Rattle.hir_session_answers.proofs.Walks.{root_found}
use Rattle.hir_session_answers.proofs.standing.at_root.Goals as goal

pub returns-in_default : goal.returns-in_default
returns-in_default c = record {
  value = root_found c.args.tables.now c.args.kept.now c.args.place.now None c.in_default.ensures.value c.in_default.ensures.once None refl;
}

pub returns-in-Some-get : goal.returns-in-Some-get
returns-in-Some-get c = record {
  value =
      ap way.at c.root.ensures.value ∙ root_found c.args.tables.now c.args.kept.now c.args.place.now (Some c.in-Some.number) c.in-Some.ensures.value
      c.in-Some.ensures.once _
      (c.in-Some-get.ensures.value ∙ ap (λ (k : Crate). let id : MapId = record { krate = k; block = Some c.in-Some.number } in kept_in c.args.kept.now id)
      c.krate.ensures.value);
}

pub returns-in-None : goal.returns-in-None
returns-in-None c = record {
  value = root_found c.args.tables.now c.args.kept.now c.args.place.now (Some c.in-Some.number) c.in-Some.ensures.value c.in-Some.ensures.once None
      (c.in-None.ensures.value ∙ ap (λ (k : Crate). let id : MapId = record { krate = k; block = Some c.in-Some.number } in kept_in c.args.kept.now id)
      c.krate.ensures.value);
}
