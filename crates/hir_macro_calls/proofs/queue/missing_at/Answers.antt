-- Nothing is missing where no macro was seen; else it goes by the macro that the call reaches.
use Rattle.std.proofs.Common.{◌≡◌, ◌∙◌, ◌==◌, true, length, ap, sym}
use Rattle.hir_collector_state.specs.HirNameres.WorldParts.{part_of}
use Rattle.hir_collector_state.specs.HirCollectorRules.State.{core_in, eager_at}
use Rattle.hir_macro_calls.specs.Due.{missing_by}
use Rattle.hir_macro_calls.proofs.Watching.{none_seen}
use Rattle.hir_macro_calls.proofs.queue.missing_at.Goals as goal

pub returns-then-is_empty : goal.returns-then-is_empty
returns-then-is_empty c =
    let core = core_in c.args.run.now in
    let none : true ≡ (length (eager_at core c.args.i) == 0) =
    sym c.if-is_empty.true ∙ c.is_empty.ensures ∙ ap (λ es. length es == 0) c.eager_at.ensures.value in
    record { value = sym (none_seen (part_of c.args.world) core c.args.i c.args.call.now none) }

pub returns-in-Some : goal.returns-in-Some
returns-in-Some c = record {
  value =
      c.missing_path.ensures.value
      ∙ ap (missing_by (part_of c.args.world) (core_in c.args.run.now) c.args.i c.args.call.now) (sym c.in-Some.is ∙ c.called_macro.ensures.value);
}

pub returns-in-None : goal.returns-in-None
returns-in-None c = record {
  value = ap (missing_by (part_of c.args.world) (core_in c.args.run.now) c.args.i c.args.call.now) (sym c.in-None.is ∙ c.called_macro.ensures.value);
}
