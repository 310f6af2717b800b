-- An attribute that is inert by now, and what reaches a macro without an expansion.
use Rattle.std.proofs.Common.{◌≡◌, ◌∙◌, true, Option, None, Some, is_some, option_map, refl, subst, sym, rules}
use Rattle.std.specs.Prelude.{IsSome}
use Rattle.hir_collector_state.specs.HirBase.ModPath.{Path}
use Rattle.hir_collector_state.specs.HirNameres.WorldParts.{part_of}
use Rattle.hir_collector_state.specs.HirCollectorRules.Calls.{asked_before, called_macro, first_missing, is_inert_now}
use Rattle.hir_collector_state.specs.HirCollectorRules.CallMoves.{FindsBuiltin}
use Rattle.hir_collector_state.specs.HirCollectorRules.State.{core_in, eager_at}
use Rattle.hir_collector_state.specs.HirCollectorRules.Steps.{by_helper}
use Rattle.hir_macro_calls.proofs.GivingUp.{due_builtin, inert_item}
use Rattle.hir_macro_calls.proofs.Watching.{lacks_missing}
use Rattle.hir_macro_calls.proofs.due.due_of.Goals as goal

pub returns-then-is_inert_now-clause-value : goal.returns-then-is_inert_now-clause-value
returns-then-is_inert_now-clause-value c =
    let inert : is_inert_now (core_in c.args.run.now).map c.args.call.now ≡ true = sym c.is_inert_now.ensures.value ∙ c.if-is_inert_now.true in
    let k = inert_item (core_in c.args.run.now).map c.args.call.now.ast_id c.args.call.now.kind inert in
    (k.0, k.1, by_helper inert)

pub returns-then-not-has_expansion-clause-value : goal.returns-then-not-has_expansion-clause-value
returns-then-not-has_expansion-clause-value c =
    let finds : FindsBuiltin (part_of c.args.world) (core_in c.args.run.now) c.args.call.now c.in-Some.makro =
    record { reaches = sym c.called_macro.ensures.value ∙ c.in-Some.is; builtin = sym c.has_expansion.ensures.value ∙ c.if-not-has_expansion.true } in
    due_builtin (part_of c.args.world) (core_in c.args.run.now) c.args.i c.args.call.now c.in-Some.makro c.due_of_builtin.result finds c.due_of_builtin.ensures.derives
    c.due_of_builtin.ensures.skips

mapped : {A B : Type 0} (f : A → B) (o : Option A) → is_some o ≡ true → IsSome (option_map f o)
mapped f None h = h
mapped f (Some a) h = refl

-- a path is missing that its macro was seen to ask for
pub returns-then-is_some-clause-value : goal.returns-then-is_some-clause-value
returns-then-is_some-clause-value c =
    let part = part_of c.args.world in
    let core = core_in c.args.run.now in
    let d = c.args.call.now in
    let makro = c.in-Some.makro in
    let called : called_macro part core.local core.map d ≡ Some makro = sym c.called_macro.ensures.value ∙ c.in-Some.is in
    let some : IsSome (first_missing part core.local core.map d.site.home (asked_before (eager_at core c.args.i) makro)) =
    subst (λ (o : Option Path). IsSome o) c.missing_path.ensures.value (mapped _ c.missing_path.result (sym c.is_some.ensures ∙ c.if-is_some.true)) in (
      search rules,
      lacks_missing part core c.args.i d makro called some,
      sym c.is_inert_now.ensures.value ∙ c.if-is_inert_now.false,
    )
