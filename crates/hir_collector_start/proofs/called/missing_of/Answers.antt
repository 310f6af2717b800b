use Rattle.std.proofs.Common.{◌≡◌, ◌∙◌, ◌-◌, List, ◌∷◌, None, Some, length, take, drop, ap, sym, subst, cond}
use Rattle.hir_collector_rules.specs.HirNameres.WorldParts.{part_of}
use Rattle.hir_collector_rules.specs.Calls.{asked_before, first_missing}
use Rattle.hir_collector_rules.specs.declared.macro_directive.EagerMacro.{EagerMacro}
use Rattle.hir_collector_start.proofs.Missing.{missing_later, missing_now, one_first}
use Rattle.hir_collector_start.proofs.called.missing_of.Goals as goal

pub returns-in-Some : goal.returns-in-Some
returns-in-Some c =
    let es : List EagerMacro = c.next.left.now in
    let e : EagerMacro = c.first-item.result in
    let others : List EagerMacro = take (length es - 1) (drop 1 es) in
    record {
      value =
          sym (missing_now (part_of c.args.world) c.args.local.now c.args.map.now c.args.home e others c.args.makro c.in-Some.path.now
          (sym c.in-Some.ensures.value))
          ∙ ap (λ (xs : List EagerMacro). first_missing (part_of c.args.world) c.args.local.now c.args.map.now c.args.home (asked_before xs c.args.makro))
          (sym (one_first es e _ c.in-len1-up.len_at_least c.first-item.is))
          ∙ c.next.invariant;
    }

pub next-preserved : goal.next-preserved
next-preserved c =
    let es : List EagerMacro = c.next.left.now in
    let e : EagerMacro = c.first-item.result in
    let others : List EagerMacro = take (length es - 1) (drop 1 es) in
    sym (missing_later (part_of c.args.world) c.args.local.now c.args.map.now c.args.home e others c.args.makro
    (sym c.in_default-missing_by.ensures.value))
    ∙ ap (λ (xs : List EagerMacro). first_missing (part_of c.args.world) c.args.local.now c.args.map.now c.args.home (asked_before xs c.args.makro))
    (sym (one_first es e _ c.in-len1-up.len_at_least c.first-item.is))
    ∙ c.next.invariant
