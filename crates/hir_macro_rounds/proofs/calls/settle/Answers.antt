-- Imports rest, and then calls may be expanded.
use Rattle.std.proofs.Common.{rules, ◌≡◌, ◌∙◌, ◌+◌, ◌<◌, ◌≤◌, ap, arith, length, subst, sym}
use Rattle.hir_mod_collector.specs.HirNameres.WorldParts.{part_of}
use Rattle.hir_mod_collector.specs.HirImportRules.Rest.{IsAtRest}
use Rattle.hir_mod_collector.specs.HirCollectorRules.declared.start.TheConstants.{STEP_LIMIT}
use Rattle.hir_mod_collector.specs.HirCollectorRules.State.{Core, at_rest, core_in, import_state}
use Rattle.hir_mod_collector.proofs.HirCollectorRules.Changes.{count-Steps}
use Rattle.hir_collector_derives.proofs.CallSteps.{count_rested, rest_rested, rested, rested_past, settled_rested}
use Rattle.hir_mod_collector.proofs.HirCollectorRules.Moves.{Steps-append, spent_after}
use Rattle.hir_mod_collector.proofs.HirCollectorState.Noted.{slots_follow}
use Rattle.hir_mod_collector.proofs.HirCollectorImports.Outside.{outside-Steps}
use Rattle.hir_macro_calls.proofs.Resuming.{behind_settled}
use Rattle.hir_mod_collector.proofs.Walked.{nowhere}
use Rattle.hir_macro_rounds.proofs.calls.settle.Goals as goal

pub returns-clause-ok : goal.returns-clause-ok
returns-clause-ok c = λ env.
    Steps-append (c.in_ok-run.ensures.ok env)
    (rested env (part_of c.args.world) (core_in c.in_ok-run.run') (core_in c.rest.new.self) c.in_ok-run.ensures.rests c.in_ok-rest.ensures.ok)

pub returns-clause-rests : goal.returns-clause-rests
returns-clause-rests c =
    rest_rested (part_of c.args.world) (core_in c.in_ok-run.run') (core_in c.rest.new.self) c.in_ok-rest.ensures.ok c.in_ok-run.ensures.rests

pub returns-in_err-rest-clause-many : goal.returns-in_err-rest-clause-many
returns-in_err-rest-clause-many c = λ h env.
    spent_after (c.in_ok-run.ensures.ok env) (rested_past env (part_of c.args.world) (core_in c.in_ok-run.run') c.in_ok-run.ensures.rests
    (c.in_err-rest.ensures.many (search rules)))

pub returns-clause-settled : goal.returns-clause-settled
returns-clause-settled c = settled_rested (core_in c.in_ok-run.run') (core_in c.rest.new.self) c.in_ok-rest.ensures.ok

pub returns-clause-counts : goal.returns-clause-counts
returns-clause-counts c =
    let before : (core_in c.args.run).count ≤ (core_in c.in_ok-run.run').count = count-Steps (c.in_ok-run.ensures.ok nowhere) in
    let on : (core_in c.in_ok-run.run').count ≤ (core_in c.rest.new.self).count = count_rested (core_in c.in_ok-run.run') (core_in c.rest.new.self)
    c.in_ok-rest.ensures.ok in
    omega (arith, before, on)

pub returns-clause-noted : goal.returns-clause-noted
returns-clause-noted c = slots_follow c.in_ok-run.ensures.noted c.in_ok-rest.ensures.noted.slots

pub returns-clause-behind : goal.returns-clause-behind
returns-clause-behind c = λ paired changed now same.
    behind_settled (part_of c.args.world) c.in_ok-run.imports changed (core_in c.in_ok-run.run') (core_in c.rest.new.self) now c.in_ok-run.ensures.up_to_date
    c.in_ok-run.ensures.rests.stands
    (λ yes. outside-Steps (c.in_ok-run.ensures.ok nowhere) (c.requires.apart (sym c.in_ok-run.ensures.apart ∙ yes)).outside) c.in_ok-rest.ensures.ok same paired
