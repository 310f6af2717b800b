-- All imports are queued.
use Rattle.std.proofs.Common.{◌≡◌, ◌∙◌, Bool, IfOk, ap, rules, subst, sym}
use Rattle.hir_nameres.specs.WorldParts.{part_of}
use Rattle.hir_import_resolution.specs.Inner.State.{state_in}
use Rattle.hir_import_resolution.specs.Rounds.{is_apart, is_lasting}
use Rattle.hir_import_resolution.proofs.Growing.{queued_first}
use Rattle.hir_import_resolution.proofs.rounds.begin_imports.Goals as goal

pub settle_reopened-requires-clause-apart : goal.settle_reopened-requires-clause-apart
settle_reopened-requires-clause-apart c = λ e. c.requires.apart (sym (ap is_apart c.append.ensures.rest ∙ c.new-queue.ensures.apart) ∙ e)

pub settle_reopened-requires-clause-queued : goal.settle_reopened-requires-clause-queued
settle_reopened-requires-clause-queued c =
    queued_first (part_of c.args.world) c.append.new.self c.new-queue.result.worklist (state_in c.args.imports) c.len.result c.new-queue.ensures.none
    c.in_ok-append.ensures.longer
    (search (rules, c.len.ensures)) c.in_ok-append.ensures.count c.requires.there

pub settle_reopened-requires-clause-lasts : goal.settle_reopened-requires-clause-lasts
settle_reopened-requires-clause-lasts c =
    λ e. c.do_globs_last-lasting.ensures.lasts (sym (ap is_lasting c.append.ensures.rest ∙ c.new-queue.ensures.lasting) ∙ e)

pub settle_reopened-requires-clause-watches : goal.settle_reopened-requires-clause-watches
settle_reopened-requires-clause-watches c = λ e.
    ap is_apart c.append.ensures.rest ∙ c.new-queue.ensures.apart ∙ c.do_globs_last-lasting.ensures.apart
    (sym (ap is_lasting c.append.ensures.rest ∙ c.new-queue.ensures.lasting) ∙ e)

pub returns-clause-changes : goal.returns-clause-changes
returns-clause-changes c = search (rules, ap is_apart c.append.ensures.rest ∙ c.new-queue.ensures.apart)

pub returns-clause-apart : goal.returns-clause-apart
returns-clause-apart c =
    subst (λ (b : Bool). IfOk c.settle_reopened.result (λ r. is_apart r.queue ≡ b)) (ap is_apart c.append.ensures.rest ∙ c.new-queue.ensures.apart)
    c.settle_reopened.ensures.apart
