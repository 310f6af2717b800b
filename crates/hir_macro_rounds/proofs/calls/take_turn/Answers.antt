-- One turn: imports rest, and then what waits is tried.
use Rattle.std.proofs.lemmas.Result.{err_from_is_err_and}
use Rattle.std.proofs.Common.{Err, ◌≡◌, ◌∙◌, ap, subst, sym}
use Rattle.hir_mod_collector.specs.HirNameres.WorldParts.{part_of}
use Rattle.hir_mod_collector.specs.HirImportRules.Changed.{ChangedValue, joined}
use Rattle.hir_mod_collector.specs.HirCollectorRules.Keys.{environment}
use Rattle.hir_mod_collector.specs.HirCollectorRules.State.{core_in}
use Rattle.hir_mod_collector.specs.HirCollectorImports.Waiting.{IsBehind}
use Rattle.hir_macro_calls.proofs.GivingUp.{none_waits_later}
use Rattle.hir_mod_collector.proofs.HirCollectorRules.Moves.{Steps-append, spent_after, unknown_after}
use Rattle.hir_mod_collector.proofs.HirCollectorRules.Numbers.{known_step, refused_step}
use Rattle.hir_mod_collector.proofs.HirCollectorImports.Outside.{apart-Steps}
use Rattle.hir_mod_collector.proofs.HirCollectorImports.Ready.{ready_after}
use Rattle.hir_macro_calls.proofs.Resuming.{one_error, resumable_behind}
use Rattle.hir_macro_calls.proofs.UpToDate.{keeps_waiting, stale_later}
use Rattle.hir_mod_collector.specs.HirCollectorRules.declared.start.CollectError.TheVariants.{TooMany, UnknownSource}
use Rattle.hir_macro_rounds.proofs.Turning.{counts_from, turned_from}
use Rattle.hir_macro_rounds.proofs.calls.take_turn.Goals as goal

-- what each goal below needs: `now` is where the turn begins

pub settle-requires-clause-resumable : goal.settle-requires-clause-resumable
settle-requires-clause-resumable g c =
    let part = part_of c.args.world in
    let all : c.append.new.self ≡ joined c.args.grown.now c.args.run.changed = c.in_ok-append.ensures.ok ∙ ap (joined c.args.grown.now) c.changed.ensures.value
    in
    resumable_behind part c.args.imports c.append.new.self c.args.run c.args.apart c.requires.imports c.requires.apart
    (subst (λ (x : ChangedValue). IsBehind part c.args.imports x c.args.run) (sym all) c.requires.behind)

pub settle-requires-clause-globs : goal.settle-requires-clause-globs
settle-requires-clause-globs g c = λ lasting some.
    let all : c.append.new.self ≡ joined c.args.grown.now c.args.run.changed = c.in_ok-append.ensures.ok ∙ ap (joined c.args.grown.now) c.changed.ensures.value
    in
    (c.requires.behind lasting (ap (λ (x : ChangedValue). x.all) (sym all) ∙ some)).globs

pub take_waiting-requires-clause-apart : goal.take_waiting-requires-clause-apart
take_waiting-requires-clause-apart g c = λ yes.
    let here = environment c.args.locations.now (g.D.SourceDatabase.workspace c.args.db.now) in
    apart-Steps (core_in c.args.run) (core_in c.in_ok-run.run') (c.in_ok-run.ensures.ok here) (c.requires.apart (sym c.requires.queue ∙ yes))

pub take_waiting-requires-clause-stale : goal.take_waiting-requires-clause-stale
take_waiting-requires-clause-stale g c =
    stale_later (part_of c.args.world) c.args.queue.now c.args.run c.in_ok-run.run' c.requires.stale c.in_ok-run.ensures.noted
    (keeps_waiting (core_in c.args.run) (core_in c.in_ok-run.run')
    (c.in_ok-run.ensures.ok (environment c.args.locations.now (g.D.SourceDatabase.workspace c.args.db.now))) c.requires.ready.fated)

pub take_waiting-requires-clause-settled : goal.take_waiting-requires-clause-settled
take_waiting-requires-clause-settled g c = c.in_ok-run.ensures.settled

pub take_waiting-requires-clause-rests : goal.take_waiting-requires-clause-rests
take_waiting-requires-clause-rests g c = c.in_ok-run.ensures.rests

pub take_waiting-requires-clause-ready : goal.take_waiting-requires-clause-ready
take_waiting-requires-clause-ready g c =
    ready_after (c.in_ok-run.ensures.ok (environment c.args.locations.now (g.D.SourceDatabase.workspace c.args.db.now))) c.requires.ready

pub take_waiting-requires-clause-first : goal.take_waiting-requires-clause-first
take_waiting-requires-clause-first g c =
    let here = environment c.args.locations.now (g.D.SourceDatabase.workspace c.args.db.now) in
    none_waits_later (core_in c.args.run) (core_in c.in_ok-run.run') c.args.first c.requires.ready.fated (c.in_ok-run.ensures.ok here) c.requires.first

-- imports are resolved by steps, which meet no unknown source
pub returns-in_err-run-clause-many : goal.returns-in_err-run-clause-many
returns-in_err-run-clause-many g c = λ h grown k.
    c.in_err-run.ensures.many (sym c.in_err-run.was ∙ refused_step _ _ _ c.in_err-run.was c.from_residual-in_err-run.ensures.1 h)
    (environment grown (g.D.SourceDatabase.workspace c.args.db.now))

pub returns-in_err-run-clause-unknown : goal.returns-in_err-run-clause-unknown
returns-in_err-run-clause-unknown g c = λ h. absurd (known_step _ _ c.from_residual-in_err-run.ensures.1 h)

pub returns-in_err-turn-clause-many : goal.returns-in_err-turn-clause-many
returns-in_err-turn-clause-many g c = λ h grown k.
    let p = err_from_is_err_and c.from_residual-in_err-turn.result c.from_residual-in_err-turn.ensures.1 in
    let many : p.0 ≡ TooMany = one_error _ p.0 TooMany p.1 h in
    let same : c.in_err-turn.field-0.0 ≡ TooMany = sym p.2 ∙ many in
    spent_after (c.in_ok-run.ensures.ok (environment grown (g.D.SourceDatabase.workspace c.args.db.now)))
    (c.in_err-turn.ensures.many (λ i. Err (same i)) grown k)

pub returns-in_err-turn-clause-unknown : goal.returns-in_err-turn-clause-unknown
returns-in_err-turn-clause-unknown g c = λ h.
    let p = err_from_is_err_and c.from_residual-in_err-turn.result c.from_residual-in_err-turn.ensures.1 in
    let unknown : p.0 ≡ UnknownSource = one_error _ p.0 UnknownSource p.1 h in
    let same : c.in_err-turn.field-0.0 ≡ UnknownSource = sym p.2 ∙ unknown in
    unknown_after (c.in_ok-run.ensures.ok (environment c.take_waiting.new.locations (g.D.SourceDatabase.workspace c.args.db.now)))
    (c.in_err-turn.ensures.unknown (λ i. Err (same i)))

pub returns-clause-ok : goal.returns-clause-ok
returns-clause-ok g c = λ grown k.
    Steps-append (c.in_ok-run.ensures.ok (environment grown (g.D.SourceDatabase.workspace c.args.db.now))) (c.in_ok-turn.ensures.ok grown k)

pub returns-clause-behind : goal.returns-clause-behind
returns-clause-behind g c =
    let here = environment c.args.locations.now (g.D.SourceDatabase.workspace c.args.db.now) in
    c.in_ok-turn.ensures.behind c.in_ok-run.imports (c.in_ok-run.ensures.behind (ready_after (c.in_ok-run.ensures.ok here) c.requires.ready).paired)

pub returns-clause-counts : goal.returns-clause-counts
returns-clause-counts g c =
    counts_from (core_in c.args.run) (core_in c.in_ok-run.run') (core_in c.take_waiting.new.run) c.in_ok-turn.turn c.in_ok-run.ensures.counts
    c.in_ok-turn.ensures.counts

pub returns-clause-turned : goal.returns-clause-turned
returns-clause-turned g c = λ grown k.
    let env = environment grown (g.D.SourceDatabase.workspace c.args.db.now) in
    turned_from env (part_of c.args.world) (core_in c.args.run) (core_in c.in_ok-run.run') (core_in c.take_waiting.new.run) c.args.first c.in_ok-turn.turn
    (c.in_ok-run.ensures.ok env) (c.in_ok-turn.ensures.turned grown k)
