-- What is tried watches what it reads, and is settled where nothing is due.
use Rattle.std.proofs.Common.{◌≡◌, ◌∙◌, None, ap, subst, sym}
use Rattle.hir_import_resolution.specs.Types.{Resolver}
use Rattle.hir_import_resolution.specs.Inner.State.{finished_by, state_by}
use Rattle.hir_import_resolution.specs.Inner.Steps.{taking_at}
use Rattle.hir_import_rules.specs.Rules.{Steps, none}
use Rattle.hir_import_rules.specs.State.{ImportState}
use Rattle.hir_import_resolution.proofs.Running.{reports_nothing, tried_running, trying_nothing, trying_watched}
use Rattle.hir_import_resolution.proofs.resolver.Resolver.try_import.Goals as goal

pub returns-in_default-clause-running : goal.returns-in_default-clause-running
returns-in_default-clause-running c =
    trying_nothing c.args.self.now c.watch.new.self c.args.i c.requires.running c.watch.ensures.rest c.in_ok-watch.ensures.others c.in_ok-watch.ensures.each
    c.watch.ensures.lasted
    (sym c.in_default.is ∙ c.in_ok-path.ensures.value)

pub returns-in_default-clause-steps : goal.returns-in_default-clause-steps
returns-in_default-clause-steps c =
    subst (λ (s : ImportState). Steps (finished_by c.args.self.now) (state_by c.args.self.now) s) (sym (ap state_by c.watch.ensures.rest)) none

pub returns-in_default-clause-reports : goal.returns-in_default-clause-reports
returns-in_default-clause-reports c = λ apart.
    reports_nothing c.args.self.now c.watch.new.self (ap (λ (r : Resolver). r.reported.items) c.watch.ensures.rest)
    (ap (λ (r : Resolver). r.scopes.map) c.watch.ensures.rest) (ap (λ (r : Resolver). r.local) c.watch.ensures.rest)

pub take_import-requires-clause-trying : goal.take_import-requires-clause-trying
take_import-requires-clause-trying c =
    trying_watched c.args.self.now c.watch.new.self c.note_stop.new.self c.args.i c.in-Some.path c.requires.running c.watch.ensures.rest
    c.note_stop.ensures.rest c.in_ok-watch.ensures.others
    c.in_ok-watch.ensures.each c.watch.ensures.lasted c.in_ok-watch.ensures.there c.note_stop.ensures.lasted c.note_stop.ensures.unstopped
    (sym c.in-Some.is ∙ c.in_ok-path.ensures.value)

pub take_glob-requires-clause-trying : goal.take_glob-requires-clause-trying
take_glob-requires-clause-trying c =
    trying_watched c.args.self.now c.watch.new.self c.note_stop.new.self c.args.i c.in-Some.path c.requires.running c.watch.ensures.rest
    c.note_stop.ensures.rest c.in_ok-watch.ensures.others
    c.in_ok-watch.ensures.each c.watch.ensures.lasted c.in_ok-watch.ensures.there c.note_stop.ensures.lasted c.note_stop.ensures.unstopped
    (sym c.in-Some.is ∙ c.in_ok-path.ensures.value)

pub returns-in-None-clause-running : goal.returns-in-None-clause-running
returns-in-None-clause-running c =
    let untaken : taking_at (finished_by c.note_stop.new.self) (state_by c.note_stop.new.self) c.args.i ≡ None = sym c.in_ok-taking.ensures.value ∙
    c.in_default-2.is in
    tried_running c.note_stop.new.self c.args.i
    (trying_watched c.args.self.now c.watch.new.self c.note_stop.new.self c.args.i c.in-Some.path c.requires.running c.watch.ensures.rest
    c.note_stop.ensures.rest c.in_ok-watch.ensures.others
    c.in_ok-watch.ensures.each c.watch.ensures.lasted c.in_ok-watch.ensures.there c.note_stop.ensures.lasted c.note_stop.ensures.unstopped
    (sym c.in-Some.is ∙ c.in_ok-path.ensures.value))
    untaken c.in-None.ensures.linked

pub returns-in-None-clause-steps : goal.returns-in-None-clause-steps
returns-in-None-clause-steps c =
    subst (λ (s : ImportState). Steps (finished_by c.args.self.now) (state_by c.args.self.now) s)
    (sym (ap state_by c.note_stop.ensures.rest ∙ ap state_by c.watch.ensures.rest)) none

pub returns-in-None-clause-reports : goal.returns-in-None-clause-reports
returns-in-None-clause-reports c = λ apart.
    reports_nothing c.args.self.now c.note_stop.new.self
    (ap (λ (r : Resolver). r.reported.items) c.note_stop.ensures.rest ∙ ap (λ (r : Resolver). r.reported.items) c.watch.ensures.rest)
    (ap (λ (r : Resolver). r.scopes.map) c.note_stop.ensures.rest ∙ ap (λ (r : Resolver). r.scopes.map) c.watch.ensures.rest)
    (ap (λ (r : Resolver). r.local) c.note_stop.ensures.rest ∙ ap (λ (r : Resolver). r.local) c.watch.ensures.rest)
