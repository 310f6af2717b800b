-- The imports are taken over, their globs are opened, and names go along them.
use Rattle.std.proofs.Common.{◌≤◌, ◌∙◌, ap, rules, subst, sym}
use Rattle.hir_nameres.specs.WorldParts.{part_of}
use Rattle.hir_glob_imports.specs.declared.step.TheConstants.{MAX_STEPS}
use Rattle.hir_import_resolution.specs.Inner.State.{finished_by, state_by, state_in}
use Rattle.hir_import_rules.specs.State.{ImportState}
use Rattle.hir_import_resolution.proofs.Restarting.{closed_after, recorded_in, reopened, sound_after, sound_through}
use Rattle.hir_import_resolution.proofs.Starting.{spent_through, steps_through}
use Rattle.hir_import_resolution.proofs.spreading.spread_globs.Goals as goal

pub reopen-requires : goal.reopen-requires
reopen-requires c = record {
  sound =
      sound_through (part_of c.args.world) (finished_by c.new-resolver.result) (state_in c.args.imports) (state_by c.new-resolver.result)
      (sym c.new-resolver.ensures.finished)
      c.new-resolver.ensures.state c.requires.sound;
}

pub spread-requires-clause-small : goal.spread-requires-clause-small
spread-requires-clause-small c =
    let new = c.new-resolver.ensures in
    let at = reopened (part_of c.args.world) c.none-queue.result (state_in c.args.imports) c.new-resolver.result c.reopen.new.self new.state new.finished
    new.queue new.changes new.reported
    c.in_ok-reopen.ensures.state c.in_ok-reopen.ensures.rest in
    subst (λ (s : ImportState). s.count ≤ MAX_STEPS) (sym at.state) c.requires.small

pub spread-requires-clause-fresh : goal.spread-requires-clause-fresh
spread-requires-clause-fresh c =
    let new = c.new-resolver.ensures in
    let at = reopened (part_of c.args.world) c.none-queue.result (state_in c.args.imports) c.new-resolver.result c.reopen.new.self new.state new.finished
    new.queue new.changes new.reported
    c.in_ok-reopen.ensures.state c.in_ok-reopen.ensures.rest in
    at.fresh

pub returns-in_err-spread-clause-many : goal.returns-in_err-spread-clause-many
returns-in_err-spread-clause-many c = λ h.
    let new = c.new-resolver.ensures in
    let at = reopened (part_of c.args.world) c.none-queue.result (state_in c.args.imports) c.new-resolver.result c.reopen.new.self new.state new.finished
    new.queue new.changes new.reported
    c.in_ok-reopen.ensures.state c.in_ok-reopen.ensures.rest in
    spent_through (finished_by c.reopen.new.self) (part_of c.args.world) (state_by c.reopen.new.self) (state_in c.args.imports) at.beside at.state
    (c.in_err-spread.ensures.many (search rules))

pub returns-clause-derived : goal.returns-clause-derived
returns-clause-derived c =
    let new = c.new-resolver.ensures in
    let at = reopened (part_of c.args.world) c.none-queue.result (state_in c.args.imports) c.new-resolver.result c.reopen.new.self new.state new.finished
    new.queue new.changes new.reported
    c.in_ok-reopen.ensures.state c.in_ok-reopen.ensures.rest in
    steps_through (finished_by c.reopen.new.self) (part_of c.args.world) (state_by c.reopen.new.self) (state_by c.spread.new.self) (state_in c.args.imports)
    (state_in c.finish-resting.result.imports)
    at.beside at.state c.finish-resting.ensures.state c.in_ok-spread.ensures.steps

pub returns-clause-closed : goal.returns-clause-closed
returns-clause-closed c =
    let new = c.new-resolver.ensures in
    let at = reopened (part_of c.args.world) c.none-queue.result (state_in c.args.imports) c.new-resolver.result c.reopen.new.self new.state new.finished
    new.queue new.changes new.reported
    c.in_ok-reopen.ensures.state c.in_ok-reopen.ensures.rest in
    closed_after (part_of c.args.world) (state_in c.finish-resting.result.imports) c.spread.new.self (c.in_ok-spread.ensures.kept c.in_ok-reopen.ensures.kept)
    c.in_ok-spread.ensures.pending (ap part_of c.in_ok-spread.ensures.is.changes.world ∙ at.beside) c.finish-resting.ensures.state

pub returns-clause-stands : goal.returns-clause-stands
returns-clause-stands c =
    let new = c.new-resolver.ensures in
    let at = reopened (part_of c.args.world) c.none-queue.result (state_in c.args.imports) c.new-resolver.result c.reopen.new.self new.state new.finished
    new.queue new.changes new.reported
    c.in_ok-reopen.ensures.state c.in_ok-reopen.ensures.rest in
    let now = sound_after (part_of c.args.world) (state_in c.finish-resting.result.imports) c.spread.new.self
    (c.in_ok-spread.ensures.kept c.in_ok-reopen.ensures.kept)
    (c.in_ok-spread.ensures.recorded (recorded_in (state_in c.args.imports) c.reopen.new.self at.state c.requires.sound.recorded))
    (ap part_of c.in_ok-spread.ensures.is.changes.world ∙ at.beside) c.finish-resting.ensures.state in
    now.stands

pub returns-clause-sound : goal.returns-clause-sound
returns-clause-sound c =
    let new = c.new-resolver.ensures in
    let at = reopened (part_of c.args.world) c.none-queue.result (state_in c.args.imports) c.new-resolver.result c.reopen.new.self new.state new.finished
    new.queue new.changes new.reported
    c.in_ok-reopen.ensures.state c.in_ok-reopen.ensures.rest in
    sound_after (part_of c.args.world) (state_in c.finish-resting.result.imports) c.spread.new.self (c.in_ok-spread.ensures.kept c.in_ok-reopen.ensures.kept)
    (c.in_ok-spread.ensures.recorded (recorded_in (state_in c.args.imports) c.reopen.new.self at.state c.requires.sound.recorded))
    (ap part_of c.in_ok-spread.ensures.is.changes.world ∙ at.beside) c.finish-resting.ensures.state
