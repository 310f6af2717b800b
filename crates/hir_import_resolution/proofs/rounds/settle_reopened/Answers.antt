-- The imports are taken over, their globs are opened, and they are tried until they rest.
use Rattle.std.proofs.Common.{◌∙◌, ap, rules, sym}
use Rattle.std.specs.declared.alloc.Global.{Global}
use Rattle.std.specs.declared.vec.Vec.{Vec}
use Rattle.hir_nameres.specs.WorldParts.{part_of}
use Rattle.hir_nameres.specs.declared.nameres.path_resolution.slots.Slot.{Slot as PathSlot}
use Rattle.hir_import_resolution.specs.Types.{ImportQueue}
use Rattle.hir_import_resolution.specs.Inner.State.{finished_by, state_by, state_in}
use Rattle.hir_import_resolution.proofs.Restarting.{reopened, sound_after, sound_through}
use Rattle.hir_import_resolution.specs.Rounds.{is_apart}
use Rattle.hir_import_rules.specs.State.{ImportState}
use Rattle.hir_import_resolution.proofs.Counting.{steps_local}
use Rattle.hir_import_resolution.proofs.Starting.{begun_kept, changes_through, rests_through, spent_through, steps_through, up_to_date_after}
use Rattle.hir_import_resolution.proofs.rounds.settle_reopened.Goals as goal

pub reopen-requires : goal.reopen-requires
reopen-requires c = record {
  sound =
      sound_through (part_of c.args.world) (finished_by c.new-resolver.result) (state_in c.args.imports) (state_by c.new-resolver.result)
      (sym c.new-resolver.ensures.finished)
      c.new-resolver.ensures.state c.requires.sound;
}

pub settle-requires-clause-begun : goal.settle-requires-clause-begun
settle-requires-clause-begun c =
    let new = c.new-resolver.ensures in
    let at = reopened (part_of c.args.world) c.args.queue (state_in c.args.imports) c.new-resolver.result c.reopen.new.self new.state new.finished new.queue
    new.changes new.reported
    c.in_ok-reopen.ensures.state c.in_ok-reopen.ensures.rest in
    begun_kept (part_of c.args.world) c.args.queue c.args.imports c.reopen.new.self at.state at.beside at.queued at.fresh c.requires.queued c.requires.lasts
    c.requires.watches c.requires.small c.requires.apart
    c.in_ok-reopen.ensures.kept c.requires.sound.recorded

pub settle-requires-clause-over : goal.settle-requires-clause-over
settle-requires-clause-over c =
    let new = c.new-resolver.ensures in
    let at = reopened (part_of c.args.world) c.args.queue (state_in c.args.imports) c.new-resolver.result c.reopen.new.self new.state new.finished new.queue
    new.changes new.reported
    c.in_ok-reopen.ensures.state c.in_ok-reopen.ensures.rest in
    ap (λ (q : ImportQueue). q.worklist.current) at.queued ∙ c.requires.queued.over

pub settle-requires-clause-outside : goal.settle-requires-clause-outside
settle-requires-clause-outside c =
    let new = c.new-resolver.ensures in
    let at = reopened (part_of c.args.world) c.args.queue (state_in c.args.imports) c.new-resolver.result c.reopen.new.self new.state new.finished new.queue
    new.changes new.reported
    c.in_ok-reopen.ensures.state c.in_ok-reopen.ensures.rest in
    ap (λ (q : ImportQueue). q.worklist.end) at.queued ∙ c.requires.queued.outside

pub returns-in_err-settle-clause-many : goal.returns-in_err-settle-clause-many
returns-in_err-settle-clause-many c = λ h.
    let new = c.new-resolver.ensures in
    let at = reopened (part_of c.args.world) c.args.queue (state_in c.args.imports) c.new-resolver.result c.reopen.new.self new.state new.finished new.queue
    new.changes new.reported
    c.in_ok-reopen.ensures.state c.in_ok-reopen.ensures.rest in
    spent_through (finished_by c.reopen.new.self) (part_of c.args.world) (state_by c.reopen.new.self) (state_in c.args.imports) at.beside at.state
    (c.in_err-settle.ensures.many (search rules))

pub returns-clause-derived : goal.returns-clause-derived
returns-clause-derived c =
    let new = c.new-resolver.ensures in
    let at = reopened (part_of c.args.world) c.args.queue (state_in c.args.imports) c.new-resolver.result c.reopen.new.self new.state new.finished new.queue
    new.changes new.reported
    c.in_ok-reopen.ensures.state c.in_ok-reopen.ensures.rest in
    steps_through (finished_by c.reopen.new.self) (part_of c.args.world) (state_by c.reopen.new.self) (state_by c.settle.new.self) (state_in c.args.imports)
    (state_in c.finish.result.imports)
    at.beside at.state c.finish.ensures.state c.in_ok-settle.ensures.steps

pub returns-clause-rests : goal.returns-clause-rests
returns-clause-rests c =
    let new = c.new-resolver.ensures in
    let at = reopened (part_of c.args.world) c.args.queue (state_in c.args.imports) c.new-resolver.result c.reopen.new.self new.state new.finished new.queue
    new.changes new.reported
    c.in_ok-reopen.ensures.state c.in_ok-reopen.ensures.rest in
    rests_through (finished_by c.reopen.new.self) (part_of c.args.world) (state_by c.settle.new.self) (state_in c.finish.result.imports)
    at.beside c.finish.ensures.state c.in_ok-settle.ensures.rests

pub returns-clause-sound : goal.returns-clause-sound
returns-clause-sound c =
    let new = c.new-resolver.ensures in
    let at = reopened (part_of c.args.world) c.args.queue (state_in c.args.imports) c.new-resolver.result c.reopen.new.self new.state new.finished new.queue
    new.changes new.reported
    c.in_ok-reopen.ensures.state c.in_ok-reopen.ensures.rest in
    let begun = c.in_ok-settle.ensures.running.begun in
    sound_after (part_of c.args.world) (state_in c.finish.result.imports) c.settle.new.self begun.kept begun.recorded
    (c.in_ok-settle.ensures.finished ∙ at.beside)
    c.finish.ensures.state

pub returns-clause-up_to_date : goal.returns-clause-up_to_date
returns-clause-up_to_date c =
    let new = c.new-resolver.ensures in
    let at = reopened (part_of c.args.world) c.args.queue (state_in c.args.imports) c.new-resolver.result c.reopen.new.self new.state new.finished new.queue
    new.changes new.reported
    c.in_ok-reopen.ensures.state c.in_ok-reopen.ensures.rest in
    up_to_date_after (part_of c.args.world) c.finish.result.queue (state_in c.finish.result.imports) c.settle.new.self c.in_ok-settle.ensures.running
    c.in_ok-settle.ensures.over c.in_ok-settle.ensures.outside
    (c.in_ok-settle.ensures.finished ∙ at.beside) c.finish.ensures.queue c.finish.ensures.state

pub returns-clause-changes : goal.returns-clause-changes
returns-clause-changes c = λ apart.
    let new = c.new-resolver.ensures in
    let at = reopened (part_of c.args.world) c.args.queue (state_in c.args.imports) c.new-resolver.result c.reopen.new.self new.state new.finished new.queue
    new.changes new.reported
    c.in_ok-reopen.ensures.state c.in_ok-reopen.ensures.rest in
    changes_through c.args.imports c.finish.result.imports c.reopen.new.self c.settle.new.self c.finish.result.changed.items at.state c.finish.ensures.state
    (ap (λ (v : Vec PathSlot Global). v.items) c.finish.ensures.changed) at.unreported
    (c.in_ok-settle.ensures.reports (ap is_apart at.queued ∙ apart))

pub returns-clause-apart : goal.returns-clause-apart
returns-clause-apart c =
    let new = c.new-resolver.ensures in
    let at = reopened (part_of c.args.world) c.args.queue (state_in c.args.imports) c.new-resolver.result c.reopen.new.self new.state new.finished new.queue
    new.changes new.reported
    c.in_ok-reopen.ensures.state c.in_ok-reopen.ensures.rest in
    ap is_apart c.finish.ensures.queue ∙ c.in_ok-settle.ensures.apart ∙ ap is_apart at.queued

pub returns-clause-local : goal.returns-clause-local
returns-clause-local c =
    let new = c.new-resolver.ensures in
    let at = reopened (part_of c.args.world) c.args.queue (state_in c.args.imports) c.new-resolver.result c.reopen.new.self new.state new.finished new.queue
    new.changes new.reported
    c.in_ok-reopen.ensures.state c.in_ok-reopen.ensures.rest in
    ap (λ (s : ImportState). s.local) c.finish.ensures.state ∙ steps_local (finished_by c.reopen.new.self) (state_by c.reopen.new.self)
    (state_by c.settle.new.self) c.in_ok-settle.ensures.steps
    ∙ ap (λ (s : ImportState). s.local) at.state
