-- The imports are taken over, and tried until they rest.
use Rattle.std.proofs.Common.{◌∙◌, ap, rules}
use Rattle.std.specs.declared.alloc.Global.{Global}
use Rattle.std.specs.declared.vec.Vec.{Vec}
use Rattle.hir_nameres.specs.WorldParts.{part_of}
use Rattle.hir_nameres.specs.declared.nameres.path_resolution.slots.Slot.{Slot as PathSlot}
use Rattle.hir_import_resolution.specs.Inner.State.{finished_by, state_by, state_in}
use Rattle.hir_import_resolution.specs.Rounds.{is_apart}
use Rattle.hir_import_rules.specs.State.{ImportState}
use Rattle.hir_import_resolution.proofs.Counting.{steps_local}
use Rattle.hir_import_resolution.proofs.Restarting.{sound_after}
use Rattle.hir_import_resolution.proofs.Starting.{changes_through, rests_through, spent_through, steps_through, up_to_date_after}
use Rattle.hir_import_resolution.proofs.rounds.resume_imports.Goals as goal

pub returns-in_err-settle-clause-many : goal.returns-in_err-settle-clause-many
returns-in_err-settle-clause-many c = λ h.
    spent_through (finished_by c.in_ok-resolver.resolver) (part_of c.args.world) (state_by c.in_ok-resolver.resolver) (state_in c.args.imports)
    c.in_ok-resolver.ensures.finished c.in_ok-resolver.ensures.state (c.in_err-settle.ensures.many (search rules))

pub returns-clause-derived : goal.returns-clause-derived
returns-clause-derived c =
    steps_through (finished_by c.in_ok-resolver.resolver) (part_of c.args.world) (state_by c.in_ok-resolver.resolver) (state_by c.settle.new.self)
    (state_in c.args.imports) (state_in c.finish.result.imports)
    c.in_ok-resolver.ensures.finished c.in_ok-resolver.ensures.state c.finish.ensures.state c.in_ok-settle.ensures.steps

pub returns-clause-rests : goal.returns-clause-rests
returns-clause-rests c =
    rests_through (finished_by c.in_ok-resolver.resolver) (part_of c.args.world) (state_by c.settle.new.self) (state_in c.finish.result.imports)
    c.in_ok-resolver.ensures.finished c.finish.ensures.state c.in_ok-settle.ensures.rests

pub returns-clause-sound : goal.returns-clause-sound
returns-clause-sound c =
    let after = c.in_ok-settle.ensures.running.begun in
    sound_after (part_of c.args.world) (state_in c.finish.result.imports) c.settle.new.self after.kept after.recorded
    (c.in_ok-settle.ensures.finished ∙ c.in_ok-resolver.ensures.finished) c.finish.ensures.state

pub returns-clause-up_to_date : goal.returns-clause-up_to_date
returns-clause-up_to_date c =
    up_to_date_after (part_of c.args.world) c.finish.result.queue (state_in c.finish.result.imports) c.settle.new.self c.in_ok-settle.ensures.running
    c.in_ok-settle.ensures.over c.in_ok-settle.ensures.outside
    (c.in_ok-settle.ensures.finished ∙ c.in_ok-resolver.ensures.finished) c.finish.ensures.queue c.finish.ensures.state

pub returns-clause-changes : goal.returns-clause-changes
returns-clause-changes c = λ yes.
    changes_through c.args.imports c.finish.result.imports c.in_ok-resolver.resolver c.settle.new.self c.finish.result.changed.items
    c.in_ok-resolver.ensures.state c.finish.ensures.state
    (ap (λ (v : Vec PathSlot Global). v.items) c.finish.ensures.changed) c.in_ok-resolver.ensures.reported
    (c.in_ok-settle.ensures.reports (c.in_ok-resolver.ensures.apart ∙ yes))

pub returns-clause-local : goal.returns-clause-local
returns-clause-local c =
    ap (λ (s : ImportState). s.local) c.finish.ensures.state ∙ steps_local (finished_by c.in_ok-resolver.resolver) (state_by c.in_ok-resolver.resolver)
    (state_by c.settle.new.self) c.in_ok-settle.ensures.steps
    ∙ ap (λ (s : ImportState). s.local) c.in_ok-resolver.ensures.state

pub returns-clause-apart : goal.returns-clause-apart
returns-clause-apart c = ap is_apart c.finish.ensures.queue ∙ c.in_ok-settle.ensures.apart ∙ c.in_ok-resolver.ensures.apart
