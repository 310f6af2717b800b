-- A glob is recorded, and names go along globs.
use Rattle.std.proofs.Common.{◌∙◌, ◌<◌, length, ap, refl, rules, subst, sym}
use Rattle.std.specs.declared.alloc.Global.{Global}
use Rattle.std.specs.declared.vec.Vec.{Vec}
use Rattle.hir_nameres.specs.WorldParts.{part_of}
use Rattle.hir_nameres.specs.declared.nameres.path_resolution.slots.Slot.{Slot as PathSlot}
use Rattle.hir_worklist.specs.Queue.{Queue}
use Rattle.hir_import_resolution.specs.Types.{OpenScopes, Resolver}
use Rattle.hir_worklist.specs.Waking.{IsSamePass}
use Rattle.hir_import_resolution.specs.Inner.State.{finished_by, state_by}
use Rattle.hir_import_resolution.specs.Inner.Steps.{IsLinking, taking_at}
use Rattle.hir_import_rules.specs.Lasting.{HasVariants, IsPlaced}
use Rattle.hir_import_rules.specs.Rest.{IsSpent}
use Rattle.hir_import_resolution.proofs.Running.{begun_linked, count_taken, importer_there, reports_join, reports_nothing, spent_taken, step_noted, steps_taken}
use Rattle.hir_import_resolution.proofs.Running.{trying_lowered}
use Rattle.hir_import_resolution.proofs.resolver.Resolver.take_glob.Goals as goal

pub link-requires : goal.link-requires
link-requires c = record {
  due = subst (λ (r : Resolver). IsLinking (finished_by r) (state_by r) c.args.i c.args.edge) (sym c.note_edge.ensures.rest) c.requires.due;
  there =
      subst (λ (r : Resolver). c.args.edge.importer < length r.scopes.map.modules) (sym c.note_edge.ensures.rest)
      (importer_there c.args.self.now c.args.i c.args.edge c.requires.due c.requires.trying.running.begun.there);
}

pub wave-requires : goal.wave-requires
wave-requires c =
    let trying = trying_lowered c.args.self.now c.note_edge.new.self c.args.i c.note_edge.ensures.rest c.note_edge.ensures.lasted c.requires.trying in
    record {
      begun =
          begun_linked c.note_edge.new.self c.link.new.self c.args.i c.args.edge
          (ap (λ (r : Resolver). taking_at (finished_by r) (state_by r) c.args.i) c.note_edge.ensures.rest ∙ c.requires.none)
          (subst (λ (r : Resolver). IsLinking (finished_by r) (state_by r) c.args.i c.args.edge) (sym c.note_edge.ensures.rest) c.requires.due) trying
          c.in_ok-link.ensures.is
          (c.in_ok-link.ensures.kept trying.running.begun.kept) (c.in_ok-link.ensures.recorded trying.running.begun.recorded)
          (λ e.
          let as_noted = sym c.in_ok-link.ensures.is.changes.lasting ∙ e in
          c.in_ok-link.ensures.lasts (subst (λ (r : Resolver). IsPlaced r.scopes.map c.args.edge.vis) (sym c.note_edge.ensures.rest)
          (c.note_edge.ensures.placed as_noted))
          (subst (λ (r : Resolver). HasVariants r.scopes.map c.args.edge.source) (sym c.note_edge.ensures.rest) (c.note_edge.ensures.enums as_noted))
          (trying.running.begun.lasts as_noted))
          c.in_ok-link.ensures.small;
    }

pub returns-in_err-link-clause-many : goal.returns-in_err-link-clause-many
returns-in_err-link-clause-many c many =
    subst (λ (r : Resolver). IsSpent (finished_by r) (state_by r)) c.note_edge.ensures.rest (c.in_err-link.ensures.many (search rules))

pub returns-clause-steps : goal.returns-clause-steps
returns-clause-steps c =
    steps_taken c.args.self.now c.link.new.self c.link.new.self c.wave.new.self (step_noted c.args.self.now c.note_edge.new.self c.link.new.self
    c.note_edge.ensures.rest c.in_ok-link.ensures.step) (c.in_ok-link.ensures.is.changes.world ∙ ap (λ (r : Resolver). r.scopes.world) c.note_edge.ensures.rest)
    refl refl c.in_ok-wave.ensures.steps

pub returns-clause-moves : goal.returns-clause-moves
returns-clause-moves c =
    count_taken c.args.self.now c.link.new.self c.link.new.self c.wave.new.self (step_noted c.args.self.now c.note_edge.new.self c.link.new.self
    c.note_edge.ensures.rest c.in_ok-link.ensures.step) (c.in_ok-link.ensures.is.changes.world ∙ ap (λ (r : Resolver). r.scopes.world) c.note_edge.ensures.rest)
    refl refl c.in_ok-wave.ensures.steps

pub returns-in_err-wave-clause-many : goal.returns-in_err-wave-clause-many
returns-in_err-wave-clause-many c many =
    spent_taken c.args.self.now c.link.new.self c.link.new.self (step_noted c.args.self.now c.note_edge.new.self c.link.new.self c.note_edge.ensures.rest
    c.in_ok-link.ensures.step) (c.in_ok-link.ensures.is.changes.world ∙ ap (λ (r : Resolver). r.scopes.world) c.note_edge.ensures.rest) refl refl
    (c.in_err-wave.ensures.many (search rules))

pub returns-clause-finished : goal.returns-clause-finished
returns-clause-finished c =
    c.in_ok-wave.ensures.finished ∙ ap part_of (c.in_ok-link.ensures.is.changes.world ∙ ap (λ (r : Resolver). r.scopes.world) c.note_edge.ensures.rest)

pub returns-clause-apart : goal.returns-clause-apart
returns-clause-apart c = c.in_ok-wave.ensures.apart ∙ c.in_ok-link.ensures.is.changes.apart ∙ ap (λ (r : Resolver). r.apart) c.note_edge.ensures.rest

pub returns-clause-pass : goal.returns-clause-pass
returns-clause-pass c =
    subst (λ (q : Queue). IsSamePass q c.wave.new.self.worklist) (c.in_ok-link.ensures.is.changes.worklist ∙ ap (λ (r : Resolver). r.worklist)
    c.note_edge.ensures.rest) c.in_ok-wave.ensures.pass

pub returns-clause-reports : goal.returns-clause-reports
returns-clause-reports c = λ apart.
    reports_join c.args.self.now c.link.new.self c.wave.new.self
    (reports_nothing c.args.self.now c.link.new.self
    (ap (λ (v : Vec PathSlot Global). v.items) (c.in_ok-link.ensures.is.changes.reported ∙ ap (λ (r : Resolver). r.reported) c.note_edge.ensures.rest))
    (ap (λ (o : OpenScopes). o.map) (c.in_ok-link.ensures.is.scopes ∙ ap (λ (r : Resolver). r.scopes) c.note_edge.ensures.rest))
    (c.in_ok-link.ensures.is.changes.local ∙ ap (λ (r : Resolver). r.local) c.note_edge.ensures.rest))
    (c.in_ok-wave.ensures.reports (c.in_ok-link.ensures.is.changes.apart ∙ ap (λ (r : Resolver). r.apart) c.note_edge.ensures.rest ∙ apart))
