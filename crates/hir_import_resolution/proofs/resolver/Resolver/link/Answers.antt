-- A glob is recorded in one step.
use Rattle.std.proofs.Common.{◌≡◌, subst, Some, rules}
use Rattle.std.specs.Prelude.{slice_get, slice_set}
use Rattle.hir_import_rules.specs.Directives.{TakenValue, taken_for}
use Rattle.hir_import_resolution.specs.Inner.State.{finished_by, state_by}
use Rattle.hir_import_resolution.specs.Types.{Resolver}
use Rattle.hir_import_resolution.proofs.Due.{linking_spent}
use Rattle.hir_import_resolution.proofs.TakenImports.{WasLinked, linked}
use Rattle.hir_import_resolution.proofs.resolver.Resolver.link.Goals as goal

all : (c : goal.In_ok-note_target) → WasLinked c.args.self.now (record c.tick.new.self { taken = c.note_target.new.taken }) c.args.i c.args.edge
all c = linked c.args.self.now (record c.tick.new.self { taken = c.note_target.new.taken }) c.args.i c.args.edge c.link.new.self c.note_target.new.taken
    c.requires.due
    (λ j. record (c.in_ok-tick.ensures.ok j) { taken = c.note_target.new.taken })
    c.in_ok-link.ensures.records c.in_ok-link.ensures.brought
    (subst (λ (x : Resolver). (before : TakenValue) → slice_get x.taken.items c.args.i ≡ Some before
    → c.note_target.new.taken.items ≡ slice_set x.taken.items c.args.i (taken_for before c.args.edge.source)) c.in_ok-tick.ensures.ok
    c.in_ok-note_target.ensures.noted)
    c.in_ok-link.ensures.kept

pub returns-clause-step : goal.returns-clause-step
returns-clause-step c = (all c).step

pub returns-clause-is : goal.returns-clause-is
returns-clause-is c = (all c).is

pub returns-clause-kept : goal.returns-clause-kept
returns-clause-kept c = (all c).kept

pub returns-clause-recorded : goal.returns-clause-recorded
returns-clause-recorded c = (all c).recorded

pub returns-clause-lasts : goal.returns-clause-lasts
returns-clause-lasts c = (all c).lasts

pub returns-clause-small : goal.returns-clause-small
returns-clause-small c = c.in_ok-tick.ensures.small

pub returns-in_err-tick-clause-many : goal.returns-in_err-tick-clause-many
returns-in_err-tick-clause-many c = λ h.
    linking_spent (finished_by c.args.self.now) (state_by c.args.self.now) c.args.i c.args.edge c.link.new.self.edges c.requires.due
    c.in_ok-link.ensures.records
    (c.in_err-tick.ensures.many (search rules))
