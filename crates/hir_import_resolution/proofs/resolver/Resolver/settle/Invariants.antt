use Rattle.std.proofs.Common.{◌≡◌, ◌+◌, ◌-◌, [], true, None}
use Rattle.hir_glob_imports.specs.declared.step.TheConstants.{MAX_STEPS}
use Rattle.hir_import_resolution.specs.Inner.Queue.{IsRunning, Reports}
use Rattle.hir_import_resolution.specs.Inner.State.{finished_by, state_by}
use Rattle.hir_import_rules.specs.Rules.{Steps}
use Rattle.hir_import_resolution.proofs.Passes.{some_of}
use Rattle.hir_import_resolution.proofs.resolver.Resolver.settle.Given as goal

abbrev pub invariant-passes : goal.invariant-passes
invariant-passes l = record {
  running : IsRunning l.self None;
  finished : finished_by l.self ≡ finished_by l.initial.self;
  apart : l.self.apart ≡ l.initial.self.apart;
  steps : Steps (finished_by l.initial.self) (state_by l.initial.self) (state_by l.self);
  over : l.self.worklist.current ≡ [];
  outside : l.self.worklist.end ≡ 0;
  reports : l.initial.self.apart ≡ true → Reports l.initial.self l.self;
}

-- the steps that are left, and a pass that takes none
abbrev pub decreases-passes : goal.decreases-passes
decreases-passes l = (MAX_STEPS - l.self.count) + some_of l.self.worklist.later
