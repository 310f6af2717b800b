use Rattle.std.proofs.Common.{◌≡◌, ◌-◌, [], true, None}
use Rattle.hir_import_resolution.specs.Inner.Queue.{IsRunning, Reports}
use Rattle.hir_import_resolution.specs.Inner.State.{finished_by, state_by}
use Rattle.hir_import_rules.specs.Rules.{Steps}
use Rattle.hir_import_resolution.proofs.resolver.Resolver.pass.Given as goal

-- where no step was taken, nothing waits for the next pass
abbrev pub invariant-tries : goal.invariant-tries
invariant-tries l = record {
  running : IsRunning l.self None;
  finished : finished_by l.self ≡ finished_by l.initial.self;
  apart : l.self.apart ≡ l.initial.self.apart;
  steps : Steps (finished_by l.initial.self) (state_by l.initial.self) (state_by l.self);
  reports : l.initial.self.apart ≡ true → Reports l.initial.self l.self;
  moves : l.self.count ≡ l.initial.self.count → l.self.worklist.later ≡ [];
}

-- each try takes a position behind those that were tried
abbrev pub decreases-tries : goal.decreases-tries
decreases-tries l = l.self.worklist.end - l.self.worklist.next
