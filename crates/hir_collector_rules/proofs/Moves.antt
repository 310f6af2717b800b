-- Parts of a run, one after another.
use Rattle.hir_nameres.specs.HirDefMapRules.Overlay.{Maps}
use Rattle.hir_collector_rules.specs.Keys.{Environment}
use Rattle.hir_collector_rules.specs.State.{State}
use Rattle.hir_collector_rules.specs.Steps.{Step, Steps, none, more}
use Rattle.hir_collector_rules.specs.Derivation.{IsSpent}
use Rattle.hir_collector_rules.specs.UnknownSources.{LeadsToUnknownSource}

-- the steps to a state, and those from there on
pub Steps-append : {env : Environment} {finished : Maps} {a b c : State} → Steps env finished a b → Steps env finished b c → Steps env finished a c
Steps-append p none = p
Steps-append p (more old new q step) = more old new (Steps-append p q) step

-- one step
pub Steps-one : {env : Environment} {finished : Maps} {s t : State} → Step env finished s t → Steps env finished s t
Steps-one {env} {finished} {s} {t} step = more s t none step

-- a step, and those that follow
pub Steps-first : {env : Environment} {finished : Maps} {a b c : State} → Step env finished a b → Steps env finished b c → Steps env finished a c
Steps-first step q = Steps-append (Steps-one step) q

-- steps that lead to where as many as are counted lead on
pub spent_after : {env : Environment} {finished : Maps} {a b : State} → Steps env finished a b → IsSpent env finished b → IsSpent env finished a
spent_after steps spent = record { at = spent.at; steps = Steps-append steps spent.steps; stuck = spent.stuck }

-- and those that lead to a source that has no number
pub unknown_after : {env : Environment} {finished : Maps} {a b : State} → Steps env finished a b → LeadsToUnknownSource env finished b
    → LeadsToUnknownSource env finished a
unknown_after steps meets = record { at = meets.at; steps = Steps-append steps meets.steps; reaches = meets.reaches }
