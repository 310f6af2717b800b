-- What does a turn do?
use Rattle.std.specs.Prelude.{◌≡◌, ◌<◌, ℕ, false}
use Rattle.hir_mod_collector.specs.HirDefMapRules.Overlay.{Maps}
use Rattle.hir_macro_rounds.specs.declared.calls.Turn.{Turn}
use Rattle.hir_macro_rounds.specs.declared.calls.Turn.TheVariants.{GaveUp, Rests, Round}
use Rattle.hir_mod_collector.specs.HirCollectorRules.Keys.{Environment}
use Rattle.hir_mod_collector.specs.HirCollectorRules.State.{Core, Run, core_in}
use Rattle.hir_import_resolution.specs.declared.import_queue.ImportQueue.{ImportQueue}
use Rattle.hir_mod_collector.specs.HirImportRules.Changed.{ChangedValue, joined}
use Rattle.hir_mod_collector.specs.HirCollectorImports.Waiting.{IsBehind}
use Rattle.hir_mod_collector.specs.HirCollectorRules.CallMoves.{ComesToRest, EndsInRound, NoneWaitsBefore}

-- in a turn a round was gone through, behind which no attribute waits before the same place; or the first attribute that waits was given up; or imports rest,
-- nothing that waits reaches a macro, and no attribute waits
abbrev pub TakesTurn : Environment → Maps → Core → Core → ℕ → Turn → Type 0
TakesTurn env finished old new first Round = EndsInRound env finished old new first
TakesTurn env finished old new first (GaveUp next) = NoneWaitsBefore new next
TakesTurn env finished old new first Rests = ComesToRest env finished old new false

-- a turn takes a step, but where nothing was left to do
abbrev pub CountsOn : Core → Core → Turn → Type 0
CountsOn old new Round = old.count < new.count
CountsOn old new (GaveUp next) = old.count < new.count
CountsOn old new Rests = Unit {0}

-- of imports that had read nothing that has changed when this was the core, those have that read what is gathered or noted now
abbrev pub StaysBehind : Maps → Core → ChangedValue → Run → Type 0
StaysBehind finished rested gathered now = (imports : ImportQueue)
    → ((changed : ChangedValue) (run : Run) → core_in run ≡ rested → IsBehind finished imports changed run)
    → IsBehind finished imports (joined gathered now.changed) now
