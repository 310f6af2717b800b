-- When may rounds of macro calls be cut off?
use Rattle.std.specs.Prelude.{◌≡◌, ◌<◌, ℕ, suc, Some, slice_get}
use Rattle.hir_nameres.specs.HirDefMapRules.Overlay.{Maps}
use Rattle.hir_collector_rules.specs.declared.macro_directive.Fate.TheVariants.{Handled}
use Rattle.hir_collector_rules.specs.declared.macro_directive.MacroDirective.{MacroDirective}
use Rattle.hir_collector_rules.specs.Calls.{IsWaiting, LeadsNowhere}
use Rattle.hir_collector_rules.specs.Keys.{Environment}
use Rattle.hir_collector_rules.specs.State.{State}
use Rattle.hir_collector_rules.specs.Steps.{Steps}

-- the call at the place was tried: it was handled, or on the way there was a state in which it reached no macro
pub data WasTried (env : Environment) (finished : Maps) (from to : State) (i : ℕ) : Type 0 where
  handled : slice_get to.core.fates i ≡ Some Handled → WasTried env finished from to i
  met : (at : State) → Steps env finished from at → Steps env finished at to → LeadsNowhere finished at i → WasTried env finished from to i

-- a call that waited was handled
pub record Rises (from to : State) : Type 0 where
  pub place : ℕ
  pub call : MacroDirective
  pub waited : IsWaiting from place call
  pub handled : slice_get to.core.fates place ≡ Some Handled

-- a round: each call that waited was tried, and one was handled
pub record IsRound (env : Environment) (finished : Maps) (from to : State) : Type 0 where
  pub steps : Steps env finished from to
  pub tried : (i : ℕ) (d : MacroDirective) → IsWaiting from i d → WasTried env finished from to i
  pub rises : Rises from to

-- so many rounds lie between two states, one after another
pub data Rounds (env : Environment) (finished : Maps) (from : State) : State → ℕ → Type 0 where
  none : (to : State) → Steps env finished from to → Rounds env finished from to 0
  more : (a b to : State) (n : ℕ) → Rounds env finished from a n → Steps env finished a b → IsRound env finished b to → Rounds env finished from to (suc n)

-- more of them than may be, and behind them only other steps
pub record HasManyRounds (env : Environment) (finished : Maps) (from to : State) : Type 0 where
  pub count : ℕ
  pub last : State
  pub rounds : Rounds env finished from last count
  pub many : 8192 < count
  pub after : Steps env finished last to
