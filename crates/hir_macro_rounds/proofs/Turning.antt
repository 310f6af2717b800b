-- What a turn does is done from where it begins, if steps lead from there to where imports rest.
use Rattle.std.proofs.Common.{ℕ, ◌≤◌, ◌<◌, arith}
use Rattle.hir_mod_collector.specs.HirDefMapRules.Overlay.{Maps}
use Rattle.hir_mod_collector.specs.HirCollectorRules.CallMoves.{rested}
use Rattle.hir_mod_collector.specs.HirCollectorRules.Keys.{Environment}
use Rattle.hir_mod_collector.specs.HirCollectorRules.State.{Core, at_rest}
use Rattle.hir_mod_collector.specs.HirCollectorRules.Steps.{Steps}
use Rattle.hir_mod_collector.proofs.HirCollectorRules.Moves.{Steps-append}
use Rattle.hir_macro_rounds.specs.Turns.{CountsOn, TakesTurn}
use Rattle.hir_macro_rounds.specs.declared.calls.Turn.{Turn}
use Rattle.hir_macro_rounds.specs.declared.calls.Turn.TheVariants.{GaveUp, Rests, Round}

pub counts_from : (begun settled new : Core) (turn : Turn) → begun.count ≤ settled.count → CountsOn settled new turn → CountsOn begun new turn
counts_from begun settled new Round fewer on = omega (arith, fewer, on)
counts_from begun settled new (GaveUp next) fewer on = omega (arith, fewer, on)
counts_from begun settled new Rests fewer on = tt

pub turned_from : (env : Environment) (finished : Maps) (begun settled new : Core) (first : ℕ) (turn : Turn)
    → Steps env finished (at_rest begun) (at_rest settled) → TakesTurn env finished settled new first turn → TakesTurn env finished begun new first turn
turned_from env finished begun settled new first Round steps turned =
    record { begun = turned.begun; before = Steps-append steps turned.before; round = turned.round; none = turned.none }
turned_from env finished begun settled new first (GaveUp next) steps turned = turned
turned_from env finished begun settled new first Rests steps (rested rest nowhere none) = rested rest nowhere none
