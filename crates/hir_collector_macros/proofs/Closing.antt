-- A module that is closed behind its items.
use Rattle.std.proofs.Common.{◌≡◌, ℕ, true, ◌∷◌, map, refl}
use Rattle.hir_collector_state.specs.HirDefMapRules.Overlay.{Maps}
use Rattle.hir_collector_state.specs.HirCollectorRules.Keys.{Environment}
use Rattle.hir_collector_state.specs.HirCollectorRules.State.{closes, Core, joined, counted, with_map}
use Rattle.hir_collector_state.specs.HirCollectorRules.Steps.{Steps, behind, none, closes_module, closing}
use Rattle.hir_collector_state.specs.HirCollectorRules.Macros.{textual_at, with_textual_scope}
use Rattle.hir_collector_state.specs.HirCollectorRules.Derivation.{IsFull, counted_out}
use Rattle.hir_collector_state.specs.HirCollectorRules.Moves.{Walks, WalksTooFar}
use Rattle.hir_collector_state.proofs.HirCollectorRules.Moves.{Steps-one}
use Rattle.hir_collector_state.proofs.Made.{Goes, made}
use Rattle.hir_collector_macros.proofs.Progress.{goes_closing}

-- a module that is closed
pub closed : {env : Environment} {finished : Maps} (parent child : ℕ) (old new : Core) → new
    ≡ counted (with_map old (with_textual_scope old.map parent (textual_at old.map child)))
    → Walks env finished old new (closing true parent child)
closed {env} {finished} parent child old new is = record { steps = λ rest. Steps-one (made (closes_module parent child rest) refl tt tt (rw is refl)) }

pub closed_far : {env : Environment} {finished : Maps} (parent child : ℕ) (old : Core) → IsFull old.count old.map → WalksTooFar env finished old
    (closing true parent child)
closed_far {env} {finished} parent child old full = record {
  spent = λ rest.
      let goes : Goes env finished (joined old (closes parent child ∷ rest)) = goes_closing env finished (joined old (closes parent child ∷ rest)) rest parent
      child refl in
      record { at = joined old (closes parent child ∷ rest); steps = none; stuck = counted_out goes.next goes.step full };
}
