-- What imports change is noted.
use Rattle.std.proofs.Common.{◌≡◌, ◌≢◌, ◌⊎◌, inl, inr, ap, refl, Bool, true, false, List, arith}
use Rattle.hir_collector_state.specs.HirDefMapRules.Overlay.{Maps}
use Rattle.hir_collector_state.specs.HirNameres.declared.nameres.path_resolution.slots.Slot.{Slot as PathSlot}
use Rattle.hir_collector_state.specs.HirDefMapLaws.SlotChanges.{ScopesChangeAmong}
use Rattle.hir_collector_state.specs.HirImportRules.Changed.{everything, with_slots}
use Rattle.hir_import_resolution.proofs.Counting.{step_count, steps_count}
use Rattle.hir_collector_state.specs.HirImportRules.Rules.{Steps, more, none}
use Rattle.hir_collector_state.specs.HirImportRules.State.{ImportState}
use Rattle.hir_collector_rules.specs.State.{Run, at_rest, core_in, import_state}
use Rattle.hir_collector_state.specs.Waiting.{NotesSlots}
use Rattle.hir_collector_rules.proofs.Bound.{number_same_or_not}
use Rattle.hir_collector_state.proofs.Noted.{slots_everything, slots_same}
use Rattle.hir_collector_imports.proofs.NotedSlots.{slots_with}

-- where no step is counted, none was taken
stood_still : (finished : Maps) (a b : ImportState) → Steps finished a b → b.count ≡ a.count → b ≡ a
stood_still finished a _ none same = refl
stood_still finished a b (more old _ steps step) same = absurd (omega (arith, steps_count finished a old steps, step_count finished old b step, same))

-- all is noted where a step was taken, and where none was nothing has changed
module _ (finished : Maps) (a b : Run) (steps : Steps finished (import_state (at_rest (core_in a))) (import_state (at_rest (core_in b))))
    (still : b.count ≡ a.count → b.changed ≡ a.changed) (moves : b.count ≢ a.count → b.changed ≡ everything) where
  noted_stood : b.count ≡ a.count → NotesSlots a b
  unfolding core_in
  noted_stood same =
      let is : import_state (at_rest (core_in b)) ≡ import_state (at_rest (core_in a)) = stood_still finished (import_state (at_rest (core_in a)))
      (import_state (at_rest (core_in b))) steps same in
      slots_same a b (ap (λ (s : ImportState). s.map) is) (ap (λ (s : ImportState). s.local) is) (still same)

  pub noted_imports : NotesSlots a b
  noted_imports = go (number_same_or_not b.count a.count)
    where
      go : (b.count ≡ a.count) ⊎ (b.count ≢ a.count) → NotesSlots a b
      go (inl same) = noted_stood same
      go (inr other) = slots_everything a b (moves other)

-- the slots that imports changed are noted where those are known, and all otherwise
pub noted_taken : (finished : Maps) (a b : Run) (apart : Bool) (slots : List PathSlot) → Steps finished (import_state (at_rest (core_in a)))
    (import_state (at_rest (core_in b)))
    → (apart ≡ true → ScopesChangeAmong a.map b.map a.local slots) → b.local ≡ a.local → (apart ≡ true → b.changed ≡ with_slots slots a.changed)
    → (apart ≡ false → b.count ≡ a.count → b.changed ≡ a.changed) → (apart ≡ false → b.count ≢ a.count → b.changed ≡ everything) → NotesSlots a b
noted_taken finished a b true slots steps among local known still moves = slots_with finished a b slots steps (among refl) local (known refl)
noted_taken finished a b false slots steps among local known still moves = noted_imports finished a b steps (still refl) (moves refl)
