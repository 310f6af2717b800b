-- Steps of imports are steps of the run.
use Rattle.std.proofs.Common.{◌≡◌, ◌∙◌, List, [], ◌∷◌, map as list_map, inl, refl, sym, ap, subst}
use Rattle.hir_collector_state.specs.HirDefMapRules.Overlay.{Maps}
use Rattle.hir_collector_state.specs.HirImportRules.Changes.{Change as ImportChange, act as act_on_imports, perform as perform_on_imports}
use Rattle.hir_collector_state.specs.HirImportRules.Rest as rest
use Rattle.hir_collector_state.specs.HirImportRules.Rules as imports
use Rattle.hir_collector_state.specs.HirImportRules.State.{ImportState}
use Rattle.hir_collector_rules.specs.Changes.{act, changes_imports, perform}
use Rattle.hir_collector_rules.specs.Derivation.{IsSpent, counted_out}
use Rattle.hir_collector_rules.specs.Keys.{Environment}
use Rattle.hir_collector_rules.specs.State.{State, import_state, ticked, with_import_state}
use Rattle.hir_collector_rules.specs.Steps as steps
use Rattle.hir_collector_rules.specs.Steps.{Step, Steps, resolves_imports}
use Rattle.hir_collector_state.proofs.Made.{made}

-- changes one after another, where each changes a part of a whole
module _ {S I C D : Type 0} (act_s : S → D → S) (act_i : I → C → I) (wrap : C → D) (put : S → I → S) (perform_s : S → List D → S) (perform_i : I → List C → I)
    (none_s : (s : S) → perform_s s [] ≡ s) (more_s : (s : S) (d : D) (ds : List D) → perform_s s (d ∷ ds) ≡ perform_s (act_s s d) ds)
    (none_i : (i : I) → perform_i i [] ≡ i) (more_i : (i : I) (c : C) (cs : List C) → perform_i i (c ∷ cs) ≡ perform_i (act_i i c) cs)
    (same : (s : S) (i : I) (c : C) → act_s (put s i) (wrap c) ≡ put s (act_i i c)) where
  performed : (cs : List C) (s : S) (i : I) → perform_s (put s i) (list_map wrap cs) ≡ put s (perform_i i cs)
  performed [] s i = none_s (put s i) ∙ ap (put s) (sym (none_i i))
  performed (c ∷ cs) s i =
      more_s (put s i) (wrap c) (list_map wrap cs)
      ∙ ap (λ (t : S). perform_s t (list_map wrap cs)) (same s i c)
      ∙ performed cs s (act_i i c)
      ∙ ap (put s) (sym (more_i i c cs))

-- changes of imports are those of the run
pub perform-imports : (s : State) (i : ImportState) (cs : List ImportChange) → perform (with_import_state s i) (list_map changes_imports cs)
    ≡ with_import_state s (perform_on_imports i cs)
perform-imports s i cs =
    performed act act_on_imports changes_imports with_import_state perform perform_on_imports (λ s. refl) (λ s d ds. refl) (λ i. refl) (λ i c cs. refl)
    (λ s i c. refl) cs s i

module _ {env : Environment} {finished : Maps} where
  -- a step of imports is one of the run
  pub import_step : (s : State) {i j : ImportState} → imports.Step finished i j → Step env finished (with_import_state s i) (with_import_state s j)
  import_step s {i = i} {j = j} step =
      made (resolves_imports step.rule) step.may tt tt
      (ap (with_import_state s) step.is ∙ ap ticked (sym (perform-imports s i (imports.acts finished i step.rule))))

  pub import_steps : (s : State) {i j : ImportState} → imports.Steps finished i j → Steps env finished (with_import_state s i) (with_import_state s j)
  import_steps s imports.none = steps.none
  import_steps s (imports.more old new before step) =
      steps.more (with_import_state s old) (with_import_state s new) (import_steps s before) (import_step s step)

  -- where imports lead on to as many as are counted, so does the run
  pub import_spent : (s : State) {i : ImportState} → rest.IsSpent finished i → IsSpent env finished (with_import_state s i)
  import_spent s spent = record {
    at = with_import_state s spent.at;
    steps = import_steps s spent.steps;
    stuck = counted_out (with_import_state s spent.next) (import_step s spent.step) (inl spent.full);
  }

  -- the same from where imports stand
  pub steps_from : (s : State) (i : ImportState) {j : ImportState} → i ≡ import_state s → imports.Steps finished i j
      → Steps env finished s (with_import_state s j)
  steps_from s i {j = j} is steps =
      subst (λ (from : State). Steps env finished from (with_import_state s j)) (ap (with_import_state s) is) (import_steps s steps)

  pub spent_from : (s : State) (i : ImportState) → i ≡ import_state s → rest.IsSpent finished i → IsSpent env finished s
  spent_from s i is spent = subst (λ (from : State). IsSpent env finished from) (ap (with_import_state s) is) (import_spent s spent)
