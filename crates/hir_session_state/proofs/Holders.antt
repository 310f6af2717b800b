-- A run leaves a map that its start's holder holds.
use Rattle.std.proofs.Common.{◌≡◌, ◌∙◌, Bool, true, false, cond, Option, Some, None, List, [], ◌∷◌, refl, ap}
use Rattle.std.specs.Prelude.{ℕ}
use Rattle.hir_collector_rules.specs.HirDefMapRules.Overlay.{Maps}
use Rattle.hir_collector_rules.specs.HirDefMapRules.State.{Map, with_scope}
use Rattle.hir_collector_rules.specs.HirImportRules.State.{ImportState}
use Rattle.hir_collector_rules.specs.HirTables.Tables.{TablesValue}
use Rattle.hir_collector_rules.specs.Keys.{Environment}
use Rattle.hir_collector_rules.specs.State.{Core, State, import_state}
use Rattle.hir_collector_rules.specs.Changes.{Change, lists, makes, gives_variants, begins_paths, reaches, awaits, ends, settles, changes_imports, adds_textual}
use Rattle.hir_collector_rules.specs.Changes.{takes_textual, defines, describes, helps, lists_derive, notes, exports, uses_macros, tells, goes_on, act, perform}
use Rattle.hir_collector_rules.specs.Derivation.{CollectedValue, Ends}
use Rattle.hir_collector_rules.specs.Ended.{ended, exporting_scope}
use Rattle.hir_collector_rules.specs.Start.{Beginning, holder_of}
use Rattle.hir_collector_rules.specs.Steps.{Step, Steps, none, more, acts, asking}
use Rattle.hir_collector_rules.specs.Workspace.{Workspace}
use Rattle.hir_collector_rules.proofs.ImportEdits.{Edit, edit_of, edited, map_after}

-- ---- changes

edited_holder : (m : Map) (o : Option (ℕ × Edit)) → (edited m o).holder ≡ m.holder
edited_holder m None = refl
edited_holder m (Some e) = refl

act_holder : (s : State) (c : Change) → (act s c).core.map.holder ≡ s.core.map.holder
act_holder s (changes_imports c) =
    let i : ImportState = import_state s in
    ap (λ (m : Map). m.holder) (map_after i c) ∙ edited_holder i.map (edit_of i c)
act_holder s other = refl

perform_holder : (cs : List Change) (s : State) → (perform s cs).core.map.holder ≡ s.core.map.holder
perform_holder [] s = refl
perform_holder (c ∷ cs) s = perform_holder cs (act s c) ∙ act_holder s c

-- ---- steps

step_holder : {env : Environment} {finished : Maps} {old new : State} → Step env finished old new → new.core.map.holder ≡ old.core.map.holder
step_holder {finished = finished} {old = old} step =
    ap (λ (s : State). s.core.map.holder) step.is ∙ perform_holder (acts finished old step.rule) (asking old step.rule)

steps_holder : {env : Environment} {finished : Maps} {from to : State} → Steps env finished from to → to.core.map.holder ≡ from.core.map.holder
steps_holder none = refl
steps_holder (more old new before step) = step_holder step ∙ steps_holder before

-- ---- the end

ended_holder : (c : Core) → (ended c).holder ≡ c.map.holder
ended_holder c = go c.is_proc_macro
  where
    go : (b : Bool) → (cond b (with_scope c.map 0 (exporting_scope c.map.id.krate c.exported)) c.map).holder ≡ c.map.holder
    go true = refl
    go false = refl

pub ends_held : {tables : TablesValue} {w : Workspace} {finished : Maps} {from : Beginning} {answer : CollectedValue} → Ends tables w finished from answer
    → answer.map.holder ≡ holder_of from.start
ends_held e = ap (λ (m : Map). m.holder) e.map_is ∙ ended_holder e.last.core ∙ steps_holder e.derived
