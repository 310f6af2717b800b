-- What no change alters, and what changes keep that each of them keeps.
use Rattle.std.proofs.Common.{◌<◌, ◌≡◌, ◌∙◌, ◌+◌, ◌++◌, ℕ, Bool, true, false, cond, Option, Some, None, List, [], ◌∷◌, map as list_map, refl, sym, ap}
use Rattle.std.proofs.Common.{append-nil, append_assoc, ◌≤◌, arith}
use Rattle.hir_nameres.specs.HirIds.declared.ast_id.AstId.{AstId}
use Rattle.hir_nameres.specs.HirIds.declared.macro_kind.MacroExpander.{MacroExpander}
use Rattle.hir_nameres.specs.HirIds.declared.macro_kind.MacroId.{MacroId}
use Rattle.hir_nameres.specs.HirIds.declared.ids.ModuleId.{ModuleId}
use Rattle.hir_item_tree.specs.KeptForest.{Head}
use Rattle.hir_nameres.specs.HirPerNs.PerNs.{macros_only}
use Rattle.hir_nameres.specs.HirPerNs.declared.visibility.Visibility.TheVariants as visibilities
use Rattle.hir_nameres.specs.HirDefMapRules.Overlay.{Maps}
use Rattle.hir_nameres.specs.HirDefMapRules.State.{Map}
use Rattle.hir_nameres.specs.HirMapParts.declared.derive_helpers.DeriveHelper.{DeriveHelper}
use Rattle.hir_import_rules.specs.Changes.{Change as ImportChange, pushes}
use Rattle.hir_import_rules.specs.State.{ImportState}
use Rattle.hir_collector_rules.specs.Types.{Key, MacroDirective}
use Rattle.hir_collector_rules.specs.Keys.{Environment}
use Rattle.hir_collector_rules.specs.State.{State, import_state}
use Rattle.hir_collector_rules.specs.Changes.{Change, lists, makes, gives_variants, begins_paths, reaches, awaits, ends, settles, changes_imports, adds_textual}
use Rattle.hir_collector_rules.specs.Changes.{takes_textual, defines, describes, helps, lists_derive, notes, exports, uses_macros, tells, goes_on, act, perform}
use Rattle.hir_collector_rules.specs.Calls.{path_of_call}
use Rattle.hir_collector_rules.specs.Macros.{is_exported}
use Rattle.hir_collector_rules.specs.Reports.{failed_call, is_unimplemented, unimplemented_macro}
use Rattle.hir_collector_rules.specs.Steps.{Step, Steps, none, more, acts, asking, bringing, exporting, failing, keys_read, reads, reporting, with_keys}
use Rattle.hir_collector_rules.proofs.ImportEdits.{count_after, crate_data_edited, edit_of, id_edited, map_after}

-- ---- what no change alters

pub record Keeps (old new : State) : Type 0 where
  pub count : new.core.count ≡ old.core.count
  pub id : new.core.map.id ≡ old.core.map.id
  pub crate_data : new.core.map.crate_data ≡ old.core.map.crate_data
  pub dependencies : new.core.dependencies ≡ old.core.dependencies
  pub asked : new.core.asked ≡ old.core.asked

Keeps-trans : {a b c : State} → Keeps a b → Keeps b c → Keeps a c
Keeps-trans p q = record {
  count = q.count ∙ p.count;
  id = q.id ∙ p.id;
  crate_data = q.crate_data ∙ p.crate_data;
  dependencies = q.dependencies ∙ p.dependencies;
  asked = q.asked ∙ p.asked;
}

pub Keeps-act : (s : State) (c : Change) → Keeps s (act s c)
Keeps-act s (gives_variants id variants) = record { count = refl; id = refl; crate_data = refl; dependencies = refl; asked = refl }
Keeps-act s (changes_imports c) =
    let i : ImportState = import_state s in
    record {
      count = count_after i c;
      id = ap (λ (m : Map). m.id) (map_after i c) ∙ id_edited i (edit_of i c);
      crate_data = ap (λ (m : Map). m.crate_data) (map_after i c) ∙ crate_data_edited i (edit_of i c);
      dependencies = refl;
      asked = refl;
    }
Keeps-act s other = record { count = refl; id = refl; crate_data = refl; dependencies = refl; asked = refl }

pub Keeps-perform : (cs : List Change) (s : State) → Keeps s (perform s cs)
Keeps-perform [] s = record { count = refl; id = refl; crate_data = refl; dependencies = refl; asked = refl }
Keeps-perform (c ∷ cs) s = Keeps-trans (Keeps-act s c) (Keeps-perform cs (act s c))

-- ---- what each change keeps, where it is fine in the state in which it is made

abbrev pub AllFine : (State → Change → Type 0) → State → List Change → Type 0
AllFine Fine s [] = Unit {0}
AllFine Fine s (c ∷ cs) = Fine s c × AllFine Fine (act s c) cs

pub perform_keeps : (P : State → Type 0) (Fine : State → Change → Type 0) → ((s : State) (c : Change) → P s → Fine s c → P (act s c))
    → (cs : List Change) (s : State) → P s → AllFine Fine s cs → P (perform s cs)
perform_keeps P Fine keeps [] s p fine = p
perform_keeps P Fine keeps (c ∷ cs) s p fine = perform_keeps P Fine keeps cs (act s c) (keeps s c p fine.0) fine.1

-- where each change of imports is fine
pub all_fine : (Fine : State → Change → Type 0) → ((s : State) (c : ImportChange) → Fine s (changes_imports c)) → (cs : List ImportChange) (s : State)
    → AllFine Fine s (list_map changes_imports cs)
all_fine Fine fine [] s = tt
all_fine Fine fine (c ∷ cs) s = (fine s c, all_fine Fine fine cs (act s (changes_imports c)))

-- ---- changes one after another

pub perform-append : (cs ds : List Change) (s : State) → perform s (cs ++ ds) ≡ perform (perform s cs) ds
perform-append [] ds s = refl
perform-append (c ∷ cs) ds s = perform-append cs ds (act s c)

pub fine-append : (Fine : State → Change → Type 0) (cs ds : List Change) (s : State) → AllFine Fine s cs → AllFine Fine (perform s cs) ds
    → AllFine Fine s (cs ++ ds)
fine-append Fine [] ds s f g = g
fine-append Fine (c ∷ cs) ds s f g = (f.0, fine-append Fine cs ds (act s c) f.1 g)

-- what is reported of a call
pub fine_failing : (Fine : State → Change → Type 0) (at : ModuleId) (d : MacroDirective) (error : Option (List ℕ))
    → ((s : State) (text : List ℕ) → Fine s (tells (failed_call at d.ast_id (path_of_call d) text))) → (s : State) → AllFine Fine s (failing at d error)
fine_failing Fine at d None told s = tt
fine_failing Fine at d (Some error) told s = (told s error, tt)

-- helpers that a derive brings
pub fine_bringing : (Fine : State → Change → Type 0) (node : AstId) → ((s : State) (helper : DeriveHelper) → Fine s (helps node helper))
    → (helpers : List DeriveHelper) (s : State)
    → AllFine Fine s (bringing node helpers)
fine_bringing Fine node helped [] s = tt
fine_bringing Fine node helped (helper ∷ helpers) s = (helped s helper, fine_bringing Fine node helped helpers (act s (helps node helper)))

-- and what is reported behind them of a call
pub fine_expanding : (Fine : State → Change → Type 0) (node : AstId) → ((s : State) (helper : DeriveHelper) → Fine s (helps node helper))
    → (helpers : List DeriveHelper)
    → (at : ModuleId) (d : MacroDirective) (error : Option (List ℕ))
    → ((s : State) (text : List ℕ) → Fine s (tells (failed_call at d.ast_id (path_of_call d) text))) → (s : State)
    → AllFine Fine s (bringing node helpers ++ failing at d error)
fine_expanding Fine node helped helpers at d error told s =
    fine-append Fine (bringing node helpers) (failing at d error) s (fine_bringing Fine node helped helpers s)
    (fine_failing Fine at d error told (perform s (bringing node helpers)))

-- what is reported of a macro, and where it is bound besides
module _ (Fine : State → Change → Type 0) (at : ModuleId) (node : AstId) (expander : MacroExpander) (told : (s : State) → Fine s (tells (unimplemented_macro at node))) where
  pub fine_reporting : (s : State) → AllFine Fine s (reporting at node expander)
  fine_reporting s = go (is_unimplemented expander)
    where
      go : (b : Bool) → AllFine Fine s (cond b (tells (unimplemented_macro at node) ∷ []) [])
      go true = (told s, tt)
      go false = tt

  pub fine_macro : (head : Head) (name : List ℕ) (makro : MacroId)
      → ((s : State) → Fine s (changes_imports (pushes 0 (Some name) (macros_only makro visibilities.Public None) None))) → (s : State)
      → AllFine Fine s (exporting head name makro ++ reporting at node expander)
  fine_macro head name makro pushed s =
      fine-append Fine (exporting head name makro) (reporting at node expander) s (go (is_exported head.attributes))
      (fine_reporting (perform s (exporting head name makro)))
    where
      go : (b : Bool) → AllFine Fine s (cond b (changes_imports (pushes 0 (Some name) (macros_only makro visibilities.Public None) None) ∷ []) [])
      go true = (pushed s, tt)
      go false = tt

-- ---- steps

joined_keys : (asked others : List Key) → with_keys asked others ≡ asked ++ others
joined_keys asked [] = sym (append-nil asked)
joined_keys asked (key ∷ others) = joined_keys (asked ++ key ∷ []) others ∙ append_assoc asked (key ∷ []) others

module _ {env : Environment} {finished : Maps} {old new : State} (step : Step env finished old new) where
  performed : Keeps (asking old step.rule) (perform (asking old step.rule) (acts finished old step.rule))
  performed = Keeps-perform (acts finished old step.rule) (asking old step.rule)

  -- each step is counted
  pub count-Step : new.core.count ≡ old.core.count + 1
  count-Step = ap (λ (s : State). s.core.count) step.is ∙ ap (λ (n : ℕ). n + 1) performed.count

  -- a step leaves the map's id, and the crate's data
  pub id-Step : new.core.map.id ≡ old.core.map.id
  id-Step = ap (λ (s : State). s.core.map.id) step.is ∙ performed.id

  data-Step : new.core.map.crate_data ≡ old.core.map.crate_data
  data-Step = ap (λ (s : State). s.core.map.crate_data) step.is ∙ performed.crate_data

  -- it asks for what its rule reads
  pub asked-Step : new.core.asked ≡ old.core.asked ++ keys_read (reads old step.rule)
  asked-Step = ap (λ (s : State). s.core.asked) step.is ∙ performed.asked ∙ joined_keys old.core.asked (keys_read (reads old step.rule))

pub data-Steps : {env : Environment} {finished : Maps} {from to : State} → Steps env finished from to → to.core.map.crate_data ≡ from.core.map.crate_data
data-Steps none = refl
data-Steps (more old new before step) = data-Step step ∙ data-Steps before

-- steps count on
pub count-Steps : {env : Environment} {finished : Maps} {from to : State} → Steps env finished from to → from.core.count ≤ to.core.count
count-Steps none = omega arith
count-Steps (more old new before step) =
    let one : new.core.count ≡ old.core.count + 1 = count-Step step in
    let so_far = count-Steps before in
    omega (arith, one, so_far)

-- a state that is another one was come to by a step
pub counts_on : {env : Environment} {finished : Maps} {from to : State} → Steps env finished from to → ¬ (to ≡ from) → from.core.count < to.core.count
counts_on none other = absurd (other refl)
counts_on (more old new before step) other =
    let one : new.core.count ≡ old.core.count + 1 = count-Step step in
    let so_far = count-Steps before in
    omega (arith, one, so_far)

pub id-Steps : {env : Environment} {finished : Maps} {from to : State} → Steps env finished from to → to.core.map.id ≡ from.core.map.id
id-Steps none = refl
id-Steps (more old new before step) = id-Step step ∙ id-Steps before
