-- Steps one after another, and how many they are.
use Rattle.std.proofs.Common.{◌≡◌, ◌∙◌, ap, refl, ◌+◌, ◌<◌, ◌≤◌, List, [], ◌∷◌, None, Some, arith}
use Rattle.hir_def_map_rules.specs.Overlay.{Maps}
use Rattle.hir_glob_imports.specs.Rules.{brings, copies, follows, raises}
use Rattle.hir_import_rules.specs.Changes.{Change, act, along, keeps_trait, perform, pushes, records, takes}
use Rattle.hir_import_rules.specs.Rest.{IsSpent}
use Rattle.hir_import_rules.specs.Rules.{Step, Steps, acts, more, none}
use Rattle.hir_import_rules.specs.State.{ImportState}

act_count : (s : ImportState) (c : Change) → (act s c).count ≡ s.count
act_count s (pushes home None items source) = refl
act_count s (pushes home (Some name) items source) = refl
act_count s (keeps_trait finished home None vis import) = refl
act_count s (keeps_trait finished home (Some id) vis import) = refl
act_count s (takes i t) = refl
act_count s (records edges) = refl
act_count s (along finished (copies slot of vis by)) = refl
act_count s (along finished (brings slot by)) = refl
act_count s (along finished (follows slot of vis)) = refl
act_count s (along finished (raises slot vis)) = refl

perform_count : (s : ImportState) (cs : List Change) → (perform s cs).count ≡ s.count
perform_count s [] = refl
perform_count s (c ∷ cs) = perform_count (act s c) cs ∙ act_count s c

-- a step counts as one
pub step_count : (finished : Maps) (a b : ImportState) → Step finished a b → b.count ≡ a.count + 1
step_count finished a b step = ap (λ (s : ImportState). s.count) step.is ∙ ap (λ n. n + 1) (perform_count a (acts finished a step.rule))

pub steps_count : (finished : Maps) (a b : ImportState) → Steps finished a b → a.count ≤ b.count
steps_count finished a _ none = omega arith
steps_count finished a b (more old _ steps step) = omega (arith, steps_count finished a old steps, step_count finished old b step)

pub steps_append : (finished : Maps) (a b c : ImportState) → Steps finished a b → Steps finished b c → Steps finished a c
steps_append finished a b _ first none = first
steps_append finished a b c first (more old _ steps step) = more old c (steps_append finished a b old first steps) step

pub step_first : (finished : Maps) (a b c : ImportState) → Step finished a b → Steps finished b c → Steps finished a c
step_first finished a b c step steps = steps_append finished a b c (more a b none step) steps

-- steps that lead to where as many as are counted lead on
pub spent_after : (finished : Maps) (a b : ImportState) → Steps finished a b → IsSpent finished b → IsSpent finished a
spent_after finished a b steps spent =
    record { at = spent.at; steps = steps_append finished a b spent.at steps spent.steps; next = spent.next; step = spent.step; full = spent.full }

pub spent_first : (finished : Maps) (a b : ImportState) → Step finished a b → IsSpent finished b → IsSpent finished a
spent_first finished a b step spent = spent_after finished a b (more a b none step) spent

-- a step, and steps after it
pub counts_on : (finished : Maps) (a b c : ImportState) → Step finished a b → Steps finished b c → a.count < c.count
counts_on finished a b c step steps = omega (arith, step_count finished a b step, steps_count finished b c steps)

-- ---- the crates that paths may begin with stay

act_local : (s : ImportState) (c : Change) → (act s c).local ≡ s.local
act_local s (pushes home None items source) = refl
act_local s (pushes home (Some name) items source) = refl
act_local s (keeps_trait finished home None vis import) = refl
act_local s (keeps_trait finished home (Some id) vis import) = refl
act_local s (takes i t) = refl
act_local s (records edges) = refl
act_local s (along finished (copies slot of vis by)) = refl
act_local s (along finished (brings slot by)) = refl
act_local s (along finished (follows slot of vis)) = refl
act_local s (along finished (raises slot vis)) = refl

performed_local : (s : ImportState) (changes : List Change) → (perform s changes).local ≡ s.local
performed_local s [] = refl
performed_local s (c ∷ changes) = performed_local (act s c) changes ∙ act_local s c

pub steps_local : (finished : Maps) (a b : ImportState) → Steps finished a b → b.local ≡ a.local
steps_local finished a _ none = refl
steps_local finished a b (more old _ before step) =
    ap (λ (s : ImportState). s.local) step.is ∙ performed_local old (acts finished old step.rule) ∙ steps_local finished a old before
