-- What is known of an import of which a taking is due?
use Rattle.std.proofs.Common.{◌≡◌, ap, subst, refl, ℕ, ◌≤◌, Bool, true, false, List, Option, None, Some, cond}
use Rattle.std.specs.Prelude.{slice_get}
use Rattle.std.specs.Option.{option_and_then}
use Rattle.hir_nameres.specs.HirIds.declared.ids.TraitId.{TraitId}
use Rattle.hir_nameres.specs.HirPerNs.declared.imports.ImportId.{ImportId}
use Rattle.hir_nameres.specs.HirPerNs.declared.per_ns.PerNs.{PerNs}
use Rattle.hir_nameres.specs.HirPerNs.declared.visibility.Visibility.{Visibility}
use Rattle.hir_def_map_rules.specs.Overlay.{Maps}
use Rattle.hir_glob_imports.specs.Waves.{Records}
use Rattle.hir_glob_imports.specs.declared.edge.Edge.{Edge}
use Rattle.hir_glob_imports.specs.declared.step.TheConstants.{MAX_STEPS}
use Rattle.hir_import_resolution.specs.Types.{Taking}
use Rattle.hir_import_rules.specs.declared.directive.ImportDirective.{ImportDirective}
use Rattle.hir_import_rules.specs.declared.directive.ImportSource.{ImportSource}
use Rattle.hir_import_rules.specs.Changes.{bound_as, with_kept}
use Rattle.hir_import_rules.specs.Directives.{TakenValue, edge_to, goes_beyond, leaf_of, namespaces_of, reached_by, taken_after, taken_for}
use Rattle.hir_import_resolution.specs.Inner.Steps.{IsLinking, taking_at, taking_for, taking_of}
use Rattle.hir_import_rules.specs.Names.{view_of}
use Rattle.hir_import_rules.specs.Rest.{IsSpent}
use Rattle.hir_import_rules.specs.Rules.{Step, none, takes_glob, takes_import}
use Rattle.hir_import_rules.specs.State.{ImportState, scopes_of, ticked, with_taken}

-- the import at the place, what its takings reached before, and that it reaches another namespace
pub record Due (finished : Maps) (s : ImportState) (i : ℕ) (taking : Taking) : Type 0 where
  pub r : ImportDirective
  pub t : TakenValue
  pub import : slice_get s.imports i ≡ Some r
  pub before : slice_get s.taken i ≡ Some t
  pub gains : goes_beyond (namespaces_of (reached_by finished s.local s.map r)) t.namespaces ≡ true
  pub is : taking ≡ taking_for finished s r

pub due : (finished : Maps) (s : ImportState) (i : ℕ) (taking : Taking) → taking_at finished s i ≡ Some taking → Due finished s i taking
due finished s i taking e = go (slice_get s.imports i) refl (slice_get s.taken i) refl e
  where
    gained : (r : ImportDirective) (t : TakenValue) → slice_get s.imports i ≡ Some r → slice_get s.taken i ≡ Some t
        → (b : Bool) → goes_beyond (namespaces_of (reached_by finished s.local s.map r)) t.namespaces ≡ b
        → cond b (Some (taking_for finished s r)) None ≡ Some taking → Due finished s i taking
    gained r t f g false h e = absurd cc
    gained r t f g true h e = record { r = r; t = t; import = f; before = g; gains = h; is = cc }

    go : (o : Option ImportDirective) → slice_get s.imports i ≡ o → (p : Option TakenValue) → slice_get s.taken i ≡ p
        → option_and_then (λ (r : ImportDirective). option_and_then (λ (t : TakenValue). taking_of finished s r t) p) o ≡ Some taking → Due finished s i taking
    go None f p g e = absurd cc
    go (Some r) f None g e = absurd cc
    go (Some r) f (Some t) g e = gained r t f g (goes_beyond (namespaces_of (reached_by finished s.local s.map r)) t.namespaces) refl e

-- ---- to take it is a step

-- the state in which the import is taken
abbrev pub taken_to : Maps → ImportState → ℕ → Taking → TakenValue → ImportState
taken_to finished s i taking t =
    ticked (with_taken (with_kept finished (bound_as s taking.home taking.name taking.items (Some taking.source)) taking.home taking.kept taking.vis
    (leaf_of taking.source)) i t)

pub taking_steps : (finished : Maps) (s : ImportState) (i : ℕ) (taking : Taking) (d : Due finished s i taking)
    → Step finished s (taken_to finished s i taking (taken_after d.t taking.answer))
taking_steps finished s i taking d = record {
  rule = takes_import i d.r d.t;
  may = record { import = d.import; before = d.before; gains = d.gains };
  is = ap (λ (taking : Taking). taken_to finished s i taking (taken_after d.t taking.answer)) d.is;
}

-- where no step may be counted, one might have been taken
pub taking_spent : (finished : Maps) (s : ImportState) (i : ℕ) (taking : Taking) → taking_at finished s i ≡ Some taking → MAX_STEPS ≤ s.count
    → IsSpent finished s
taking_spent finished s i taking e full =
    let d = due finished s i taking e in
    record { at = s; steps = none; next = taken_to finished s i taking (taken_after d.t taking.answer); step = taking_steps finished s i taking d; full = full }

-- what is noted of the takings, and counted, has no part in what is bound
pub noted_apart : (finished : Maps) (s : ImportState) (i : ℕ) (t : TakenValue) (home : ℕ) (name : Option (List ℕ)) (items : PerNs)
    (source : Option ImportSource)
    (kept : Option TraitId) (vis : Visibility) (leaf : Option ImportId)
    → with_kept finished (bound_as (ticked (with_taken s i t)) home name items source) home kept vis leaf
    ≡ ticked (with_taken (with_kept finished (bound_as s home name items source) home kept vis leaf) i t)
noted_apart finished s i t home None items source None vis leaf = refl
noted_apart finished s i t home None items source (Some id) vis leaf = refl
noted_apart finished s i t home (Some name) items source None vis leaf = refl
noted_apart finished s i t home (Some name) items source (Some id) vis leaf = refl

-- ---- to record it is one

-- the state in which the glob is recorded
abbrev pub linked_to : ImportState → ℕ → TakenValue → List Edge → ImportState
linked_to s i t edges = ticked (record (with_taken s i t) { edges = edges })

pub linking_steps : (finished : Maps) (s : ImportState) (i : ℕ) (edge : Edge) (edges : List Edge) (d : IsLinking finished s i edge)
    → Records (view_of (scopes_of finished s)) s.edges edges edge → Step finished s (linked_to s i (taken_for d.t edge.source) edges)
linking_steps finished s i edge edges d recorded = record {
  rule = takes_glob i d.r d.t d.by d.target edges;
  may = record { import = d.import; before = d.before; is_glob = d.is_glob; reaches = d.reaches; fresh = d.fresh; recorded = is_recorded };
  is = ap (λ (e : Edge). linked_to s i (taken_for d.t e.source) edges) d.is;
}
  where
    is_recorded : Records (view_of (scopes_of finished s)) s.edges edges (edge_to finished s.local s.map d.r d.by d.target)
    is_recorded = subst (Records (view_of (scopes_of finished s)) s.edges edges) d.is recorded

pub linking_spent : (finished : Maps) (s : ImportState) (i : ℕ) (edge : Edge) (edges : List Edge) → IsLinking finished s i edge
    → Records (view_of (scopes_of finished s)) s.edges edges edge → MAX_STEPS ≤ s.count → IsSpent finished s
linking_spent finished s i edge edges d recorded full =
    record {
      at = s;
      steps = none;
      next = linked_to s i (taken_for d.t edge.source) edges;
      step = linking_steps finished s i edge edges d recorded;
      full = full;
    }
