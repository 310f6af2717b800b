-- The rules by which imports are taken.
use Rattle.std.specs.Prelude.{◌≡◌, ℕ, true, List, [], ◌∷◌, map, Some, Contains, slice_get}
use Rattle.hir_nameres.specs.HirPerNs.declared.imports.GlobId.{GlobId}
use Rattle.hir_nameres.specs.HirDefMapRules.Overlay.{Maps}
use Rattle.hir_glob_imports.specs.Rules.{Rule as GlobRule, May as MayAlong, acts as glob_acts}
use Rattle.hir_glob_imports.specs.Waves.{Records}
use Rattle.hir_glob_imports.specs.declared.edge.Edge.{Edge}
use Rattle.hir_glob_imports.specs.declared.edge.Target.{Target}
use Rattle.hir_import_rules.specs.declared.directive.ImportDirective.{ImportDirective}
use Rattle.hir_import_rules.specs.Changes.{Change, along, keeps_trait, perform, pushes, records, takes}
use Rattle.hir_import_rules.specs.Directives.{TakenValue, answer_to, edge_to, glob_of, goes_beyond, kept_trait, leaf_of, name_of, namespaces_of}
use Rattle.hir_import_rules.specs.Directives.{offered_by, reached_by, taken_after, taken_for, target_of, visibility_of}
use Rattle.hir_import_rules.specs.Names.{scope_table, view_of}
use Rattle.hir_import_rules.specs.State.{ImportState, glob_state, scopes_of, ticked}

-- a rule, and what it is about
pub data Rule : Type 0 where
  -- an import binds what it reaches now
  takes_import : (i : ℕ) (r : ImportDirective) (t : TakenValue) → Rule
  -- a glob is recorded for what it reaches now, and then these are the globs that are recorded
  takes_glob : (i : ℕ) (r : ImportDirective) (t : TakenValue) (by : GlobId) (target : Target) (edges : List Edge) → Rule
  -- along a glob what stands at one end changes what stands at the other
  goes_along : (rule : GlobRule) → Rule

-- ---- when a rule may be applied

-- the import at the place reaches a namespace that none of its takings reached
pub record CanTake (finished : Maps) (s : ImportState) (i : ℕ) (r : ImportDirective) (t : TakenValue) : Type 0 where
  pub import : slice_get s.imports i ≡ Some r
  pub before : slice_get s.taken i ≡ Some t
  pub gains : goes_beyond (namespaces_of (reached_by finished s.local s.map r)) t.namespaces ≡ true

-- the import at the place is a glob, and reaches a module or an enum for which it wasn't taken
pub record CanLink (finished : Maps) (s : ImportState) (i : ℕ) (r : ImportDirective) (t : TakenValue) (by : GlobId) (target : Target) (edges : List Edge) : Type
    0 where
  pub import : slice_get s.imports i ≡ Some r
  pub before : slice_get s.taken i ≡ Some t
  pub is_glob : glob_of r.source ≡ Some by
  pub reaches : target_of finished s.local s.map r ≡ Some target
  pub fresh : ¬ Contains t.targets target
  pub recorded : Records (view_of (scopes_of finished s)) s.edges edges (edge_to finished s.local s.map r by target)

abbrev pub May : Maps → ImportState → Rule → Type 0
May finished s (takes_import i r t) = CanTake finished s i r t
May finished s (takes_glob i r t by target edges) = CanLink finished s i r t by target edges
May finished s (goes_along rule) = MayAlong scope_table (glob_state finished s) rule

-- ---- what it changes

abbrev pub acts : Maps → ImportState → Rule → List Change
acts finished s (takes_import i r t) =
    pushes r.home (name_of r) (offered_by finished s.local s.map r) (Some r.source)
    ∷ keeps_trait finished r.home (kept_trait finished s.local s.map r) (visibility_of finished s.local s.map r) (leaf_of r.source)
    ∷ takes i (taken_after t (answer_to finished s.local s.map r)) ∷ []
acts finished s (takes_glob i r t by target edges) = takes i (taken_for t target) ∷ records edges ∷ []
acts finished s (goes_along rule) = map (along finished) (glob_acts (view_of (scopes_of finished s)) rule)

-- the state once the rule is applied
abbrev pub after : Maps → ImportState → Rule → ImportState
after finished s rule = ticked (perform s (acts finished s rule))

-- one step, beside finished maps
pub record Step (finished : Maps) (old new : ImportState) : Type 0 where
  pub rule : Rule
  pub may : May finished old rule
  pub is : new ≡ after finished old rule

-- steps one after another
pub data Steps (finished : Maps) (from : ImportState) : ImportState → Type 0 where
  none : Steps finished from from
  more : (old new : ImportState) → Steps finished from old → Step finished old new → Steps finished from new
