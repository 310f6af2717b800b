-- What is due of an import?
use Rattle.std.specs.Prelude.{◌≡◌, ℕ, Option, None, Some, Contains, slice_get, cond}
use Rattle.std.specs.Option.{option_and_then}
use Rattle.hir_def_map_rules.specs.Overlay.{Maps}
use Rattle.hir_nameres.specs.HirPerNs.declared.imports.GlobId.{GlobId}
use Rattle.hir_glob_imports.specs.declared.edge.Edge.{Edge}
use Rattle.hir_glob_imports.specs.declared.edge.Target.{Target}
use Rattle.hir_import_rules.specs.declared.directive.ImportDirective.{ImportDirective}
use Rattle.hir_import_resolution.specs.declared.resolver.steps.Taking.{Taking}
use Rattle.hir_import_rules.specs.Directives.{TakenValue, answer_to, edge_to, glob_of, goes_beyond, kept_trait, name_of, namespaces_of, offered_by}
use Rattle.hir_import_rules.specs.Directives.{reached_by, target_of, visibility_of}
use Rattle.hir_import_rules.specs.State.{ImportState}

-- what is to be done to take an import
abbrev pub taking_for : Maps → ImportState → ImportDirective → Taking
taking_for finished s r = record {
  home = r.home;
  name = name_of r;
  items = offered_by finished s.local s.map r;
  source = r.source;
  kept = kept_trait finished s.local s.map r;
  vis = visibility_of finished s.local s.map r;
  answer = answer_to finished s.local s.map r;
}

-- that is due where it reaches a namespace that its takings before didn't reach
abbrev pub taking_of : Maps → ImportState → ImportDirective → TakenValue → Option Taking
taking_of finished s r t = cond (goes_beyond (namespaces_of (reached_by finished s.local s.map r)) t.namespaces) (Some (taking_for finished s r)) None

-- the taking that is due of the import at the place, if one is
abbrev pub taking_at : Maps → ImportState → ℕ → Option Taking
taking_at finished s i = option_and_then (λ r. option_and_then (λ t. taking_of finished s r t) (slice_get s.taken i)) (slice_get s.imports i)

-- the edge is to be recorded of the glob at the place: to what its path reaches, for which it wasn't taken
pub record IsLinking (finished : Maps) (s : ImportState) (i : ℕ) (edge : Edge) : Type 0 where
  pub r : ImportDirective
  pub t : TakenValue
  pub by : GlobId
  pub target : Target
  pub import : slice_get s.imports i ≡ Some r
  pub before : slice_get s.taken i ≡ Some t
  pub is_glob : glob_of r.source ≡ Some by
  pub reaches : target_of finished s.local s.map r ≡ Some target
  pub fresh : ¬ Contains t.targets target
  pub is : edge ≡ edge_to finished s.local s.map r by target

-- the glob at the place was taken for what its path reaches
pub record IsLinkedAt (finished : Maps) (s : ImportState) (i : ℕ) : Type 0 where
  pub linked : (r : ImportDirective) (t : TakenValue) (by : GlobId) (target : Target) → slice_get s.imports i ≡ Some r → slice_get s.taken i ≡ Some t
      → glob_of r.source ≡ Some by → target_of finished s.local s.map r ≡ Some target → Contains t.targets target
