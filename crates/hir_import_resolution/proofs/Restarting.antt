-- Where a resolver starts whose globs are looked at again, and what it hands back.
use Rattle.std.proofs.Common.{◌≡◌, ◌∙◌, ap, sym, subst, ℕ, true, [], Some, length}
use Rattle.std.proofs.lemmas.Bool.{lt-ltb, ltb-true}
use Rattle.std.specs.Prelude.{slice_get}
use Rattle.hir_def_map_rules.specs.Overlay.{Maps}
use Rattle.hir_glob_imports.proofs.Resting.{waved}
use Rattle.hir_glob_imports.proofs.Taking.{brought_by_list}
use Rattle.hir_glob_imports.specs.Waves.{GlobsValue}
use Rattle.hir_glob_imports.specs.declared.edge.Edge.{Edge}
use Rattle.hir_import_resolution.specs.Types.{ImportQueue, Resolver}
use Rattle.hir_import_resolution.specs.Inner.State.{AreRecorded, IsKeptIn, finished_by, queue_by, state_by, with_globs}
use Rattle.hir_import_rules.specs.Names.{view_of}
use Rattle.hir_import_rules.specs.Rest.{IsClosed, IsRecorded, IsSound}
use Rattle.hir_import_resolution.specs.Scopes.{value_of}
use Rattle.hir_import_rules.specs.State.{ImportState, scopes_of}

-- ---- the globs

-- imports stand where they stood with globs that have the same edges and brought the same
pub same_state : (r : Resolver) (g : GlobsValue) → g.edges ≡ r.globs.edges → g.brought ≡ r.globs.brought → state_by (record r { globs = g }) ≡ state_by r
same_state r g edges brought = λ i. record (state_by r) { edges = edges i; brought = brought_by_list g r.globs brought i }

-- each edge leads to a module that globs see
pub has_importers : (r : Resolver) → IsSound (finished_by r) (state_by r) → (j : ℕ) (e : Edge) → slice_get r.globs.edges j ≡ Some e
    → (view_of (value_of r.scopes)).has e.importer ≡ true
has_importers r sound j e is = lt-ltb e.importer (length r.scopes.map.modules) (sound.there j e is)

-- ---- where it starts

-- where it stands that took imports over
pub record Reopened (finished : Maps) (queue : ImportQueue) (s : ImportState) (r : Resolver) : Type 0 where
  pub state : state_by r ≡ s
  pub beside : finished_by r ≡ finished
  pub queued : queue_by r ≡ queue
  pub fresh : r.changes.items ≡ []
  pub unreported : r.reported.items ≡ []

pub reopened : (finished : Maps) (queue : ImportQueue) (s : ImportState) (r0 r : Resolver) → state_by r0 ≡ s → finished_by r0 ≡ finished → queue_by r0 ≡ queue
    → r0.changes.items ≡ [] → r0.reported.items ≡ []
    → state_by r ≡ state_by r0 → r ≡ with_globs r0 r0.scopes r.globs → Reopened finished queue s r
reopened finished queue s r0 r state beside queued fresh unreported same rest = record {
  state = same ∙ state;
  beside = ap finished_by rest ∙ beside;
  queued = ap queue_by rest ∙ queued;
  fresh = ap (λ (x : Resolver). x.changes.items) rest ∙ fresh;
  unreported = ap (λ (x : Resolver). x.reported.items) rest ∙ unreported;
}

pub sound_through : (f g : Maps) (b d : ImportState) → f ≡ g → d ≡ b → IsSound f b → IsSound g d
sound_through f g b d same last sound = subst (λ (x : Maps). IsSound x d) same (subst (λ (s : ImportState). IsSound f s) (sym last) sound)

pub recorded_in : (s : ImportState) (r : Resolver) → state_by r ≡ s → ((i : ℕ) → IsRecorded s i) → AreRecorded r
recorded_in s r state recorded = λ i. subst (λ (x : ImportState). IsRecorded x i) (sym state) (recorded i)

-- ---- what it hands back

pub sound_after : (f : Maps) (s : ImportState) (r : Resolver) → IsKeptIn r → AreRecorded r → finished_by r ≡ f → s ≡ state_by r → IsSound f s
sound_after f s r kept recorded same state = sound_through (finished_by r) f (state_by r) s same state (record {
  there = λ j e is. ltb-true e.importer (length r.scopes.map.modules) (kept.there j e is);
  stands = λ q by is. kept.stands q by is;
  recorded = recorded;
})

pub closed_after : (f : Maps) (s : ImportState) (r : Resolver) → IsKeptIn r → r.globs.pending ≡ [] → finished_by r ≡ f → s ≡ state_by r → IsClosed f s
closed_after f s r kept none same state =
    subst (λ (x : Maps). IsClosed x s) same
    (subst (λ (x : ImportState). IsClosed (finished_by r) x) (sym state) (waved (view_of (scopes_of (finished_by r) (state_by r))) r.globs kept none))
