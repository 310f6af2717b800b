-- What is known of globs stays true while their map grows.
use Rattle.std.proofs.Common.{◌≡◌, ◌∙◌, ap, sym, subst, ℕ, List, length, Some, inr}
use Rattle.std.proofs.lemmas.Bool.{lt-ltb}
use Rattle.std.specs.Prelude.{slice_get}
use Rattle.hir_def_map_rules.specs.Overlay.{Maps}
use Rattle.hir_glob_imports.specs.Rules.{BroughtBy}
use Rattle.hir_glob_imports.specs.Waves.{GlobsValue, IsKept, update_at}
use Rattle.hir_glob_imports.specs.declared.edge.Edge.{Edge}
use Rattle.hir_glob_imports.specs.declared.edge.Update.TheVariants.{Nothing}
use Rattle.hir_import_resolution.specs.Inner.State.{IsKeptIn, finished_by, state_by, state_in}
use Rattle.hir_import_rules.specs.Lasting.{Lasts}
use Rattle.hir_import_rules.specs.Names.{view_of}
use Rattle.hir_import_growth.specs.Growth.{GlobsLast}
use Rattle.hir_import_resolution.specs.Rounds.{RestingGlobsLast}
use Rattle.hir_import_resolution.specs.Scopes.{value_of}
use Rattle.hir_import_rules.specs.State.{ImportState, scopes_of}
use Rattle.hir_import_resolution.specs.Types.{Imports, Resolver}
use Rattle.hir_import_resolution.proofs.Starting.{lasts_through}

-- ---- where imports rest

pub globs_at_rest : RestingGlobsLast
globs_at_rest finished queue s g up lasting stand have = record {
  kept = record {
    there = λ j e is. lt-ltb e.importer (length s.map.modules) (up.importers j e (recorded j e is));
    settled =
        λ j e key is. inr (subst (λ (brought : BroughtBy). update_at (view_of (scopes_of finished s)) brought j e key ≡ Nothing) have.brought
        (up.still j e key (recorded j e is)));
    stands = λ slot by is. stand slot by (ap (λ (brought : BroughtBy). brought slot) have.brought ∙ is);
  };
  lasts = up.lasts lasting;
}
  where
    recorded : (j : ℕ) (e : Edge) → slice_get g.edges j ≡ Some e → slice_get s.edges j ≡ Some e
    recorded j e is = ap (λ (es : List Edge). slice_get es j) have.edges ∙ is

-- ---- a resolver takes them over, and hands them back

pub kept_through : (finished : Maps) (given : Imports) (r : Resolver) → state_by r ≡ state_in given → finished_by r ≡ finished → r.globs ≡ given.globs
    → IsKept (view_of (scopes_of finished (state_in given))) given.globs → IsKeptIn r
kept_through finished given r state same globs kept =
    subst (λ (g : GlobsValue). IsKept (view_of (value_of r.scopes)) g) (sym globs)
    (subst (λ (f : Maps). IsKept (view_of (scopes_of f (state_by r))) given.globs) (sym same)
    (subst (λ (s : ImportState). IsKept (view_of (scopes_of finished s)) given.globs) (sym state) kept))

pub globs_after : (f : Maps) (left : Imports) (r : Resolver) → finished_by r ≡ f → state_in left ≡ state_by r → left.globs ≡ r.globs → IsKeptIn r
    → Lasts (finished_by r) (state_by r)
    → GlobsLast f (state_in left) left.globs
globs_after f left r same state globs kept lasts = record {
  kept =
      subst (λ (g : GlobsValue). IsKept (view_of (scopes_of f (state_in left))) g) (sym globs)
      (subst (λ (s : ImportState). IsKept (view_of (scopes_of f s)) r.globs) (sym state)
      (subst (λ (x : Maps). IsKept (view_of (scopes_of x (state_by r))) r.globs) same kept));
  lasts = lasts_through (finished_by r) f (state_by r) (state_in left) same (sym state) lasts;
}
