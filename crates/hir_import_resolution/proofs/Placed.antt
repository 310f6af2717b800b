-- Visibilities name modules that are there, whatever imports bind.
use Rattle.std.proofs.Common.{◌≡◌, ◌∙◌, ap, sym, subst, ℕ, List, length, Option, None, Some}
use Rattle.std.specs.Option.{option_map}
use Rattle.std.specs.Prelude.{slice_get}
use Rattle.hir_nameres.specs.HirIds.declared.ids.MapId.{MapId}
use Rattle.hir_nameres.specs.HirIds.declared.ids.TraitId.{TraitId}
use Rattle.hir_nameres.specs.HirPerNs.declared.per_ns.PerNs.{PerNs}
use Rattle.hir_nameres.specs.HirPerNs.declared.visibility.Visibility.{Visibility}
use Rattle.hir_def_map_rules.specs.Overlay.{Maps}
use Rattle.hir_def_map_rules.specs.State.{module_at}
use Rattle.hir_def_map_laws.specs.ReadLaw.{DiffersInScopes}
use Rattle.hir_glob_imports.specs.Keys.{slot_at}
use Rattle.hir_glob_imports.specs.Rules.{BroughtBy, with_brought}
use Rattle.hir_glob_imports.specs.View.{View}
use Rattle.hir_glob_imports.specs.Waves.{AreOfKind, GlobsValue, IsExplicit, brought_of}
use Rattle.hir_glob_imports.specs.declared.edge.Bound.{Bound}
use Rattle.hir_glob_imports.specs.declared.edge.Edge.{Edge}
use Rattle.hir_glob_imports.specs.declared.edge.Key.TheVariants.{Unnamed}
use Rattle.hir_import_rules.specs.Changes.{forgotten}
use Rattle.hir_import_resolution.specs.Inner.State.{ArePlacedIn, IsTraitPlaced, finished_by, state_by}
use Rattle.hir_import_growth.specs.Binding.{IsBound}
use Rattle.hir_import_rules.specs.Lasting.{IsPlaced, Lasts}
use Rattle.hir_import_rules.specs.Names.{bound_trait, trait_vis, view_of}
use Rattle.hir_import_resolution.specs.Scopes.{value_of}
use Rattle.hir_import_rules.specs.State.{scopes_of}
use Rattle.hir_import_resolution.specs.Types.{OpenScopes, Resolver}
use Rattle.hir_import_growth.proofs.Firm.{same_variants, still_has, still_ordered}
use Rattle.hir_import_resolution.proofs.Writes.{seen_vis}
use Rattle.hir_import_growth.proofs.Placed.{placed_through, kind_through, kind_slot, kind_bound}

-- ---- a resolver

module _ (r : Resolver) (o : OpenScopes) (g : GlobsValue) (home : ℕ) (id : o.map.id ≡ r.scopes.map.id) (count : length o.map.modules ≡ length r.scopes.map.modules) (edges : g.edges ≡ r.globs.edges) where
  abbrev after : Resolver
  after = record r { scopes = o; globs = g }

  grown : (v : View) (brought : BroughtBy) → brought_of g ≡ brought → AreOfKind (IsPlaced r.scopes.map) v r.globs.edges brought → AreOfKind (IsPlaced o.map) v
      g.edges (brought_of g)
  grown v brought is old =
      subst (λ (b : BroughtBy). AreOfKind (IsPlaced o.map) v g.edges b) (sym is)
      (subst (λ (es : List Edge). AreOfKind (IsPlaced o.map) v es brought) (sym edges)
      (kind_through (IsPlaced r.scopes.map) (IsPlaced o.map) v r.globs.edges brought (placed_through r.scopes.map o.map id count) old))

  pub placed_bound : (name : List ℕ) (items : PerNs) → brought_of g ≡ forgotten home name items (brought_of r.globs)
      → IsBound home name items (view_of (value_of r.scopes)) (view_of (value_of o)) → ArePlacedIn r → ArePlacedIn after
  placed_bound name items brought bound old =
      grown (view_of (value_of o)) (forgotten home name items (brought_of r.globs)) brought
      (kind_bound (IsPlaced r.scopes.map) r.globs.edges home name items (view_of (value_of r.scopes)) (view_of (value_of o)) (brought_of r.globs) bound old)

  trait_bound : (tr : TraitId) (vis : Option Visibility) (b : Bound) → bound_trait tr vis ≡ Some b → vis ≡ Some b.vis
  trait_bound tr vis b e = sym (seen_vis tr vis) ∙ ap (option_map (λ (x : Bound). x.vis)) e

  placed_back : (v : Visibility) → IsPlaced o.map v → IsPlaced r.scopes.map v
  placed_back v = placed_through o.map r.scopes.map (sym id) (sym count) v

  pub placed_kept : (tr : TraitId) (kept : Option TraitId) → kept ≡ Some tr → brought_of g ≡ with_brought (brought_of r.globs) (slot_at home (Unnamed tr)) None
      → IsExplicit (slot_at home (Unnamed tr)) (view_of (value_of r.scopes)) (view_of (value_of o)) → IsTraitPlaced after home kept → ArePlacedIn r
      → ArePlacedIn after
  placed_kept tr kept is brought explicit of_trait old =
      grown (view_of (value_of o)) (with_brought (brought_of r.globs) (slot_at home (Unnamed tr)) None) brought
      (kind_slot (IsPlaced r.scopes.map) r.globs.edges (view_of (value_of r.scopes)) (view_of (value_of o)) (slot_at home (Unnamed tr)) (brought_of r.globs)
      explicit.changes
      (λ unnamed b there. placed_back b.vis (of_trait tr b.vis is (trait_bound tr (trait_vis (module_at o.map home) tr) b there))) old)

-- ---- what lasts

-- what holds of globs lasts while slots change, if visibilities name modules that are there
pub lasts_changed : (r0 r1 : Resolver) (finished : Maps) → finished_by r1 ≡ finished → DiffersInScopes r0.scopes.map r1.scopes.map → r1.globs.edges
    ≡ r0.globs.edges → ArePlacedIn r1
    → Lasts finished (state_by r0) → Lasts (finished_by r1) (state_by r1)
lasts_changed r0 r1 finished same differs edges placed old = subst (λ (f : Maps). Lasts f (state_by r1)) (sym same) (record {
  of_crate = ap (λ (id : MapId). id.block) differs.id ∙ old.of_crate;
  ordered = still_ordered r0.scopes.map r1.scopes.map differs finished old.ordered;
  placed = subst (λ (f : Maps). AreOfKind (IsPlaced r1.scopes.map) (view_of (scopes_of f (state_by r1))) r1.globs.edges (brought_of r1.globs)) same placed;
  enums = λ j e is.
      still_has r0.scopes.map r1.scopes.map (same_variants r0.scopes.map r1.scopes.map differs) e.source
      (old.enums j e (subst (λ (es : List Edge). slice_get es j ≡ Some e) edges is));
})
