-- What is known of globs stays true while their map grows.
use Rattle.std.proofs.Common.{◌≡◌, ◌∙◌, ap, sym, subst, refl, ℕ, ◌<◌, List, length, None, Some, inl, inr, arith}
use Rattle.std.proofs.lemmas.Bool.{ltb-true}
use Rattle.std.specs.Prelude.{slice_get}
use Rattle.hir_nameres.specs.HirIds.declared.ids.MapId.{MapId}
use Rattle.hir_nameres.specs.HirPerNs.declared.visibility.Visibility.{Visibility}
use Rattle.hir_nameres.specs.HirPerNs.declared.visibility.Visibility.TheVariants.{Module, PubCrate, Public}
use Rattle.hir_nameres.specs.HirDefMapRules.Overlay.{Maps}
use Rattle.hir_nameres.specs.Scoping.Slots.{is_in}
use Rattle.hir_nameres.specs.HirDefMapRules.State.{Map, pushed}
use Rattle.hir_def_map_laws.proofs.SlotLists.{scope_pushed}
use Rattle.hir_def_map_laws.specs.ReadLaw.{DiffersInScopes}
use Rattle.hir_glob_imports.specs.Keys.{slot_at}
use Rattle.hir_glob_imports.specs.Rules.{BroughtBy}
use Rattle.hir_glob_imports.specs.View.{View}
use Rattle.hir_glob_imports.specs.Waves.{AreOfKind, GlobsValue, IsKept, IsPendingOrSettled, Stands, brought_of, update_at}
use Rattle.hir_glob_imports.specs.declared.edge.Brought.{Brought}
use Rattle.hir_glob_imports.specs.declared.edge.Edge.{Edge}
use Rattle.hir_glob_imports.specs.declared.edge.Key.{Key}
use Rattle.hir_glob_imports.specs.declared.edge.Slot.{Slot}
use Rattle.hir_glob_imports.specs.declared.edge.Key.TheVariants.{Unnamed}
use Rattle.hir_glob_imports.specs.declared.edge.Target.TheVariants as targets
use Rattle.hir_glob_imports.specs.declared.edge.Update.TheVariants.{Nothing}
use Rattle.hir_import_rules.specs.Changes.{forgotten}
use Rattle.hir_import_growth.specs.Binding.{IsBound}
use Rattle.hir_import_rules.specs.Lasting.{IsPlaced, beside}
use Rattle.hir_import_rules.specs.Names.{bound_at, bound_of, view_of}
use Rattle.hir_import_growth.specs.Growth.{GlobsLast, GrowsAround, GrowthKeepsGlobs, HaveGlobs, PushesKeepGlobs}
use Rattle.hir_import_rules.specs.State.{ImportState, scopes_of}
use Rattle.hir_import_growth.proofs.Binding.{push_binds}
use Rattle.hir_import_growth.proofs.Firm.{as_many, grown_ordered, more_variants, same_variants, still_has, still_ordered}
use Rattle.hir_import_growth.proofs.GlobsGrowing.{has_still}
use Rattle.hir_import_growth.proofs.PairsGrowing.{pair_still}
use Rattle.hir_import_growth.proofs.Placed.{kind_bound, kind_through, placed_through}

-- ---- where the map grows around its names

module _ (finished : Maps) (old new : ImportState) (g : GlobsValue) (had : HaveGlobs old g) (have : HaveGlobs new g) (around : GrowsAround old.map new.map) (last : GlobsLast finished old g) where
  abbrev before : View
  before = view_of (scopes_of finished old)

  abbrev after : View
  after = view_of (scopes_of finished new)

  -- what stands in the map
  own_still : (at : ℕ) (key : Key) → bound_of (scopes_of finished new) (targets.Own at) key ≡ bound_of (scopes_of finished old) (targets.Own at) key
  own_still at key = λ i. bound_at (λ name. around.entries at name i) (λ id. around.traits at id i) key

  edge_before : (j : ℕ) (e : Edge) → slice_get g.edges j ≡ Some e → slice_get old.edges j ≡ Some e
  edge_before j e is = ap (λ (es : List Edge). slice_get es j) had.edges ∙ is

  edge_kept : (j : ℕ) (e : Edge) → slice_get new.edges j ≡ Some e → slice_get g.edges j ≡ Some e
  edge_kept j e is = sym (ap (λ (es : List Edge). slice_get es j) have.edges) ∙ is

  by_before : (s : Slot) → old.brought s ≡ brought_of g s
  by_before s = ap (λ (brought : BroughtBy). brought s) had.brought

  still : (j : ℕ) (e : Edge) (key : Key) → slice_get g.edges j ≡ Some e → update_at before (brought_of g) j e key ≡ Nothing → update_at after (brought_of g) j e
      key ≡ Nothing
  still j e key is nothing =
      let placed = last.lasts.placed in
      pair_still finished old.map new.map old.globs new.globs last.lasts.ordered around.grows around.modules (brought_of g) (brought_of g) j e key
      (ltb-true e.importer (length old.map.modules) (last.kept.there j e is)) (placed.edges j e (edge_before j e is))
      (last.lasts.enums j e (edge_before j e is))
      (λ at of. own_still at key) (own_still e.importer key) refl
      (λ by c by_glob there. placed.brought (slot_at e.importer key) by c (by_before (slot_at e.importer key) ∙ by_glob) there)
      (λ id c unnamed there. placed.traits e.importer id c (sym (ap (λ (k : Key). bound_of (scopes_of finished old) (targets.Own e.importer) k) unnamed) ∙
      there)) nothing

  settled_still : (j : ℕ) (e : Edge) (key : Key) → slice_get g.edges j ≡ Some e → IsPendingOrSettled before g j e key → IsPendingOrSettled after g j e key
  settled_still j e key is (inl pending) = inl pending
  settled_still j e key is (inr nothing) = inr (still j e key is nothing)

  stands_still : (s : Slot) (by : Brought) → Stands before s by → Stands after s by
  stands_still s by stands = record { bound = stands.bound; there = own_still s.at s.key ∙ stands.there; same = stands.same }

  kept_still : IsKept after g
  kept_still = record {
    there = λ j e is. has_still finished old.map new.map old.globs new.globs last.lasts.ordered around.grows around.modules e.importer (last.kept.there j e is);
    settled = λ j e key is. settled_still j e key is (last.kept.settled j e key is);
    stands = λ s by is. stands_still s by (last.kept.stands s by is);
  }

  placed_now : (v : Visibility) → IsPlaced old.map v → IsPlaced new.map v
  placed_now Public placed = tt
  placed_now (PubCrate c) placed = tt
  placed_now (Module m e) placed = λ is.
      let more = around.modules in
      let low : m.index < length old.map.modules = placed (sym (ap (λ (x : MapId). is_in x m) around.grows.id) ∙ is) in omega (arith, more, low)

  kinds_still : AreOfKind (IsPlaced new.map) after new.edges new.brought
  kinds_still =
      let placed = last.lasts.placed in
      record {
        edges = λ j e is. placed_now e.vis (placed.edges j e (edge_before j e (edge_kept j e is)));
        brought = λ s by b is there.
            placed_now b.vis (placed.brought s by b (by_before s ∙ sym (ap (λ (brought : BroughtBy). brought s) have.brought) ∙ is)
            (sym (own_still s.at s.key) ∙ there));
        traits = λ at id b is. placed_now b.vis (placed.traits at id b (sym (own_still at (Unnamed id)) ∙ is));
      }

pub globs_still : GrowthKeepsGlobs
globs_still finished old new g had have around in_order last = record {
  kept = kept_still finished old new g had have around last;
  lasts = record {
    of_crate = ap (λ (id : MapId). id.block) around.grows.id ∙ last.lasts.of_crate;
    ordered = grown_ordered old.map new.map around.grows finished last.lasts.ordered in_order;
    placed = kinds_still finished old new g had have around last;
    enums = λ j e is.
        still_has old.map new.map (more_variants old.map new.map around.grows) e.source
        (last.lasts.enums j e (edge_before finished old new g had have around last j e (edge_kept finished old new g had have around last j e is)));
  };
}

-- ---- where something is bound

pub globs_pushed : PushesKeepGlobs
globs_pushed finished old new g h home name items had have map edges brought forgets last = record {
  kept = forgets before after last.kept bound;
  lasts = record {
    of_crate = ap (λ (id : MapId). id.block) differs.id ∙ last.lasts.of_crate;
    ordered = still_ordered old.map new.map differs finished last.lasts.ordered;
    placed = kinds_now;
    enums =
        λ j e is. still_has old.map new.map (same_variants old.map new.map differs) e.source
        (last.lasts.enums j e (sym (ap (λ (es : List Edge). slice_get es j) same_edges) ∙ is));
  };
}
  where
    before : View
    before = view_of (scopes_of finished old)

    after : View
    after = view_of (scopes_of finished new)

    once : Map
    once = pushed old.map old.globs home name items None

    bound : IsBound home name items before after
    bound =
        subst (λ (m : Map). IsBound home name items before (view_of (beside finished m new.globs))) (sym map)
        (push_binds (scopes_of finished old) home name items None)

    differs : DiffersInScopes old.map new.map
    differs = subst (DiffersInScopes old.map) (sym map) (scope_pushed old.map old.local old.globs home name items None).differs

    same_edges : new.edges ≡ old.edges
    same_edges = have.edges ∙ edges ∙ sym had.edges

    same_brought : new.brought ≡ forgotten home name items old.brought
    same_brought = have.brought ∙ brought ∙ ap (forgotten home name items) (sym had.brought)

    kinds_now : AreOfKind (IsPlaced new.map) after new.edges new.brought
    kinds_now =
        kind_through (IsPlaced old.map) (IsPlaced new.map) after new.edges new.brought
        (placed_through old.map new.map differs.id (as_many old.map new.map differs))
        (subst (λ (b : BroughtBy). AreOfKind (IsPlaced old.map) after new.edges b) (sym same_brought)
        (subst (λ (es : List Edge). AreOfKind (IsPlaced old.map) after es (forgotten home name items old.brought)) (sym same_edges)
        (kind_bound (IsPlaced old.map) old.edges home name items before after old.brought bound last.lasts.placed)))
