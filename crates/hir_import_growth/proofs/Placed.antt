-- Visibilities name modules that are there, whatever is bound explicitly.
use Rattle.std.proofs.Common.{◌≡◌, ◌∙◌, ap, sym, subst, refl, ℕ, ◌<◌, Bool, true, false, List, length, None, Some}
use Rattle.std.specs.Prelude.{is_some, if◌then◌else◌}
use Rattle.hir_nameres.specs.HirIds.declared.ids.MapId.{MapId}
use Rattle.hir_nameres.specs.HirIds.declared.ids.TraitId.{TraitId}
use Rattle.hir_nameres.specs.HirPerNs.declared.per_ns.PerNs.{PerNs}
use Rattle.hir_nameres.specs.HirPerNs.declared.visibility.Visibility.{Visibility}
use Rattle.hir_nameres.specs.HirPerNs.declared.visibility.Visibility.TheVariants.{Module, PubCrate, Public}
use Rattle.hir_nameres.specs.Scoping.Slots.{is_in}
use Rattle.hir_nameres.specs.HirDefMapRules.State.{Map}
use Rattle.hir_glob_imports.proofs.Exact.{exact_slot}
use Rattle.hir_glob_imports.specs.Keys.{is_unnamed, same_slot, slot_at}
use Rattle.hir_glob_imports.specs.Rules.{BroughtBy, with_brought}
use Rattle.hir_glob_imports.specs.View.{ChangesOnly, View, bound_in}
use Rattle.hir_glob_imports.specs.Waves.{AreOfKind}
use Rattle.hir_glob_imports.specs.declared.edge.Bound.{Bound}
use Rattle.hir_glob_imports.specs.declared.edge.Brought.{Brought}
use Rattle.hir_glob_imports.specs.declared.edge.Edge.{Edge}
use Rattle.hir_glob_imports.specs.declared.edge.Key.{Key}
use Rattle.hir_glob_imports.specs.declared.edge.Slot.{Slot}
use Rattle.hir_glob_imports.specs.declared.edge.Key.TheVariants.{Types, Values, Macros, Unnamed}
use Rattle.hir_glob_imports.specs.declared.edge.Target.TheVariants as targets
use Rattle.hir_import_rules.specs.Changes.{forgotten, forgotten_in}
use Rattle.hir_import_growth.specs.Binding.{IsBound, MayBind}
use Rattle.hir_import_rules.specs.Lasting.{IsPlaced}

-- ---- as many modules are there

pub placed_through : (s t : Map) → t.id ≡ s.id → length t.modules ≡ length s.modules → (v : Visibility) → IsPlaced s v → IsPlaced t v
placed_through s t id count Public old = tt
placed_through s t id count (PubCrate c) old = tt
placed_through s t id count (Module m e) old = λ is. subst (λ (n : ℕ). m.index < n) (sym count) (old (sym (ap (λ (x : MapId). is_in x m) id) ∙ is))

pub kind_through : (P Q : Visibility → Type 0) (v : View) (es : List Edge) (brought : BroughtBy) → ((x : Visibility) → P x → Q x) → AreOfKind P v es brought
    → AreOfKind Q v es brought
kind_through P Q v es brought on old =
    record {
      edges = λ j e is. on e.vis (old.edges j e is);
      brought = λ s by b is there. on b.vis (old.brought s by b is there);
      traits = λ at id b is. on b.vis
          (old.traits at id b is);
    }

-- ---- what is bound explicitly no glob has brought

module _ (P : Visibility → Type 0) (es : List Edge) where
  -- a slot changes; of a trait without a name it is told who may see it
  pub kind_slot : (v w : View) (s : Slot) (brought : BroughtBy) → ChangesOnly s v w → (is_unnamed s.key ≡ true → (b : Bound) → bound_in w s ≡ Some b → P b.vis)
      → AreOfKind P v es brought → AreOfKind P w es (with_brought brought s None)
  kind_slot v w s brought changes of_trait old = record {
    edges = old.edges;
    brought = λ q by b is there. by_glob q by b (same_slot s q) refl is there;
    traits = λ at id b is. of_traits at id b (same_slot s (slot_at at (Unnamed id))) refl is;
  }
    where
      by_glob : (q : Slot) (by : Brought) (b : Bound) (t : Bool) → same_slot s q ≡ t → with_brought brought s None q ≡ Some by → bound_in w q ≡ Some b → P b.vis
      by_glob q by b true e is there =
          let none : with_brought brought s None q ≡ None = ap (λ (x : Bool). if x then None else brought q) e in absurd cc
      by_glob q by b false e is there =
          old.brought q by b (sym (ap (λ (x : Bool). if x then None else brought q) e) ∙ is) (sym (changes.bound (targets.Own q.at) q.key e) ∙ there)

      of_traits : (at : ℕ) (id : TraitId) (b : Bound) (t : Bool) → same_slot s (slot_at at (Unnamed id)) ≡ t → w.bound (targets.Own at) (Unnamed id) ≡ Some b
          → P b.vis
      of_traits at id b true e is =
          let same : s ≡ slot_at at (Unnamed id) = exact_slot s (slot_at at (Unnamed id)) e in of_trait (ap (λ (q : Slot). is_unnamed q.key) same) b
          (ap (bound_in w) same ∙ is)
      of_traits at id b false e is = old.traits at id b (sym (changes.bound (targets.Own at) (Unnamed id) e) ∙ is)

  kind_may_bind : (home : ℕ) (key : Key) (binds : Bool) (v w : View) (brought : BroughtBy) → is_unnamed key ≡ false → MayBind home key binds v w
      → AreOfKind P v es brought
      → AreOfKind P w es (forgotten_in home key binds brought)
  kind_may_bind home key false v w brought named may old = subst (λ (x : View). AreOfKind P x es brought) (sym (may.stays refl)) old
  kind_may_bind home key true v w brought named may old =
      kind_slot v w (slot_at home key) brought (may.bound refl).changes (λ unnamed b is. absurd (let no : false ≡ true = sym named ∙ unnamed in cc)) old

  pub kind_bound : (home : ℕ) (name : List ℕ) (items : PerNs) (v w : View) (brought : BroughtBy) → IsBound home name items v w → AreOfKind P v es brought
      → AreOfKind P w es (forgotten home name items brought)
  kind_bound home name items v w brought bound old =
      kind_may_bind home (Macros name) (is_some items.macros) bound.with_values w _ refl bound.macros
      (kind_may_bind home (Values name) (is_some items.values) bound.with_types bound.with_values _ refl bound.values
      (kind_may_bind home (Types name) (is_some items.types) v bound.with_types brought refl bound.types old))
