-- Where nothing is pending, edges are closed, followed and raised.
use Rattle.std.proofs.Common.{◌≡◌, ◌∙◌, ap, sym, subst, refl, ℕ, Bool, true, false, not, ◌||◌, ◌==◌, inl, inr, List, [], Option, None, Some, slice_get}
use Rattle.std.proofs.Common.{if◌then◌else◌, arith}
use mathlib.Core.Bool.{true≢false}
use Rattle.std.specs.Prelude.{Contains, IsSome}
use Rattle.hir_scope.specs.HirPerNs.declared.visibility.Visibility.{Visibility}
use Rattle.hir_glob_imports.specs.Types.{Bound, Brought, Edge, Key}
use Rattle.hir_glob_imports.specs.declared.edge.Update.TheVariants.{Nothing, Follow, Raise}
use Rattle.hir_glob_imports.specs.Keys.{slot_at, is_unnamed}
use Rattle.hir_glob_imports.specs.Moves.{same_def, same_vis, shown, brought_vis, is_as_seen, may_raise, raise_to, raise_of, update_of_brought, update_of}
use Rattle.hir_glob_imports.specs.View.{View, bound_in}
use Rattle.hir_glob_imports.specs.Waves.{GlobsValue, brought_of, update_at, IsPendingOrSettled, IsKept, IsWaved}

module _ (v : View) (j : ℕ) (e : Edge) (key : Key) where
  closed_from : (b : Bound) (stands : Option Bound) (by : Option Brought) → update_of v j e key (Some b) stands by ≡ Nothing → IsSome stands
  closed_from b None by is = absurd cc
  closed_from b (Some c) by is = refl

  on_seen : (b : Bound) (t : Bool) → (if t then Nothing else Follow b) ≡ Nothing → t ≡ true
  on_seen b true f = refl
  on_seen b false f = absurd cc

  followed_from : is_unnamed key ≡ false → (b : Bound) (stands : Option Bound) (last : Brought) → (last.edge == j) ≡ true
      → update_of v j e key (Some b) stands (Some last) ≡ Nothing → is_as_seen e b last ≡ true
  followed_from named b None last by_it is = absurd cc
  followed_from named b (Some c) last by_it is =
      on_seen b (is_as_seen e b last)
      (sym (ap (λ (t : Bool). if t then raise_of v e b c else update_of_brought v j e b c (Some last)) named
      ∙ ap (λ (t : Bool). if t then (if is_as_seen e b last then Nothing else Follow b) else raise_of v e b c) by_it) ∙ is)

  on_raise : (b c : Bound) (wide : Visibility) → same_def c.def b.def ≡ true → v.greater c.vis (brought_vis v e b) ≡ Some wide
      → raise_of v e b c ≡ Nothing → same_vis wide c.vis ≡ true
  on_raise b c wide same greater is = on (same_vis wide c.vis) wide_is
    where
      wide_is : (if same_vis wide c.vis then Nothing else Raise wide) ≡ Nothing
      wide_is =
          sym (ap (λ (t : Bool). if t then raise_to c.vis (v.greater c.vis (brought_vis v e b)) else Nothing) same
          ∙ ap (raise_to c.vis) greater) ∙ is

      on : (t : Bool) → (if t then Nothing else Raise wide) ≡ Nothing → t ≡ true
      on true f = refl
      on false f = absurd cc

  raised_from : (b c : Bound) (by : Option Brought) → may_raise j key by ≡ true → same_def c.def b.def ≡ true → (wide : Visibility)
      → v.greater c.vis (brought_vis v e b) ≡ Some wide → update_of v j e key (Some b) (Some c) by ≡ Nothing → same_vis wide c.vis ≡ true
  raised_from b c by may same wide greater is = on_name (is_unnamed key) refl is
    where
      on_edge : (last : Brought) (t : Bool) → (last.edge == j) ≡ t → not t ≡ true
          → (if t then (if is_as_seen e b last then Nothing else Follow b) else raise_of v e b c) ≡ Nothing → same_vis wide c.vis ≡ true
      on_edge last true i other f = absurd (true≢false (sym other))
      on_edge last false i other f = on_raise b c wide same greater f

      on_brought : is_unnamed key ≡ false → (o : Option Brought) → may_raise j key o ≡ true → update_of_brought v j e b c o ≡ Nothing → same_vis wide c.vis
          ≡ true
      on_brought named None m f = absurd (true≢false (sym m ∙ named))
      on_brought named (Some last) m f =
          on_edge last (last.edge == j) refl (sym (ap (λ (t : Bool). t || not (last.edge == j)) named) ∙ m) f

      on_name : (t : Bool) → is_unnamed key ≡ t → (if t then raise_of v e b c else update_of_brought v j e b c by) ≡ Nothing → same_vis wide c.vis ≡ true
      on_name true named f = on_raise b c wide same greater f
      on_name false named f = on_brought named by may f

module _ (v : View) (g : GlobsValue) (kept : IsKept v g) (none : g.pending ≡ []) where
  -- where nothing is to be looked at, nothing is to be done along any edge
  pub nothing_along : (j : ℕ) (e : Edge) (key : Key) → slice_get g.edges j ≡ Some e → update_at v (brought_of g) j e key ≡ Nothing
  nothing_along j e key is = go (kept.settled j e key is)
    where
      go : IsPendingOrSettled v g j e key → update_at v (brought_of g) j e key ≡ Nothing
      go (inl pending) =
          let nowhere : Contains [] (j, key) = subst (λ (ps : List (ℕ × Key)). Contains ps (j, key)) none pending in
          absurd (omega (arith, nowhere.1))
      go (inr is) = is

  pub waved : IsWaved v g.edges (brought_of g)
  waved = record {
    closed = λ j e key is. record {
      closed = λ b shows.
          closed_from v j e key b (bound_in v (slot_at e.importer key)) (brought_of g (slot_at e.importer key)) (at j e key is (Some b) shows);
    };
    followed = λ j e key is. record {
      followed = λ named b by shows brought by_it.
          followed_from v j e key named b (bound_in v (slot_at e.importer key)) by by_it
          (sym (λ i. update_of v j e key (shows i) (bound_in v (slot_at e.importer key)) (brought i)) ∙ nothing_along j e key is);
    };
    raised = λ j e key is. record {
      raised = λ b c shows stands may same wide greater.
          raised_from v j e key b c (brought_of g (slot_at e.importer key)) may same wide greater
          (sym (λ i. update_of v j e key (shows i) (stands i) (brought_of g (slot_at e.importer key))) ∙ nothing_along j e key is);
    };
  }
    where
      at : (j : ℕ) (e : Edge) (key : Key) → slice_get g.edges j ≡ Some e → (o : Option Bound) → shown v e key ≡ o
          → update_of v j e key o (bound_in v (slot_at e.importer key)) (brought_of g (slot_at e.importer key)) ≡ Nothing
      at j e key is o shows =
          sym (λ i. update_of v j e key (shows i) (bound_in v (slot_at e.importer key)) (brought_of g (slot_at e.importer key))) ∙ nothing_along j e key is
