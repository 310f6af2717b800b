-- What is pending, once edges are to be looked at.
use Rattle.std.proofs.Common.{◌≡◌, ◌∙◌, ap, sym, subst, refl, ℕ, zero, suc, ◌<◌, ◌≤◌, ◌-◌, ◌==◌, Bool, true, false, ◌⊎◌, inl, inr, List, [], ◌∷◌, ◌++◌, length}
use Rattle.std.proofs.Common.{Option, None, Some, Result, Ok, Err, OnOk, slice_get, slice_index, if◌then◌else◌, arith}
use mathlib.Core.Bool.{true≢false}
use Rattle.std.specs.Prelude.{Contains, IsSome, slice_index_or}
use Rattle.std.specs.Cmp.{unsigned_Decides}
use Rattle.std.proofs.lemmas.List.Elements.{Contains-append_cases, Contains-append_left, Contains-push}
use Rattle.std.proofs.lemmas.Option.{slice_get_read, get_or_from_slice_get}
use Rattle.std.proofs.lemmas.Result.{on_ok_weaker}
use Rattle.hir_glob_imports.specs.Types.{Bound, Edge, EdgesByModule, Key, Slot}
use Rattle.hir_glob_imports.specs.declared.edge.Update.TheVariants.{Nothing}
use Rattle.hir_glob_imports.specs.Inner.{IsIndexed, Spreads, edges_at, pair}
use Rattle.hir_glob_imports.specs.Keys.{slot_at, is_unnamed}
use Rattle.hir_glob_imports.specs.Moves.{shown, raise_of, update_of}
use Rattle.hir_glob_imports.specs.Rules.{with_brought}
use Rattle.hir_glob_imports.specs.View.{View, bound_in}
use Rattle.hir_glob_imports.specs.Waves.{GlobsValue, brought_of, update_in, update_at, IsPendingOrSettled, IsExplicit, IsKept}
use Rattle.hir_glob_imports.proofs.Settling.{same_itself, kept_after}
use Rattle.hir_glob_imports.proofs.Taking.{brought_by_list}

-- ---- one more pair

pub pushed_kept : (old new : List (ℕ × Key)) (p : ℕ × Key) → new ≡ old ++ p ∷ [] → (q : ℕ × Key) → Contains old q → Contains new q
pushed_kept old new p is q h = subst (λ (xs : List (ℕ × Key)). Contains xs q) (sym is) (Contains-append_left old (p ∷ []) q h)

pub pushed_here : (old new : List (ℕ × Key)) (p : ℕ × Key) → new ≡ old ++ p ∷ [] → Contains new p
pushed_here old new p is = subst (λ (xs : List (ℕ × Key)). Contains xs p) (sym is) (Contains-push old p)

-- a number that is not below another one's predecessor is that, or not below the other one
pub at_or_above : (i left : ℕ) → 0 < left → left - 1 ≤ i → (i ≡ left - 1) ⊎ (left ≤ i)
at_or_above i left some above = go (i == (left - 1)) refl
  where
    go : (b : Bool) → (i == (left - 1)) ≡ b → (i ≡ left - 1) ⊎ (left ≤ i)
    go true e = inl ((unsigned_Decides i (left - 1)).0 e)
    go false e =
        let other : i ≡ left - 1 → ⊥ = λ f. true≢false (sym ((unsigned_Decides i (left - 1)).1 f) ∙ e) in
        inr (omega arith)

pub each_more : (old new : List (ℕ × Key)) (edges : List ℕ) (key made : Key) (left : ℕ) → 0 < left
    → new ≡ old ++ (slice_index edges (left - 1), made) ∷ [] → made ≡ key
    → ((i : ℕ) → left ≤ i → i < length edges → Contains old (slice_index edges i, key))
    → (i : ℕ) → left - 1 ≤ i → i < length edges → Contains new (slice_index edges i, key)
each_more old new edges key made left some is same each i above below = go (at_or_above i left some above)
  where
    go : (i ≡ left - 1) ⊎ (left ≤ i) → Contains new (slice_index edges i, key)
    go (inl here) =
        let p : pair (slice_index edges (left - 1)) made ≡ pair (slice_index edges i) key = λ k. pair (slice_index edges (sym here k)) (same k) in
        subst (λ (q : ℕ × Key). Contains new q) p (pushed_here old new (slice_index edges (left - 1), made) is)
    go (inr more) = pushed_kept old new (slice_index edges (left - 1), made) is (slice_index edges i, key) (each i more below)

only : {A : Type 0} (x y : A) → Contains (x ∷ []) y → x ≡ y
only x y h = go h.0 h.1 h.2
  where
    go : (k : ℕ) → k < length (x ∷ []) → slice_index_or (x ∷ []) k y ≡ y → x ≡ y
    go zero below at = at
    go (suc k) below at = absurd (omega arith)

-- a key that was left stays so, or was taken out and is pending
pub each_left : (old new : List (ℕ × Key)) (edge : ℕ) (left rest : List Key) (made : Key) → left ≡ rest ++ made ∷ [] → new ≡ old ++ (edge, made) ∷ []
    → (key : Key) → Contains left key ⊎ Contains old (edge, key) → Contains rest key ⊎ Contains new (edge, key)
each_left old new edge left rest made popped is key (inr done) = inr (pushed_kept old new (edge, made) is (edge, key) done)
each_left old new edge left rest made popped is key (inl waits) =
    go (Contains-append_cases rest (made ∷ []) key (subst (λ (xs : List Key). Contains xs key) popped waits))
  where
    go : Contains rest key ⊎ Contains (made ∷ []) key → Contains rest key ⊎ Contains new (edge, key)
    go (inl stays) = inl stays
    go (inr here) = inr (subst (λ (k : Key). Contains new (edge, k)) (only made key here) (pushed_here old new (edge, made) is))

-- where none is left, each is pending
pub each_taken : (pending : List (ℕ × Key)) (edge : ℕ) (left : List Key) → length left ≡ 0 → (key : Key) → Contains left key ⊎ Contains pending (edge, key)
    → Contains pending (edge, key)
each_taken pending edge left none key (inr done) = done
each_taken pending edge left none key (inl waits) = absurd (omega (arith, waits.1))

-- an edge that is listed is at some number of the list
pub listed_each : (pending : List (ℕ × Key)) (edges : List ℕ) (key : Key)
    → ((i : ℕ) → i < length edges → Contains pending (slice_index edges i, key)) → (j : ℕ) → Contains edges j → Contains pending (j, key)
listed_each pending edges key each j (i, below, at) =
    let is : slice_index edges i ≡ j = get_or_from_slice_get edges i j 0 (slice_get_read edges (length edges) i j refl below (sym at)) in
    subst (λ (k : ℕ). Contains pending (k, key)) is (each i below)

-- ---- the edges around a slot

module _ {T E : Type 0} where
  pub on_ok_both : {P Q R : Type 0} (r : Result T E) → (P → Q → R) → OnOk r P → OnOk r Q → OnOk r R
  on_ok_both (Ok x) f p q = f p q
  on_ok_both (Err e) f p q = tt

  pub on_spread : (r : Result T E) (s : Slot) (moved : Bool) (g g0 : GlobsValue) (mid pending : List (ℕ × Key)) (inward outward : List ℕ)
      (out_of into : EdgesByModule)
      → g0 ≡ g → IsIndexed g0.edges out_of into → (moved ≡ true → inward ≡ edges_at into s.at) → outward ≡ edges_at out_of s.at
      → ((j : ℕ) (k : Key) → Contains g0.pending (j, k) → Contains mid (j, k)) → ((j : ℕ) → Contains inward j → Contains mid (j, s.key))
      → OnOk r ((j : ℕ) (k : Key) → Contains mid (j, k) → Contains pending (j, k))
      → OnOk r ((j : ℕ) → Contains outward j → Contains pending (j, s.key))
      → OnOk r (Spreads s moved g (record { edges = g0.edges; brought = g0.brought; pending = pending }))
  on_spread r s moved g g0 mid pending inward outward out_of into same indexed in_is out_is kept_first each_first kept_last each_last =
      on_ok_both r all kept_last each_last
    where
      all : ((j : ℕ) (k : Key) → Contains mid (j, k) → Contains pending (j, k)) → ((j : ℕ) → Contains outward j → Contains pending (j, s.key))
          → Spreads s moved g (record { edges = g0.edges; brought = g0.brought; pending = pending })
      all kept each = record {
        edges = ap (λ (x : GlobsValue). x.edges) same;
        brought = ap (λ (x : GlobsValue). x.brought) same;
        kept = λ j k h. kept j k (kept_first j k (subst (λ (x : GlobsValue). Contains x.pending (j, k)) (sym same) h));
        out = λ j e is from.
            let listed : Contains (edges_at out_of s.at) j = indexed.out j s.at e (subst (λ (x : GlobsValue). slice_get x.edges j ≡ Some e) (sym same) is) from
            in
            each j (subst (λ (xs : List ℕ). Contains xs j) (sym out_is) listed);
        inward = λ m j e is to.
            let listed : Contains (edges_at into e.importer) j = indexed.inward j e (subst (λ (x : GlobsValue). slice_get x.edges j ≡ Some e) (sym same) is) in
            let here : Contains (edges_at into s.at) j = subst (λ (n : ℕ). Contains (edges_at into n) j) to listed in
            kept j s.key (each_first j (subst (λ (xs : List ℕ). Contains xs j) (sym (in_is m)) here));
      }

-- ---- an explicit binding

-- no edge has anything to do where a name is bound explicitly
settled_explicit : (v : View) (j : ℕ) (e : Edge) (key : Key) (shows stands : Option Bound) → is_unnamed key ≡ false → IsSome stands
    → update_of v j e key shows stands None ≡ Nothing
settled_explicit v j e key None stands named some = refl
settled_explicit v j e key (Some b) None named some = absurd (true≢false (sym some))
settled_explicit v j e key (Some b) (Some c) named some = ap (λ (t : Bool). if t then raise_of v e b c else Nothing) named

module _ (s : Slot) (g m h : GlobsValue)
    (forgets : (q : Slot) → brought_of m q ≡ with_brought (brought_of g) s None q)
    (spreads : Spreads s (is_unnamed s.key) m h) where
  brought_at : (q : Slot) → brought_of h q ≡ with_brought (brought_of g) s None q
  brought_at q = (λ i. brought_by_list h m spreads.brought i q) ∙ forgets q

  none_here : brought_of h s ≡ None
  none_here = brought_at s ∙ ap (λ (t : Bool). if t then None else brought_of g s) (same_itself s)

  pub changed_keeps : m.edges ≡ g.edges → m.pending ≡ g.pending → (v w : View) → IsKept v g → IsExplicit s v w → IsKept w h
  changed_keeps edges pending v w kept explicit =
      kept_after v w s explicit.changes g h (λ k. ⊥) kept.there (λ j e key is. inl (kept.settled j e key is)) kept.stands (spreads.edges ∙ edges)
      (λ q apart. brought_at q ∙ ap (λ (t : Bool). if t then None else brought_of g q) apart)
      (λ j key p. spreads.kept j key (subst (λ (ps : List (ℕ × Key)). Contains ps (j, key)) (sym pending) p))
      (λ j e is from. spreads.out j e (in_old j e is) from)
      (into (is_unnamed s.key) refl)
      (λ by is. let no : None ≡ Some by = sym none_here ∙ is in absurd cc)
    where
      in_old : (j : ℕ) (e : Edge) → slice_get g.edges j ≡ Some e → slice_get m.edges j ≡ Some e
      in_old j e is = subst (λ (es : List Edge). slice_get es j ≡ Some e) (sym edges) is

      into : (u : Bool) → is_unnamed s.key ≡ u → (j : ℕ) (e : Edge) → slice_get g.edges j ≡ Some e → e.importer ≡ s.at
          → (update_at v (brought_of g) j e s.key ≡ Nothing) ⊎ ⊥ → shown w e s.key ≡ shown v e s.key → IsPendingOrSettled w h j e s.key
      into true u j e is to old same = inl (spreads.inward u j e (in_old j e is) to)
      into false u j e is to old same = inr (subst (λ (q : Slot). update_in w (brought_of h) j e q ≡ Nothing) (sym slot_of) at_slot)
        where
          slot_of : slot_at e.importer s.key ≡ s
          slot_of = λ i. record { at = to i; key = s.key }

          at_slot : update_in w (brought_of h) j e s ≡ Nothing
          at_slot = ap (update_of w j e s.key (shown w e s.key) (bound_in w s)) none_here
              ∙ settled_explicit w j e s.key (shown w e s.key) (bound_in w s) u (explicit.bound u (ap v.has (sym to) ∙ kept.there j e is))

module _ {T E : Type 0} where
  -- what `changed` ensures, by what its calls do
  pub changed_answer : (r : Result T E) (s : Slot) (u : Bool) (g g0 m h : GlobsValue) → g0 ≡ g → m.edges ≡ g0.edges → m.pending ≡ g0.pending
      → ((q : Slot) → brought_of m q ≡ with_brought (brought_of g0) s None q) → u ≡ is_unnamed s.key → OnOk r (Spreads s u m h)
      → record {
        edges : OnOk r (h.edges ≡ g.edges);
        brought : OnOk r (brought_of h ≡ with_brought (brought_of g) s None);
        kept : OnOk r ((v w : View) → IsKept v g → IsExplicit s v w → IsKept w h);
      }
  changed_answer r s u g g0 m h view edges pending forgets unnamed spreads = record {
    edges = on_ok_weaker r (λ (x : Spreads s u m h). x.edges ∙ edges ∙ ap (λ (y : GlobsValue). y.edges) view) spreads;
    brought = on_ok_weaker r (λ (x : Spreads s u m h). λ i q. (brought_at s g m h forgets_g (spread x) q) i) spreads;
    kept = on_ok_weaker r (λ (x : Spreads s u m h). changed_keeps s g m h forgets_g (spread x)
        (edges ∙ ap (λ (y : GlobsValue). y.edges) view) (pending ∙ ap (λ (y : GlobsValue). y.pending) view)) spreads;
  }
    where
      spread : Spreads s u m h → Spreads s (is_unnamed s.key) m h
      spread x = subst (λ (b : Bool). Spreads s b m h) unnamed x

      forgets_g : (q : Slot) → brought_of m q ≡ with_brought (brought_of g) s None q
      forgets_g q = forgets q ∙ ap (λ (y : GlobsValue). with_brought (brought_of y) s None q) view
