-- Where all edges are to be looked at again, globs are kept.
use Rattle.std.proofs.Common.{◌≡◌, ap, sym, subst, refl, ℕ, ◌<◌, ◌≤◌, ◌-◌, ◌⊎◌, inl, inr, true, List, Option, None, Some, slice_get}
use Rattle.std.specs.Prelude.{Contains, IsSome}
use Rattle.hir_glob_imports.specs.Types.{Bound, Brought, Edge, Key, Slot}
use Rattle.hir_glob_imports.specs.Keys.{slot_at}
use Rattle.hir_glob_imports.specs.Moves.{seen_by, update_of}
use Rattle.hir_glob_imports.specs.View.{View, bound_in}
use Rattle.hir_glob_imports.specs.Waves.{GlobsValue, IsKept, IsPendingOrSettled, Stands, brought_of}
use Rattle.hir_glob_imports.proofs.Spreading.{at_or_above}

-- where each edge is to be looked at at each key at which its source has something, all is pending or settled
pub reopened : (v : View) (g : GlobsValue) → ((j : ℕ) (e : Edge) → slice_get g.edges j ≡ Some e → v.has e.importer ≡ true)
    → ((q : Slot) (by : Brought) → brought_of g q ≡ Some by → Stands v q by)
    → ((j : ℕ) (e : Edge) (key : Key) → slice_get g.edges j ≡ Some e → IsSome (v.bound e.source key) → Contains g.pending (j, key)) → IsKept v g
reopened v g there stands each = record { there = there; settled = λ j e key is. on j e key is (v.bound e.source key) refl; stands = stands }
  where
    on : (j : ℕ) (e : Edge) (key : Key) → slice_get g.edges j ≡ Some e → (o : Option Bound) → v.bound e.source key ≡ o → IsPendingOrSettled v g j e key
    on j e key is None none =
        inr (ap (λ (o : Option Bound). update_of v j e key (seen_by (v.sees e.importer) o) (bound_in v (slot_at e.importer key))
        (brought_of g (slot_at e.importer key))) none)
    on j e key is (Some b) some = inl (each j e key is (subst (λ (o : Option Bound). IsSome o) (sym some) refl))

-- the same where what is kept was seen otherwise
pub reopened_from : (v : View) (old inside : GlobsValue) (edges : List Edge) (pending : List (ℕ × Key)) → inside ≡ old → edges ≡ inside.edges
    → ((j : ℕ) (e : Edge) → slice_get old.edges j ≡ Some e → v.has e.importer ≡ true)
    → ((q : Slot) (by : Brought) → brought_of old q ≡ Some by → Stands v q by)
    → ((j : ℕ) (e : Edge) (key : Key) → slice_get edges j ≡ Some e → IsSome (v.bound e.source key) → Contains pending (j, key))
    → IsKept v (record { edges = inside.edges; brought = inside.brought; pending = pending })
reopened_from v old inside edges pending view same there stands each =
    reopened v (record { edges = inside.edges; brought = inside.brought; pending = pending })
    (subst (λ (g : GlobsValue). (j : ℕ) (e : Edge) → slice_get g.edges j ≡ Some e → v.has e.importer ≡ true) (sym view) there)
    (subst (λ (g : GlobsValue). (q : Slot) (by : Brought) → brought_of g q ≡ Some by → Stands v q by) (sym view) stands)
    (λ j e key is shows. each j e key (subst (λ (es : List Edge). slice_get es j ≡ Some e) (sym same) is) shows)

-- one more edge is looked at at all keys of its source
pub opened_more : (v : View) (old new : List (ℕ × Key)) (edges : List Edge) (left : ℕ) (keys : List Key) → 0 < left
    → ((e : Edge) (key : Key) → slice_get edges (left - 1) ≡ Some e → IsSome (v.bound e.source key) → Contains keys key)
    → ((j : ℕ) (key : Key) → Contains old (j, key) → Contains new (j, key)) → ((key : Key) → Contains keys key → Contains new (left - 1, key))
    → ((j : ℕ) (e : Edge) (key : Key) → left ≤ j → slice_get edges j ≡ Some e → IsSome (v.bound e.source key) → Contains old (j, key))
    → (j : ℕ) (e : Edge) (key : Key) → left - 1 ≤ j → slice_get edges j ≡ Some e → IsSome (v.bound e.source key) → Contains new (j, key)
opened_more v old new edges left keys some of kept here before j e key above is shows = go (at_or_above j left some above)
  where
    go : (j ≡ left - 1) ⊎ (left ≤ j) → Contains new (j, key)
    go (inl same) =
        subst (λ (k : ℕ). Contains new (k, key)) (sym same)
        (here key (of e key (subst (λ (k : ℕ). slice_get edges k ≡ Some e) same is) shows))
    go (inr more) = kept j key (before j e key more is shows)

-- the keys of an edge that is there
pub keys_of : (v : View) (edges : List Edge) (j : ℕ) (d : Edge) (keys : List Key) → slice_get edges j ≡ Some d
    → ((key : Key) → IsSome (v.bound d.source key) → Contains keys key)
    → (e : Edge) (key : Key) → slice_get edges j ≡ Some e → IsSome (v.bound e.source key) → Contains keys key
keys_of v edges j d keys found each e key is shows =
    let same : e ≡ d = cc in
    each key (subst (λ (x : Edge). IsSome (v.bound x.source key)) same shows)
