-- What is pending or settled stays so, once a slot has changed and the edges around it are to be looked at.
use Rattle.std.proofs.Common.{◌≡◌, ◌∙◌, ap, sym, subst, refl, ℕ, Bool, true, false, ◌==◌, ◌⊎◌, inl, inr, List, Option, None, Some, slice_get, if◌then◌else◌}
use mathlib.Core.Bool.{true≢false}
use Rattle.std.specs.Prelude.{Contains}
use Rattle.std.specs.Ordering.{is_eq}
use Rattle.std.proofs.lemmas.Cmp.{tied_itself}
use Rattle.hir_scope.specs.HirPerNs.declared.visibility.Visibility.{Visibility}
use Rattle.hir_glob_imports.specs.contracts.edge.SlotOrd.TheImpl.Laws.{total-law as slot_total}
use Rattle.hir_glob_imports.specs.Types.{Bound, Brought, Edge, Key, Slot, Target, Update}
use Rattle.hir_glob_imports.specs.declared.edge.Target.TheVariants as target
use Rattle.hir_glob_imports.specs.declared.edge.Update.TheVariants.{Nothing, Follow}
use Rattle.hir_glob_imports.specs.Keys.{slot_at, same_slot, is_slot, is_unnamed}
use Rattle.hir_glob_imports.specs.Moves.{same_def, seen_by, shown, brought_vis, is_as_seen, raise_to, raise_of, update_of_brought, update_of}
use Rattle.hir_glob_imports.specs.Rules.{BroughtBy}
use Rattle.hir_glob_imports.specs.View.{View, bound_in, ChangesOnly}
use Rattle.hir_glob_imports.specs.Waves.{GlobsValue, brought_of, update_in, update_at, IsPendingOrSettled, IsKept, Stands}
use Rattle.hir_glob_imports.proofs.Exact.{exact_slot}

pub same_itself : (s : Slot) → same_slot s s ≡ true
same_itself s = ap is_eq (tied_itself slot_total s)

-- a target at a key is this slot
pub slot_source : (s : Slot) (of : Target) (key : Key) → is_slot s of key ≡ true → (of ≡ target.Own s.at) × (key ≡ s.key)
slot_source s (target.Own m) key e =
    let same : s ≡ slot_at m key = exact_slot s (slot_at m key) e in
    (ap (λ (q : Slot). target.Own q.at) (sym same), ap (λ (q : Slot). q.key) (sym same))
slot_source s (target.Module id) key e = absurd (true≢false (sym e))
slot_source s (target.Enum id) key e = absurd (true≢false (sym e))

seen_by-same : (f g : Visibility → Bool) → ((vis : Visibility) → g vis ≡ f vis) → (o : Option Bound) → seen_by g o ≡ seen_by f o
seen_by-same f g same None = refl
seen_by-same f g same (Some b) = ap (λ (t : Bool). if t then Some b else None) (same b.vis)

module _ (v w : View) (s : Slot) (changes : ChangesOnly s v w) where
  -- what a source shows changes at the slot alone
  pub shown_same : (e : Edge) (key : Key) → is_slot s e.source key ≡ false → shown w e key ≡ shown v e key
  shown_same e key off =
      seen_by-same (v.sees e.importer) (w.sees e.importer) (changes.sees e.importer) (w.bound e.source key)
      ∙ ap (seen_by (v.sees e.importer)) (changes.bound e.source key off)

  raise_of-same : (e : Edge) (b c : Bound) → raise_of w e b c ≡ raise_of v e b c
  raise_of-same e b c =
      ap (λ (o : Option Visibility). if same_def c.def b.def then raise_to c.vis o else Nothing)
      (changes.greater c.vis (brought_vis w e b) ∙ ap (v.greater c.vis) (changes.lesser e.vis b.vis))

  of_brought-same : (j : ℕ) (e : Edge) (b c : Bound) (by : Option Brought) → update_of_brought w j e b c by ≡ update_of_brought v j e b c by
  of_brought-same j e b c None = refl
  of_brought-same j e b c (Some last) =
      ap (λ (u : Update). if last.edge == j then (if is_as_seen e b last then Nothing else Follow b) else u) (raise_of-same e b c)

  update_of-same : (j : ℕ) (e : Edge) (key : Key) (shows stands : Option Bound) (by : Option Brought)
      → update_of w j e key shows stands by ≡ update_of v j e key shows stands by
  update_of-same j e key None stands by = refl
  update_of-same j e key (Some b) None by = refl
  update_of-same j e key (Some b) (Some c) by = λ i. if is_unnamed key then raise_of-same e b c i else of_brought-same j e b c by i

  -- what is to be done changes around the slot alone
  pub update-same : (old new : BroughtBy) (j : ℕ) (e : Edge) (q : Slot) → is_slot s e.source q.key ≡ false → same_slot s q ≡ false
      → new q ≡ old q → update_in w new j e q ≡ update_in v old j e q
  update-same old new j e q off apart brought =
      (λ i. update_of w j e q.key (shown_same e q.key off i) (changes.bound (target.Own q.at) q.key apart i) (brought i))
      ∙ update_of-same j e q.key (shown v e q.key) (bound_in v q) (old q)

  module _ (g h : GlobsValue) (Looked : ℕ → Type 0)
      (there : (j : ℕ) (e : Edge) → slice_get g.edges j ≡ Some e → v.has e.importer ≡ true)
      (settled : (j : ℕ) (e : Edge) (key : Key) → slice_get g.edges j ≡ Some e
      → IsPendingOrSettled v g j e key ⊎ ((e.importer ≡ s.at) × (key ≡ s.key) × Looked j))
      (stands : (q : Slot) (by : Brought) → brought_of g q ≡ Some by → Stands v q by)
      (edges : h.edges ≡ g.edges)
      (others : (q : Slot) → same_slot s q ≡ false → brought_of h q ≡ brought_of g q)
      (kept : (j : ℕ) (key : Key) → Contains g.pending (j, key) → Contains h.pending (j, key))
      (out : (j : ℕ) (e : Edge) → slice_get g.edges j ≡ Some e → e.source ≡ target.Own s.at → Contains h.pending (j, s.key))
      (inward : (j : ℕ) (e : Edge) → slice_get g.edges j ≡ Some e → e.importer ≡ s.at
      → (update_at v (brought_of g) j e s.key ≡ Nothing) ⊎ Looked j → shown w e s.key ≡ shown v e s.key
      → IsPendingOrSettled w h j e s.key)
      (here : (by : Brought) → brought_of h s ≡ Some by → Stands w s by) where
    settle : (j : ℕ) (e : Edge) (key : Key) → slice_get g.edges j ≡ Some e → IsPendingOrSettled w h j e key
    settle j e key is = go (settled j e key is)
      where
        into : (importer : e.importer ≡ s.at) (same : key ≡ s.key) → (update_at v (brought_of g) j e key ≡ Nothing) ⊎ Looked j
            → is_slot s e.source key ≡ false → IsPendingOrSettled w h j e key
        into importer same old off =
            let at : (update_at v (brought_of g) j e s.key ≡ Nothing) ⊎ Looked j =
            subst (λ (k : Key). (update_at v (brought_of g) j e k ≡ Nothing) ⊎ Looked j) same old in
            let away : is_slot s e.source s.key ≡ false = subst (λ (k : Key). is_slot s e.source k ≡ false) same off in
            subst (λ (k : Key). IsPendingOrSettled w h j e k) (sym same) (inward j e is importer at (shown_same e s.key away))

        at_importer : (update_at v (brought_of g) j e key ≡ Nothing) → is_slot s e.source key ≡ false
            → (m : Bool) → same_slot s (slot_at e.importer key) ≡ m → IsPendingOrSettled w h j e key
        at_importer old off true m =
            let same : s ≡ slot_at e.importer key = exact_slot s (slot_at e.importer key) m in
            into (ap (λ (q : Slot). q.at) (sym same)) (ap (λ (q : Slot). q.key) (sym same)) (inl old) off
        at_importer old off false m =
            inr (update-same (brought_of g) (brought_of h) j e (slot_at e.importer key) off m (others (slot_at e.importer key) m) ∙ old)

        at_source : (update_at v (brought_of g) j e key ≡ Nothing) ⊎ ((e.importer ≡ s.at) × (key ≡ s.key) × Looked j)
            → (m : Bool) → is_slot s e.source key ≡ m → IsPendingOrSettled w h j e key
        at_source old true m =
            let of = slot_source s e.source key m in
            inl (subst (λ (k : Key). Contains h.pending (j, k)) (sym of.1) (out j e is of.0))
        at_source (inl old) false m = at_importer old m (same_slot s (slot_at e.importer key)) refl
        at_source (inr looked) false m = into looked.0 looked.1 (inr looked.2) m

        go : IsPendingOrSettled v g j e key ⊎ ((e.importer ≡ s.at) × (key ≡ s.key) × Looked j) → IsPendingOrSettled w h j e key
        go (inl (inl p)) = inl (kept j key p)
        go (inl (inr old)) = at_source (inl old) (is_slot s e.source key) refl
        go (inr looked) = at_source (inr looked) (is_slot s e.source key) refl

    stand : (q : Slot) (by : Brought) → brought_of h q ≡ Some by → Stands w q by
    stand q by is = go (same_slot s q) refl
      where
        go : (m : Bool) → same_slot s q ≡ m → Stands w q by
        go true m =
            let same : s ≡ q = exact_slot s q m in
            subst (λ (k : Slot). Stands w k by) same (here by (subst (λ (k : Slot). brought_of h k ≡ Some by) (sym same) is))
        go false m =
            let old = stands q by (sym (others q m) ∙ is) in
            record { bound = old.bound; there = changes.bound (target.Own q.at) q.key m ∙ old.there; same = old.same }

    pub kept_after : IsKept w h
    kept_after = record {
      there = λ j e is. changes.has e.importer ∙ there j e (subst (λ (es : List Edge). slice_get es j ≡ Some e) edges is);
      settled = λ j e key is. settle j e key (subst (λ (es : List Edge). slice_get es j ≡ Some e) edges is);
      stands = stand;
    }
