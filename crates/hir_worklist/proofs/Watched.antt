-- A thing goes behind those that watch a slot.
use Rattle.std.proofs.Common.{◌≡◌, ◌∙◌, ap, sym, refl, ℕ, Bool, true, false, ◌&&◌, ◌||◌, [], ◌∷◌, ◌++◌, Option, None, Some, cond, nat_eq}
use Rattle.std.specs.declared.alloc.Global.{Global}
use Rattle.std.specs.declared.cmp.Ordering.{Ordering}
use Rattle.std.specs.declared.vec.Vec.{Vec}
use Rattle.std.specs.BTreeMap.{get, is_at}
use Rattle.std.specs.Cmp.{IsTotalOrder}
use Rattle.std.specs.Option.{UnwrapsOrElse}
use Rattle.std.specs.Vec.{vec_len}
use Rattle.std.specs.Ordering.{nat_cmp}
use Rattle.std.proofs.lemmas.List.Folds.{list_any-append}
use Rattle.hir_worklist.specs.Types.{Watchers}
use Rattle.hir_worklist.specs.Queue.{is_among}
use Rattle.hir_worklist.specs.Watching.{has_watcher, is_watching}
use Rattle.hir_worklist.proofs.Settled.{is_watching-equal}
use Rattle.hir_worklist.proofs.Waking.{is_at-nat}

or_false : (a : Bool) → (a || false) ≡ a
or_false true = refl
or_false false = refl

-- where nothing watched, the list was made without any
pub watchers-found : (found : Option (Vec ℕ Global)) (positions : Vec ℕ Global) → UnwrapsOrElse found (λ (made : Vec ℕ Global). (made.items ≡ [])
    × (vec_len made ≡ 0)) positions
    → (p : ℕ) → is_among p positions.items ≡ has_watcher found p
watchers-found None positions made p = ap (is_among p) made.0
watchers-found (Some watchers) positions is p = ap (λ (v : Vec ℕ Global). is_among p v.items) is

module _ {K : Type 0} (cmp : K → K → Ordering) (total : IsTotalOrder cmp) where
  pub watches-pushed : (old : Watchers K) (slot : K) (position : ℕ) (before after : Vec ℕ Global)
      → ((p : ℕ) → is_among p before.items ≡ is_watching cmp old slot p) → after.items ≡ before.items ++ position ∷ []
      → (other : K) (p : ℕ) (seen : Option (Vec ℕ Global)) → seen ≡ cond (is_at (cmp slot) other) (Some after) (get cmp old.positions other)
      → has_watcher seen p ≡ (is_watching cmp old other p || (is_at (cmp slot) other && nat_eq position p))
  watches-pushed old slot position before after found pushed other p seen wrote = go (is_at (cmp slot) other) refl
    where
      last : is_among p (position ∷ []) ≡ nat_eq position p
      last = or_false (is_at (nat_cmp p) position) ∙ is_at-nat p position

      go : (b : Bool) → is_at (cmp slot) other ≡ b → has_watcher seen p ≡ (is_watching cmp old other p || (is_at (cmp slot) other && nat_eq position p))
      go false e =
          rw e (ap (λ o. has_watcher o p) (wrote ∙ (λ i. cond (e i) (Some after) (get cmp old.positions other))) ∙ sym (or_false (is_watching cmp old other p)))
      go true e = rw e (ap (λ o. has_watcher o p) (wrote ∙ (λ i. cond (e i) (Some after) (get cmp old.positions other)))
          ∙ ap (is_among p) pushed ∙ list_any-append (is_at (nat_cmp p)) before.items (position ∷ [])
          ∙ (λ i. (found p ∙ is_watching-equal cmp total old slot other p e) i || last i))
