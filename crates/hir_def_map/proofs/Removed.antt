-- The list of what is removed gains each map that falls.
use Rattle.std.proofs.Common.{ℕ, ◌≡◌, ◌+◌, ◌∙◌, ap, sym, subst, refl, Bool, true, false, ◌&&◌, not, is_some, cond, Option, Some, None, List, []}
use Rattle.std.proofs.Common.{◌∷◌, ◌++◌, inl, inr, arith}
use mathlib.Core.Bool.{true≢false}
use Rattle.std.specs.List.{count_by}
use Rattle.std.specs.BTreeMap.{is_at, Updates}
use Rattle.std.proofs.lemmas.List.Sums.{sum_by_push}
use Rattle.hir_nameres.specs.HirIds.declared.ids.MapId.{MapId}
use Rattle.hir_nameres.specs.HirIds.contracts.ids.MapIdOrd.TheImpl as map_order
use Rattle.hir_def_map.specs.Types.{Finished}
use Rattle.hir_nameres.specs.Removal.{GainsRemoved, IsFalling, is_removed}
use Rattle.hir_def_map.proofs.Entries.{either_way}
use Rattle.hir_def_map.proofs.Falling.{Store, at}
use Rattle.hir_def_map.proofs.Joined.{own_id, same_id}

-- how often an id is among some
abbrev pub often : MapId → List MapId → ℕ
often id items = count_by (is_at (map_order.ghosts.cmp id)) items

not_here : (o : Option Finished) → (is_some o && not (is_some o)) ≡ false
not_here None = refl
not_here (Some f) = refl

-- where no map goes the list stays
pub gains_none : (old : Store) (items : List MapId) → GainsRemoved old old items items
gains_none old items id =
    let none : often id items + cond (is_removed old old id) 1 0 ≡ often id items + 0 =
    ap (λ (b : Bool). often id items + cond b 1 0) (not_here (at old id)) in
    omega (arith, none)

-- one more goes, and is added
module _ (old now new : Store) (before items more : List MapId) (next : MapId) (gains : GainsRemoved old now before items)
    (was : is_some (at old next) ≡ true) (here : is_some (at now next) ≡ true) (updates : Updates map_order.ghosts.cmp now new next None)
    (added : more ≡ items ++ next ∷ []) where
  counted : (id : MapId) → often id more ≡ often id items + cond (is_at (map_order.ghosts.cmp id) next) 1 0
  counted id = ap (often id) added ∙ sum_by_push (λ (x : MapId). cond (is_at (map_order.ghosts.cmp id) x) 1 0) items next

  at_next : often next more ≡ often next before + cond (is_removed old new next) 1 0
  at_next =
      let one_more : often next more ≡ often next items + 1 = counted next ∙ ap (λ (b : Bool). often next items + cond b 1 0) (own_id next) in
      let so_far : often next items ≡ often next before + 0 =
      gains next ∙ ap (λ (b : Bool). often next before + cond (is_some (at old next) && not b) 1 0) here
      ∙ ap (λ (b : Bool). often next before + cond (b && false) 1 0) was in
      let gone : often next before + cond (is_removed old new next) 1 0 ≡ often next before + 1 =
      ap (λ (o : Option Finished). often next before + cond (is_some (at old next) && not (is_some o)) 1 0) updates.1
      ∙ ap (λ (b : Bool). often next before + cond (b && true) 1 0) was in
      omega (arith, one_more, so_far, gone)

  elsewhere : (id : MapId) → is_at (map_order.ghosts.cmp next) id ≡ false → often id more ≡ often id before + cond (is_removed old new id) 1 0
  elsewhere id apart =
      let no_more : often id more ≡ often id items + 0 = counted id ∙ ap (λ (b : Bool). often id items + cond b 1 0) (either_way id next ∙ apart) in
      let so_far : often id items ≡ often id before + cond (is_removed old now id) 1 0 = gains id in
      let alike : often id before + cond (is_removed old now id) 1 0 ≡ often id before + cond (is_removed old new id) 1 0 =
      ap (λ (o : Option Finished). often id before + cond (is_some (at old id) && not (is_some o)) 1 0) (sym (updates.2 id apart)) in
      omega (arith, no_more, so_far, alike)

  pub gains_one : GainsRemoved old new before more
  gains_one id = go (is_at (map_order.ghosts.cmp next) id) refl
    where
      go : (b : Bool) → is_at (map_order.ghosts.cmp next) id ≡ b → often id more ≡ often id before + cond (is_removed old new id) 1 0
      go true s =
          let P : MapId → Type 0 = λ x. often x more ≡ often x before + cond (is_removed old new x) 1 0 in
          subst P (same_id next id s) at_next
      go false s = elsewhere id s

-- the first that goes
pub gains_first : (old new : Store) (items more : List MapId) (id : MapId) → is_some (at old id) ≡ true → Updates map_order.ghosts.cmp old new id None
    → more ≡ items ++ id ∷ [] → GainsRemoved old new items more
gains_first old new items more id here updates added = gains_one old old new items items more id (gains_none old items) here here updates added

-- what falls next was there
pub was_there_before : (old now : Store) (id next : MapId) → IsFalling old now id → is_some (at now next) ≡ true → is_some (at old next) ≡ true
was_there_before old now id next falling here = elim (falling.each next) [
  | inl same ↦ ap is_some (sym same) ∙ here
  | inr fell ↦ absurd (true≢false (sym here ∙ ap is_some fell.0))
]
